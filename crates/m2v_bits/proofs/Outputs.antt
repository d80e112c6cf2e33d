-- Outputs that gain one text behind another.
use Rattle.std.proofs.Common.{◌≡◌, ℕ, ◌≤◌, List, [], Bool, ◌++◌, length, refl, sym, ap, ◌∙◌, subst, append_assoc, append-nil, arith}
use Rattle.std.proofs.lemmas.List.{length-append}
use Rattle.m2v_bits.specs.Outputs.{Gains}

-- a part of a whole text is gained, and the rest of it is still to come
pub record GainsBut {O : Type 0} (took : O → List Bool → Type 0) (space : O → ℕ) (old : O) (rest whole : List Bool) (new : O) : Type 0 where
  pub part : List Bool
  pub gains : Gains took space old part new
  pub joins : part ++ rest ≡ whole

module _ {O : Type 0} {took : O → List Bool → Type 0} {space : O → ℕ} where
  pub gains_none : {a : O} → Gains took space a [] a
  gains_none {a} = record { taken = λ before has. subst (took a) (sym (append-nil before)) has; less = omega arith }

  pub gains_on : {a b c : O} {s t : List Bool} → Gains took space a s b → Gains took space b t c → Gains took space a (s ++ t) c
  gains_on {a} {b} {c} {s} {t} first then_ = record {
    taken = λ before has. subst (took c) (append_assoc before s t) (then_.taken (before ++ s) (first.taken before has));
    less = omega (arith, length-append s t, first.less, then_.less);
  }

  pub gains_but_all : {a : O} {whole : List Bool} → GainsBut took space a whole whole a
  gains_but_all {a} {whole} = record { part = []; gains = gains_none; joins = refl }

  pub gains_but_less : {a b c : O} {s rest here whole : List Bool} → GainsBut took space a here whole b → here ≡ s ++ rest → Gains took space b s c → GainsBut took space a rest whole c
  gains_but_less {a} {b} {c} {s} {rest} {here} {whole} before is more = record {
    part = before.part ++ s;
    gains = gains_on before.gains more;
    joins = append_assoc before.part s rest ∙ ap (λ (x : List Bool). before.part ++ x) (sym is) ∙ before.joins;
  }

  pub gains_but_none : {a b c : O} {s whole : List Bool} → GainsBut took space a s whole b → Gains took space b s c → Gains took space a whole c
  gains_but_none {a} {b} {c} {s} {whole} before more = subst (λ (x : List Bool). Gains took space a x c) before.joins (gains_on before.gains more)

  -- there is room for what comes next
  pub room_for_next : {a b : O} {here whole : List Bool} (s rest : List Bool) → GainsBut took space a here whole b → here ≡ s ++ rest → length whole ≤ space a → length s ≤ space b
  room_for_next {a} {b} {here} {whole} s rest before is enough =
      omega (arith, before.gains.less, ap length before.joins, length-append before.part here, ap length is, length-append s rest)

  pub room_for_last : {a b : O} {here whole : List Bool} → GainsBut took space a here whole b → length whole ≤ space a → length here ≤ space b
  room_for_last {a} {b} {here} {whole} before enough =
      omega (arith, before.gains.less, ap length before.joins, length-append before.part here)
