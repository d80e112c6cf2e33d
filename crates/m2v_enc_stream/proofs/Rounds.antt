-- Macroblocks as rounds, one behind another, until the rest is zero.
use Rattle.std.proofs.Common.{◌≡◌, ℕ, ◌+◌, ◌-◌, ◌/◌, ◌%◌, ◌<◌, Bool, true, false, not, List, [], ◌∷◌, ◌++◌, length, refl, sym, ap, ◌∙◌, subst, arith, append_assoc}
use Rattle.std.proofs.lemmas.List.{length-append}
use Rattle.std.proofs.Math.Nat.{mod-lt}
use Rattle.m2v_bits.specs.Bits.{bits_of, all_zero}
use Rattle.m2v_bits.specs.Syntax.{seq, done, here, Rounds, last, more, Spells}
use Rattle.m2v_bits.specs.Leaves.{zero_at}
use Rattle.m2v_vlc.specs.declared.values.Increment.TheVariants.{Step}
use Rattle.m2v_vlc.specs.Codes.{code_of}
use Rattle.m2v_vlc.specs.Tables.{increment, increment_code}
use Rattle.m2v_vlc.specs.Values.{same_increment}
use Rattle.m2v_vlc.proofs.ValueLaws.{below, agree}
use Rattle.m2v_macro.specs.declared.values.SliceState.{SliceState}
use Rattle.m2v_macro.specs.declared.values.PictureContext.{PictureContext}
use Rattle.m2v_macro.specs.States.{after, pmv_before}
use Rattle.m2v_macro.specs.Texts.{increment_text, escapes_text, modes_text, macro_text, kind_text, form_text, dct_text, quantiser_text, directions_text, pattern_text}
use Rattle.m2v_macroblock.specs.Macroblocks.{Macroblock}
use Rattle.m2v_macroblock.specs.Texts.{macroblock_text, blocks_text}
use Rattle.m2v_model.specs.declared.setup.SliceSetup.{SliceSetup}
use Rattle.m2v_model.specs.Slices.{Row, with_next, macroblock_at, macroblock_round}

-- ---- a macroblock has a bit that is 1

front_one : (t u : List Bool) → all_zero t ≡ false → all_zero (t ++ u) ≡ false
unfolding all_zero
front_one [] u e = absurd cc
front_one (true ∷ t) u e = refl
front_one (false ∷ t) u e = front_one t u e

back_one : (t u : List Bool) → all_zero u ≡ false → all_zero (t ++ u) ≡ false
unfolding all_zero
back_one [] u e = e
back_one (true ∷ t) u e = refl
back_one (false ∷ t) u e = back_one t u e

-- the 33 codes of an increment
codes_one : below (λ i. all_zero (increment_code (Step (i + 1)))) 33 ≡ below (λ i. false) 33
unfolding below code_of increment same_increment bits_of all_zero
codes_one = refl

increment_one : (n : ℕ) → all_zero (increment_text n) ≡ false
unfolding increment_text
increment_one n =
    let least : (n - 1) % 33 < 33 = mod-lt (n - 1) (omega arith) in
    back_one (escapes_text ((n - 1) / 33)) (increment_code (Step ((n - 1) % 33 + 1))) (agree (λ i. all_zero (increment_code (Step (i + 1)))) (λ i. false) 33 ((n - 1) % 33) codes_one least)

-- what stands behind the increment
pub behind_increment : PictureContext → SliceState → Macroblock → List Bool
behind_increment c st x =
    let m = x.syntax in
    (kind_text c.kind m.kind ++ (form_text c m.kind m.form ++ (dct_text c m.kind m.dct_field ++ quantiser_text m.kind m.quantiser)))
    ++ ((directions_text c (pmv_before c st m.increment) m ++ pattern_text m.kind m.pattern) ++ blocks_text c (after c st m) x 0 6)

pub increment_first : (c : PictureContext) (st : SliceState) (x : Macroblock) → macroblock_text c st x ≡ increment_text x.syntax.increment ++ behind_increment c st x
unfolding macroblock_text macro_text modes_text behind_increment
increment_first c st x =
    let m = x.syntax in
    let i = increment_text m.increment in
    let a = kind_text c.kind m.kind ++ (form_text c m.kind m.form ++ (dct_text c m.kind m.dct_field ++ quantiser_text m.kind m.quantiser)) in
    let b = directions_text c (pmv_before c st m.increment) m ++ pattern_text m.kind m.pattern in
    let t = blocks_text c (after c st m) x 0 6 in
    append_assoc (i ++ a) b t ∙ append_assoc i a (b ++ t)

pub macroblock_one : (c : PictureContext) (st : SliceState) (x : Macroblock) → all_zero (macroblock_text c st x) ≡ false
macroblock_one c st x = ap all_zero (increment_first c st x) ∙ front_one (increment_text x.syntax.increment) (behind_increment c st x) (increment_one x.syntax.increment)

-- ---- rounds

round_stands : (s : SliceSetup) (before : Row) (x : Macroblock) (text rest : List Bool) → Spells (macroblock_at s before.state) x text
    → (macroblock_round s before).Stands (not (all_zero rest), with_next s.context before x (length text)) (text ++ rest) rest
unfolding macroblock_round seq here zero_at done
round_stands s before x text rest spells =
    let bits : length text ≡ length (text ++ rest) - length rest = omega (arith, length-append text rest) in
    let made = ap (λ (n : ℕ). (not (all_zero rest), with_next s.context before x n)) bits in
    (length (text ++ rest), text ++ rest, (refl, refl), (x, rest, spells.stands rest, (length rest, rest, (refl, refl), (all_zero rest, rest, (refl, refl), (made, refl)))))

round_by : (s : SliceSetup) (before : Row) (x : Macroblock) (text rest : List Bool) (none : Bool) → Spells (macroblock_at s before.state) x text → all_zero rest ≡ none
    → (macroblock_round s before).Stands (not none, with_next s.context before x (length text)) (text ++ rest) rest
round_by s before x text rest none spells e =
    subst (λ (b : Bool). (macroblock_round s before).Stands (not b, with_next s.context before x (length text)) (text ++ rest) rest) e (round_stands s before x text rest spells)

-- rounds from a first row to another, over a text, whatever rounds stand behind them
pub record Leads (s : SliceSetup) (first : Row) (r : Row) (text : List Bool) : Type 0 where
  pub rounds : (z : Row) (u rest : List Bool) → all_zero u ≡ false → Rounds (macroblock_round s) r z u rest → Rounds (macroblock_round s) first z (text ++ u) rest

pub leads_none : (s : SliceSetup) (first : Row) → Leads s first first []
leads_none s first = record { rounds = λ z u rest some h. h }

module _ (s : SliceSetup) (first r : Row) (text own : List Bool) (x : Macroblock) (before : Leads s first r text) (spells : Spells (macroblock_at s r.state) x own) (one : all_zero own ≡ false) where
  -- a macroblock more
  pub leads_more : Leads s first (with_next s.context r x (length own)) (text ++ own)
  leads_more = record {
    rounds = λ z u rest some h.
        subst (λ (v : List Bool). Rounds (macroblock_round s) first z v rest) (sym (append_assoc text own u))
        (before.rounds z (own ++ u) rest (front_one own u one) (more (round_by s r x own u false spells some) h));
  }

  -- the last macroblock, with zeros behind it
  pub leads_last : (zeros : List Bool) → all_zero zeros ≡ true → Rounds (macroblock_round s) first (with_next s.context r x (length own)) ((text ++ own) ++ zeros) zeros
  leads_last zeros none =
      let z = with_next s.context r x (length own) in
      subst (λ (v : List Bool). Rounds (macroblock_round s) first z v zeros) (sym (append_assoc text own zeros))
      (before.rounds z (own ++ zeros) zeros (front_one own zeros one) (last (round_by s r x own zeros true spells none)))
