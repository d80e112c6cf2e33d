-- Zeros, and which levels are 0.
use Rattle.std.proofs.Common.{◌≡◌, ℕ, zero, suc, ◌+◌, ◌*◌, ◌/◌, ◌<◌, ◌≤◌, Bool, true, false, refl, arith, get_or, replicate, ℤ, pos, negsuc, inl, inr}
use Rattle.std.proofs.lemmas.Bool.{cases_lt, lt-ltb, le-ltb, ne_eqb}
use Rattle.std.proofs.lemmas.List.{get_or-replicate, get_or_past, length-replicate}
use Rattle.std.proofs.lemmas.Nat.{le-div}
use Rattle.std.specs.Prelude.{cond, min, nat_lt, unsigned_abs}
use Rattle.std.proofs.Math.Nat.{div-eq_of_lt}
use Rattle.m2v_quant.specs.Marks.{limit_of, mark_of}
use Rattle.m2v_quant.specs.Quantiser.{ac_level, with_sign}

-- all of them
pub zeros_at : (n i : ℕ) → get_or (replicate n (pos 0)) i (pos 0) ≡ pos 0
zeros_at n i =
    elim (cases_lt i n) [
      | inl lt ↦ get_or-replicate n i (pos 0) (pos 0) lt
      | inr ge ↦ get_or_past (replicate n (pos 0)) i (pos 0) (omega (arith, ge, length-replicate n (pos 0)))
    ]

size_signed : (z : ℤ) (n : ℕ) → unsigned_abs (with_sign z n) ≡ n
unfolding with_sign
size_signed (pos a) n = refl
size_signed (negsuc a) zero = refl
size_signed (negsuc a) (suc n) = refl

-- what is divided, beside the limit
some_steps : (intra : Bool) (step a : ℕ) → 1 ≤ step → limit_of intra step < a → 1 * step ≤ 16 * a + cond intra (step / 2) 0
some_steps true step a least more = omega (arith, least, more)
some_steps false step a least more = omega (arith, least, more)

no_step : (intra : Bool) (step a : ℕ) → 1 ≤ step → a ≤ limit_of intra step → 16 * a + cond intra (step / 2) 0 < step
no_step true step a least few = omega (arith, least, few)
no_step false step a least few = omega (arith, least, few)

-- 1 where a size is above a limit
abbrev pub mark_above : ℕ → ℕ → ℕ
mark_above limit size = cond (nat_lt limit size) 1 0

-- a level is other than 0 exactly where the size of its coefficient is above the limit
pub level_told : (intra : Bool) (step : ℕ) (z : ℤ) → 1 ≤ step
    → mark_above (limit_of intra step) (unsigned_abs z) ≡ mark_of (ac_level intra step z)
unfolding ac_level
level_told intra step z least =
    let a = unsigned_abs z in
    let q = (16 * a + cond intra (step / 2) 0) / step in
    let size = size_signed z (min q 2047) in
    elim (cases_lt (limit_of intra step) a) [
      | inl more ↦
          let some = le-div 1 (16 * a + cond intra (step / 2) 0) step (omega (arith, least)) (some_steps intra step a least more) in
          rw (lt-ltb (limit_of intra step) a more, size, ne_eqb (min q 2047) 0 (λ e. absurd (omega (arith, e, some)))) refl
      | inr few ↦
          let none : q ≡ 0 = div-eq_of_lt (no_step intra step a least few) in
          rw (le-ltb (limit_of intra step) a few, size, none) refl
    ]
