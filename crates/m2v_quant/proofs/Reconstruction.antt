-- Reconstruction by size and sign is that of the standard, and a sum's parity goes by the sizes.
use Rattle.std.proofs.Common.{◌≡◌, ℕ, zero, suc, ◌+◌, ◌*◌, ◌/◌, ◌%◌, ◌^◌, ◌<◌, ◌≤◌, Bool, true, false, cond, refl, ap, sym, ◌∙◌, arith, List, length, map, get_or, set, get_or-set_other, get_or-set_same, below_more, ◌≢◌, ℤ, pos, negsuc, ◌+ℤ◌, ◌*ℤ◌, inl, inr}
use Rattle.std.specs.Prelude.{neg_ℤ, min, unsigned_abs}
use Rattle.std.specs.Int.{int_max, int_min}
use Rattle.std.specs.Int.RustNames.{int_div}
use Rattle.std.specs.List.{range_with_len}
use Rattle.std.specs.Int.Bits.{bit_xor}
use Rattle.std.proofs.lemmas.Nat.Bits.{bit_at_lowest, bit_at_xor}
use Rattle.std.proofs.lemmas.Int.{clamps, ints}
use Rattle.std.proofs.lemmas.Bool.{ne_eqb, eq-eqb, cases_eq}
use Rattle.std.proofs.lemmas.List.FromFn.{fill_by_all, get_or-map-range_with_len}
use Rattle.std.proofs.Math.ListN.{length-set}
use Rattle.m2v_quant.specs.declared.kind.BlockKind.{BlockKind}
use mir.Syntax.{w32}
use mir.Val.{of_z}
use Rattle.m2v_quant.specs.Kinds.{IsCoefficient}
use Rattle.m2v_quant.specs.Quantiser.{ac_level, with_sign}
use Rattle.m2v_quant.specs.Coefficients.{ac_coefficient, dc_coefficient, saturated_at, coefficient_sum, other_parity, coefficient_at, coefficients_of}

negated : (a s : ℕ) → neg_ℤ (pos a) *ℤ pos s ≡ neg_ℤ (pos (a * s))
negated zero s = let e : 0 * s ≡ 0 = omega arith in rw e refl
negated (suc a) s = refl

divided : (a : ℕ) → int_div (neg_ℤ (pos a)) (pos 32) ≡ neg_ℤ (pos (a / 32))
divided zero = refl
divided (suc a) = refl

-- twice a level that is not positive, and what is added to it
doubled : (intra : Bool) (n : ℕ) → pos 2 *ℤ negsuc n +ℤ cond intra (pos 0) (negsuc 0) ≡ neg_ℤ (pos (2 * suc n + cond intra 0 (min (suc n) 1)))
doubled true n = omega (arith, ints)
doubled false n = omega (arith, ints)

added : (intra : Bool) (n : ℕ) → pos 2 *ℤ pos n +ℤ cond intra (pos 0) (pos (min n 1)) ≡ pos (2 * n + cond intra 0 (min n 1))
added true n = refl
added false n = refl

pub ac_is : (intra : Bool) (step : ℕ) (level : ℤ) → with_sign level ((2 * unsigned_abs level + cond intra 0 (min (unsigned_abs level) 1)) * step / 32) ≡ ac_coefficient intra step level
unfolding with_sign ac_coefficient
ac_is intra step (pos n) = sym (ap (λ (z : ℤ). int_div (z *ℤ pos step) (pos 32)) (added intra n))
ac_is intra step (negsuc n) =
    let m = 2 * suc n + cond intra 0 (min (suc n) 1) in
    sym (ap (λ (z : ℤ). int_div (z *ℤ pos step) (pos 32)) (doubled intra n) ∙ ap (λ (z : ℤ). int_div z (pos 32)) (negated m step) ∙ divided (m * step))

-- the encoder's division cuts toward zero too
cut_down : (a step : ℕ) → int_div (neg_ℤ (pos a)) (pos step) ≡ neg_ℤ (pos (a / step))
cut_down zero step = let e : 0 / step ≡ 0 = omega arith in rw e refl
cut_down (suc a) step = refl

negative : (a h : ℕ) → pos 16 *ℤ negsuc a +ℤ neg_ℤ (pos h) ≡ neg_ℤ (pos (16 * suc a + h))
negative a h = omega (arith, ints)

pub level_is : (intra : Bool) (step : ℕ) (f : ℤ)
    → int_max (int_min (int_div (pos 16 *ℤ f +ℤ with_sign f (cond intra (step / 2) 0)) (pos step)) (pos 2047)) (neg_ℤ (pos 2047)) ≡ ac_level intra step f
unfolding ac_level with_sign
level_is intra step (pos a) = omega (arith, ints, clamps)
level_is intra step (negsuc a) =
    let h = cond intra (step / 2) 0 in
    let quotient : int_div (pos 16 *ℤ negsuc a +ℤ neg_ℤ (pos h)) (pos step) ≡ neg_ℤ (pos ((16 * suc a + h) / step)) =
    ap (λ (z : ℤ). int_div z (pos step)) (negative a h) ∙ cut_down (16 * suc a + h) step in
    rw quotient (omega (arith, ints, clamps))

pub dc_is : (precision : ℕ) (level : ℤ) → with_sign level ((8 / 2 ^ precision) * unsigned_abs level) ≡ dc_coefficient precision level
unfolding with_sign dc_coefficient
dc_is precision (pos n) = refl
dc_is precision (negsuc n) = refl

pub parity_more : (p : ℕ) (s c : ℤ) → p ≡ unsigned_abs s % 2 → (p + unsigned_abs c) % 2 ≡ unsigned_abs (s +ℤ c) % 2
parity_more p (pos a) (pos b) e = omega (arith, ints)
parity_more p (pos a) (negsuc b) e = omega (arith, ints)
parity_more p (negsuc a) (pos b) e = omega (arith, ints)
parity_more p (negsuc a) (negsuc b) e = omega (arith, ints)

-- a level other than 0 has a size
pub some_size : (z : ℤ) → z ≢ pos 0 → 1 ≤ unsigned_abs z
some_size (pos zero) some = absurd (some refl)
some_size (pos (suc n)) some = omega arith
some_size (negsuc n) some = omega arith

-- bits that are mixed have the parity of the sum
pub mixed_parity : (a b : ℕ) → bit_xor a b % 2 ≡ (a + b) % 2
mixed_parity a b = let mixed = bit_at_xor a b 0 in omega (arith, mixed, bit_at_lowest (bit_xor a b), bit_at_lowest a, bit_at_lowest b)

pub bits_parity : (z : ℤ) → IsCoefficient z → of_z w32 z % 2 ≡ unsigned_abs z % 2
bits_parity (pos n) h = omega (arith, ints, h.0, h.1)
bits_parity (negsuc n) h = omega (arith, ints, h.0, h.1)

-- one more place is written
pub write_next : (P : ℕ → ℤ → Type 0) (xs : List ℤ) (n : ℕ) (v : ℤ) → n < length xs → ((k : ℕ) → k < n → P k (get_or xs k (pos 0))) → P n v
    → (k : ℕ) → k < n + 1 → P k (get_or (set xs n v) k (pos 0))
write_next P xs n v inside h here =
    below_more (λ k. P k (get_or (set xs n v) k (pos 0))) n
    (λ k l. let ne : k ≢ n = omega arith in rw get_or-set_other (h k l))
    (rw get_or-set_same here)

other_place : (levels : List ℤ) (kind : BlockKind) (k : ℕ) → (k ≡ 63 → ⊥) → coefficient_at levels kind k ≡ saturated_at levels kind k
unfolding coefficient_at
other_place levels kind k ne = rw (ne_eqb k 63 ne) refl

-- the sum is odd
odd_place : (levels : List ℤ) (kind : BlockKind) (k : ℕ) → (unsigned_abs (coefficient_sum 64 (saturated_at levels kind)) % 2 ≡ 0 → ⊥) → coefficient_at levels kind k ≡ saturated_at levels kind k
unfolding coefficient_at
odd_place levels kind k odd = elim (cases_eq k 63) [
  | inl same ↦ rw (ne_eqb (unsigned_abs (coefficient_sum 64 (saturated_at levels kind)) % 2) 0 odd, eq-eqb k 63 same) refl
  | inr ne ↦ rw (ne_eqb k 63 ne) refl
]

even_last : (levels : List ℤ) (kind : BlockKind) → unsigned_abs (coefficient_sum 64 (saturated_at levels kind)) % 2 ≡ 0 → coefficient_at levels kind 63 ≡ other_parity (saturated_at levels kind 63)
unfolding coefficient_at
even_last levels kind even = rw even refl

abbrev before : List ℤ → BlockKind → List ℤ
before levels kind = map (saturated_at levels kind) (range_with_len 0 64)

at_before : (levels : List ℤ) (kind : BlockKind) (xs : List ℤ) (k : ℕ) → xs ≡ before levels kind → k < 64 → get_or xs k (pos 0) ≡ saturated_at levels kind k
at_before levels kind xs k e lt = ap (λ (ys : List ℤ). get_or ys k (pos 0)) e ∙ get_or-map-range_with_len (saturated_at levels kind) 0 64 k k (pos 0) lt (omega arith)

odd_block : (levels : List ℤ) (kind : BlockKind) (xs : List ℤ) → length xs ≡ 64 → xs ≡ before levels kind → (unsigned_abs (coefficient_sum 64 (saturated_at levels kind)) % 2 ≡ 0 → ⊥) → xs ≡ coefficients_of levels kind
unfolding coefficients_of
odd_block levels kind xs len e odd = fill_by_all (coefficient_at levels kind) xs 64 (pos 0) len (λ k lt. at_before levels kind xs k e lt ∙ sym (odd_place levels kind k odd))

even_place : (levels : List ℤ) (kind : BlockKind) (xs : List ℤ) (v : ℤ) → length xs ≡ 64 → xs ≡ before levels kind → unsigned_abs (coefficient_sum 64 (saturated_at levels kind)) % 2 ≡ 0 → v ≡ other_parity (get_or xs 63 (pos 0))
    → (k : ℕ) → k < 64 → get_or (set xs 63 v) k (pos 0) ≡ coefficient_at levels kind k
even_place levels kind xs v len e even is k lt = elim (cases_eq k 63) [
  | inl same ↦ let inside : 63 < length xs = omega arith in rw same (rw get_or-set_same (is ∙ ap other_parity (at_before levels kind xs 63 e (omega arith)) ∙ sym (even_last levels kind even)))
  | inr ne ↦ let apart : k ≢ 63 = ne in rw get_or-set_other (at_before levels kind xs k e lt ∙ sym (other_place levels kind k ne))
]

even_block : (levels : List ℤ) (kind : BlockKind) (xs : List ℤ) (v : ℤ) → length xs ≡ 64 → xs ≡ before levels kind → unsigned_abs (coefficient_sum 64 (saturated_at levels kind)) % 2 ≡ 0 → v ≡ other_parity (get_or xs 63 (pos 0))
    → set xs 63 v ≡ coefficients_of levels kind
unfolding coefficients_of
even_block levels kind xs v len e even is = fill_by_all (coefficient_at levels kind) (set xs 63 v) 64 (pos 0) (length-set xs 63 v ∙ len) (even_place levels kind xs v len e even is)

-- with mismatch control
pub mismatched : (levels : List ℤ) (kind : BlockKind) (xs ys : List ℤ) (parity : ℕ) → length xs ≡ 64 → xs ≡ before levels kind
    → parity ≡ unsigned_abs (coefficient_sum 64 (saturated_at levels kind)) % 2
    → (parity ≡ 0 → ys ≡ set xs 63 (other_parity (get_or xs 63 (pos 0)))) → (parity ≢ 0 → ys ≡ xs) → ys ≡ coefficients_of levels kind
mismatched levels kind xs ys parity len e is even odd = elim (cases_eq parity 0) [
  | inl none ↦ even none ∙ even_block levels kind xs _ len e (sym is ∙ none) refl
  | inr some ↦ odd some ∙ odd_block levels kind xs len e (λ none. some (is ∙ none))
]
