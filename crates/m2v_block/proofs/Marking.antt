-- Bits that tell which levels are 0: what the lowest of them says, and what is left behind it.
use Rattle.std.proofs.Common.{◌≡◌, ℕ, suc, ◌+◌, ◌-◌, ◌/◌, ◌%◌, ◌^◌, ◌<◌, ◌≤◌, Bool, true, false, not, List, [], ◌∷◌, map, take, replicate, length, get_or, refl, sym, ap, ◌∙◌, arith, ℤ, pos, negsuc, w32, w64, to_z, of_z, inl, inr}
use Rattle.std.specs.Prelude.{cond, All}
use Rattle.std.specs.Int.{bit_at, trailing_zeros}
use Rattle.std.proofs.Math.Nat.{div-div-eq-div-mul}
use Rattle.std.proofs.lemmas.Nat.{pow-add}
use Rattle.std.proofs.lemmas.Nat.Bits.{bit_at-trailing_zeros, bit_at-zero}
use Rattle.std.proofs.lemmas.Bool.{eqb-true, ne_eqb, true≢false, cases_lt, cases_Bool}
use Rattle.std.proofs.lemmas.Int.{to_z-of_z}
use Rattle.std.proofs.lemmas.List.{get_or_past, length-map, take_all}
use Rattle.std.proofs.lemmas.List.Elements.{All-get_or}
use Rattle.std.proofs.lemmas.Simd.{zip2_splat, map-map, mask_l-mod, bit_mask_l}
use Rattle.std.proofs.Math.ListN.{get_or-map}
use lib.Lanes.{zip2, mask_l, top}
use borrow.Rule.Simd.Lanes.{act2}
use borrow.Table.Row.{s_int}
use mir.Syntax.{mask, ne}
use mir.Val.{SFits}
use Rattle.m2v_quant.specs.Kinds.{IsLevel}
use Rattle.m2v_quant.proofs.Placed.{bit_of, is_none, is_some}
use Rattle.m2v_block.specs.Texts.{is_zero}
use Rattle.m2v_block.specs.Marked.{AreMarked}
use Rattle.m2v_block.proofs.Ranges.{level_fits}

pub zero_level : (z : ℤ) → is_zero z ≡ true → z ≡ pos 0
zero_level (pos n) e = ap pos (eqb-true n 0 e)
zero_level (negsuc n) e = absurd (omega (arith, eqb-true (suc n) 0 e))

shifted : (n r k : ℕ) → bit_at (n / 2 ^ r) k ≡ bit_at n (r + k)
shifted n r k = ap (λ (m : ℕ). m % 2) (div-div-eq-div-mul n (2 ^ r) (2 ^ k) ∙ ap (λ (m : ℕ). n / m) (sym (pow-add 2 r k)))

-- one lane
abbrev NE : ℕ → ℕ → ℕ
NE = act2 (mask ne) (s_int w32) (s_int w32) (s_int w32)

differs : (n : ℕ) → (n ≡ 0 → ⊥) → top 31 (NE n 0) ≡ true
differs n some_ = rw (ne_eqb n 0 some_) refl

level_is : (z : ℤ) → SFits w32 z → of_z w32 z ≡ 0 → z ≡ pos 0
level_is z fits e = sym (to_z-of_z w32 z fits) ∙ ap (to_z w32) e

lane : (z : ℤ) → SFits w32 z → top 31 (NE (of_z w32 z) 0) ≡ not (is_zero z)
lane z fits = elim (cases_Bool (is_zero z)) [
  | inl is ↦ rw (zero_level z is) refl
  | inr not_ ↦ rw not_ (differs (of_z w32 z) (λ e. true≢false (sym (ap is_zero (level_is z fits e)) ∙ not_)))
]

lanes : (zs : List ℤ) → ((k : ℕ) → SFits w32 (get_or zs k (pos 0))) → map (λ z. top 31 (NE (of_z w32 z) 0)) zs ≡ map (λ z. not (is_zero z)) zs
lanes [] fits = refl
lanes (z ∷ zs) fits = λ i. lane z (fits 0) i ∷ lanes zs (λ k. fits (suc k)) i

turned : (b : Bool) → cond (not b) 1 0 ≡ bit_of b
turned true = refl
turned false = refl

fit : (levels : List ℤ) → All IsLevel levels → (k : ℕ) → SFits w32 (get_or levels k (pos 0))
fit levels within k = elim (cases_lt k (length levels)) [
  | inl inside ↦ level_fits _ (All-get_or IsLevel levels k (pos 0) inside within)
  | inr past ↦ rw (get_or_past levels k (pos 0) past) (record { sfits = omega arith })
]

-- all lanes
pub marked : (levels : List ℤ) → length levels ≡ 64 → All IsLevel levels
    → AreMarked levels 0 (mask_l (map (top 31) (zip2 NE (map (of_z w32) (take 64 levels)) (replicate 64 0))) % 2 ^ 64)
marked levels len within = λ k.
    let whole : take 64 levels ≡ levels = take_all 64 levels (omega arith) in
    let words : length (map (of_z w32) levels) ≡ 64 = length-map levels (of_z w32) ∙ len in
    let bits = map (λ z. not (is_zero z)) levels in
    let these : map (top 31) (zip2 NE (map (of_z w32) (take 64 levels)) (replicate 64 0)) ≡ bits =
    ap (λ zs. map (top 31) (zip2 NE (map (of_z w32) zs) (replicate 64 0))) whole
    ∙ ap (map (top 31)) (zip2_splat NE (map (of_z w32) levels) 64 0 words)
    ∙ map-map (top 31) (λ n. NE n 0) (map (of_z w32) levels)
    ∙ map-map (λ n. top 31 (NE n 0)) (of_z w32) levels
    ∙ lanes levels (fit levels within) in
    let few : length bits ≤ 64 = omega (arith, length-map levels (λ z. not (is_zero z)), len) in
    let place : k ≡ 0 + k = omega arith in
    ap (λ (m : ℕ). bit_at m k) (ap (λ (ms : List Bool). mask_l ms % 2 ^ 64) these ∙ mask_l-mod bits 64 few)
    ∙ bit_mask_l bits k
    ∙ ap (λ (b : Bool). cond b 1 0) (get_or-map (λ z. not (is_zero z)) levels k (pos 0))
    ∙ turned (is_zero (get_or levels k (pos 0)))
    ∙ ap (λ i. bit_of (is_zero (get_or levels i (pos 0)))) place

-- nothing is marked
pub none_marked : (levels : List ℤ) (at rest : ℕ) → AreMarked levels at rest → rest ≡ 0 → (k : ℕ) → at ≤ k → get_or levels k (pos 0) ≡ pos 0
none_marked levels at rest marks e k le =
    let place : at + (k - at) ≡ k = omega arith in
    let low : bit_at rest (k - at) ≡ 0 = ap (λ n. bit_at n (k - at)) e ∙ bit_at-zero (k - at) in
    ap (λ i. get_or levels i (pos 0)) (sym place) ∙ zero_level _ (is_none _ (sym (marks (k - at)) ∙ low))

-- behind all levels nothing is
pub past_marked : (levels : List ℤ) (at : ℕ) → length levels ≤ at → AreMarked levels at 0
past_marked levels at le = λ k.
    bit_at-zero k ∙ ap (λ z. bit_of (is_zero z)) (sym (get_or_past levels (at + k) (pos 0) (omega arith)))

pub marked_from : (levels : List ℤ) (marks from : ℕ) → AreMarked levels 0 marks → AreMarked levels from (marks / 2 ^ from)
marked_from levels marks from h = λ k.
    let place : 0 + (from + k) ≡ from + k = omega arith in
    shifted marks from k ∙ h (from + k) ∙ ap (λ i. bit_of (is_zero (get_or levels i (pos 0)))) place

pub marked_behind : (levels : List ℤ) (at marks run : ℕ) → AreMarked levels at marks → AreMarked levels (at + run + 1) (marks / 2 ^ run / 2 ^ 1)
marked_behind levels at marks run h = λ k.
    let place : at + (run + (1 + k)) ≡ at + run + 1 + k = omega arith in
    shifted (marks / 2 ^ run) 1 k ∙ shifted marks run (1 + k) ∙ h (run + (1 + k)) ∙ ap (λ i. bit_of (is_zero (get_or levels i (pos 0)))) place

module _ (levels : List ℤ) (at rest r : ℕ) (len : length levels ≡ 64) (has : 0 < rest) (fits : rest < 2 ^ 64) (h : AreMarked levels at rest) (is : r ≡ trailing_zeros w64 rest) where
  lowest : bit_at rest r ≡ 1
  lowest = ap (bit_at rest) is ∙ (bit_at-trailing_zeros w64 rest has fits).1

  pub run_some : is_zero (get_or levels (at + r) (pos 0)) ≡ false
  run_some = is_some _ (sym (h r) ∙ lowest)

  pub run_zeros : (j : ℕ) → j < r → get_or levels (at + j) (pos 0) ≡ pos 0
  run_zeros j lt = zero_level _ (is_none _ (sym (h j) ∙ (bit_at-trailing_zeros w64 rest has fits).2 j (omega (arith, is))))

  pub run_within : at + r < 64
  run_within = elim (cases_lt (at + r) 64) [
    | inl inside ↦ inside
    | inr past ↦ absurd (true≢false (sym (ap is_zero (get_or_past levels (at + r) (pos 0) (omega arith))) ∙ run_some))
  ]
