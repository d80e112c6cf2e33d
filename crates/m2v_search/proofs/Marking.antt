-- Bits that tell which bounds lie below a limit: what is known of those that are 0.
use Rattle.std.proofs.Common.{◌≡◌, ◌≢◌, ℕ, ◌+◌, ◌-◌, ◌*◌, ◌%◌, ◌^◌, ◌<◌, ◌≤◌, Bool, true, false, List, map, take, replicate, length, get_or, refl, sym, ap, ◌∙◌, arith, w16, w64, inl, inr}
use Rattle.std.specs.Prelude.{cond, min}
use Rattle.std.specs.Int.{bit_at, bit_not, trailing_zeros}
use Rattle.std.specs.Int.Bits.{bit_and}
use Rattle.std.proofs.lemmas.Nat.{one_shl, pow_below}
use Rattle.std.proofs.lemmas.Nat.Bits.{bit_at_and, bit_at_not, bit_at_ones, bit_at_ones_above, bit_at-trailing_zeros, bit_at-zero}
use Rattle.std.proofs.lemmas.Bool.{lt-ltb, cases_lt}
use Rattle.std.proofs.lemmas.List.{get_or-map, length-map, take_all}
use Rattle.std.proofs.lemmas.Simd.{zip2_splat, map-map, mask_l-mod, bit_mask_l}
use lib.Lanes.{zip2, mask_l, top}
use borrow.Rule.Simd.Lanes.{act2}
use borrow.Table.Row.{s_int}
use mir.Syntax.{mask, lt, unsigned}
use Rattle.m2v_search.specs.Bounds.{TellBelow}

-- a bit behind a mask of those from a column on
bit_kept : (bits at cover k : ℕ) → at < 64 → cover ≡ (1 * 2 ^ at) % 2 ^ 64 - 1 → k < 64 → bit_at (bit_and bits (bit_not w64 cover)) k ≡ min (bit_at bits k) (1 - bit_at (2 ^ at - 1) k)
bit_kept bits at cover k few is low =
    let ones : cover ≡ 2 ^ at - 1 = omega (arith, is, one_shl at 64 few) in
    let fits : cover < 2 ^ 64 = omega (arith, ones, pow_below at 64 few) in
    bit_at_and bits (bit_not w64 cover) k
    ∙ ap (min (bit_at bits k)) (bit_at_not w64 cover k fits low ∙ ap (λ (m : ℕ). 1 - bit_at m k) ones)

-- so such bits tell
pub told_from : (bounds : ℕ → ℕ) (limit at bits cover : ℕ) → at ≤ 32 → cover ≡ (1 * 2 ^ at) % 2 ^ 64 - 1 → ((k : ℕ) → k < 32 → bit_at bits k ≡ 0 → limit ≤ bounds k)
    → TellBelow bounds limit at (bit_and bits (bit_not w64 cover))
told_from bounds limit at bits cover few is all = record {
  before = λ k under. omega (arith, bit_kept bits at cover k (omega arith) is (omega arith), bit_at_ones at k under);
  passed = λ k from low none. all k low (omega (arith, bit_kept bits at cover k (omega arith) is (omega arith), bit_at_ones_above at k from, none));
}

module _ {bounds : ℕ → ℕ} {limit column bits : ℕ} where
  -- the first bit that is 1 doesn't stand before the column
  pub first_behind : TellBelow bounds limit column bits → (x : ℕ) → column ≤ 64 → (x < 64 → bit_at bits x ≡ 1) → column ≤ x
  first_behind tell x few some = elim (cases_lt x column) [
    | inl under ↦ absurd (omega (arith, tell.before x under, some (omega arith)))
    | inr le ↦ le
  ]

  -- and they tell of the bounds from there on
  pub tell_on : TellBelow bounds limit column bits → (x : ℕ) → column ≤ x → ((k : ℕ) → k < x → bit_at bits k ≡ 0) → TellBelow bounds limit x bits
  tell_on tell x le none = record { before = none; passed = λ k from. tell.passed k (omega arith) }

  -- without the first of them they tell of the bounds behind it
  pub tell_without : TellBelow bounds limit column bits → (less : ℕ) → column < 32 → bit_at less column ≡ 0
      → ((k : ℕ) → k < 64 → k ≢ column → bit_at less k ≡ bit_at bits k) → TellBelow bounds limit (column + 1) less
  tell_without tell less few gone others = record {
    before = λ k under. elim (cases_lt k column) [
      | inl below ↦ others k (omega arith) (λ e. omega (arith, e)) ∙ tell.before k below
      | inr le ↦ let here : k ≡ column = omega arith in ap (bit_at less) here ∙ gone
    ];
    passed = λ k from low none. tell.passed k (omega arith) low (sym (others k (omega arith) (λ e. omega (arith, e))) ∙ none);
  }

-- one lane
abbrev LT : ℕ → ℕ → ℕ
LT = act2 (mask (lt unsigned)) (s_int w16) (s_int w16) (s_int w16)

less_marked : (a b : ℕ) → a < b → top 15 (LT a b) ≡ true
less_marked a b less = rw (lt-ltb a b less) refl

-- all lanes
pub below_told : (bounds : List ℕ) (limit l : ℕ) → length bounds ≡ 32 → l ≡ min limit 65535 → (k : ℕ) → get_or bounds k 0 ≤ 65280 → k < 32
    → bit_at (mask_l (map (top 15) (zip2 LT (take 32 bounds) (replicate 32 l))) % 2 ^ 64) k ≡ 0 → limit ≤ get_or bounds k 0
below_told bounds limit l len is k most fits none = elim (cases_lt (get_or bounds k 0) l) [
  | inl less ↦
      let whole : take 32 bounds ≡ bounds = take_all 32 bounds (omega (arith, len)) in
      let bits = map (λ n. top 15 (LT n l)) bounds in
      let these : map (top 15) (zip2 LT (take 32 bounds) (replicate 32 l)) ≡ bits =
      ap (λ xs. map (top 15) (zip2 LT xs (replicate 32 l))) whole
      ∙ ap (map (top 15)) (zip2_splat LT bounds 32 l len)
      ∙ map-map (top 15) (λ n. LT n l) bounds in
      let few : length bits ≤ 64 = omega (arith, length-map bounds (λ n. top 15 (LT n l)), len) in
      let one : bit_at (mask_l (map (top 15) (zip2 LT (take 32 bounds) (replicate 32 l))) % 2 ^ 64) k ≡ 1 =
      ap (λ (m : ℕ). bit_at m k) (ap (λ (ms : List Bool). mask_l ms % 2 ^ 64) these ∙ mask_l-mod bits 64 few)
      ∙ bit_mask_l bits k
      ∙ ap (λ (b : Bool). cond b 1 0) (get_or-map (λ n. top 15 (LT n l)) bounds k 0 false (omega (arith, fits, len)) ∙ less_marked (get_or bounds k 0) l less) in
      absurd (omega (arith, one, none))
  | inr more ↦ omega (arith, more, is, most)
]

-- no bit is set below the lowest one that is
pub none_before : (bits k : ℕ) → bits < 2 ^ 64 → k < trailing_zeros w64 bits → bit_at bits k ≡ 0
none_before bits k fits below = elim (cases_lt 0 bits) [
  | inl some ↦ (bit_at-trailing_zeros w64 bits some fits).2 k below
  | inr zero_ ↦ let e : bits ≡ 0 = omega arith in ap (λ n. bit_at n k) e ∙ bit_at-zero k
]

-- it is, if it stands at a place that bits have
pub some_first : (bits : ℕ) → bits < 2 ^ 64 → trailing_zeros w64 bits < 64 → bit_at bits (trailing_zeros w64 bits) ≡ 1
unfolding lib.Count.count_trailing_zeros
some_first bits fits few = elim (cases_lt 0 bits) [
  | inl some ↦ (bit_at-trailing_zeros w64 bits some fits).1
  | inr zero_ ↦
      let e : bits ≡ 0 = omega arith in
      let far : trailing_zeros w64 bits ≡ 64 = ap (trailing_zeros w64) e in
      absurd (omega (arith, far, few))
]
