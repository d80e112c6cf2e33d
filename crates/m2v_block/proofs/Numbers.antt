-- The numbers of DC differences.
use Rattle.std.proofs.Common.{◌≡◌, ℕ, ◌+◌, ◌*◌, ◌-◌, w32, pow-suc, ◌^◌, ◌<◌, ◌≤◌, ℤ, pos, negsuc, ◌<ℤ◌, ◌≤ℤ◌, zero, suc, Bool, true, false, Option, Some, inl, inr, length, refl, ap, sym, arith}
use Rattle.std.specs.Prelude.{unsigned_abs, find, unwrap_or, ◌==◌, ◌/◌}
use Rattle.std.specs.List.{range_with_len}
use Rattle.std.specs.Int.{leading_zeros}
use Rattle.std.proofs.Math.Nat.{pow-le-pow_right, lt-div-mul-add, div-eq_of_lt}
use Rattle.std.proofs.lemmas.Nat.{leading_top, pow_pos}
use Rattle.std.proofs.lemmas.Int.{ints}
use Rattle.std.proofs.lemmas.Bool.{eq-eqb, ne_eqb, cases_lt, cases_Bool}
use Rattle.m2v_block.specs.Dc.{number_of, size_of, size_code, dc_text}
use Rattle.std.proofs.lemmas.List.{length-append}
use Rattle.m2v_bits.specs.Bits.{bits_of}
use Rattle.m2v_bits.proofs.Bits.{length-bits_of}
use Rattle.m2v_vlc.proofs.Sizes.{dc_luma_length, dc_chroma_length}

pub negative_number : (size power r : ℕ) (d : ℤ) → d <ℤ pos 0 → power ≡ 2 ^ size → r ≡ unsigned_abs d → power - 1 - r ≡ number_of size d
unfolding number_of
negative_number size power r (pos n) lt e is = absurd (omega (arith, ints))
negative_number size power r (negsuc n) lt e is = rw (e, is) refl

pub positive_number : (size r : ℕ) (d : ℤ) → pos 0 ≤ℤ d → r ≡ unsigned_abs d → r ≡ number_of size d
unfolding number_of
positive_number size r (pos n) le is = is
positive_number size r (negsuc n) le is = absurd (omega (arith, ints))

find_least : (p : ℕ → Bool) (a n r : ℕ) → a ≤ r → r < a + n → ((k : ℕ) → a ≤ k → k < r → p k ≡ false) → p r ≡ true → find p (range_with_len a n) ≡ Some r
find_least p a zero r le lt none is = absurd (omega arith)
find_least p a (suc n) r le lt none is = elim (cases_lt a r) [
  | inl below ↦ rw (none a (omega arith) below) (find_least p (a + 1) n r (omega arith) (omega arith) (λ k from to. none k (omega arith) to) is)
  | inr above ↦ let same : a ≡ r = omega arith in rw same (rw is refl)
]

-- the least size of a magnitude
pub least_size : (magnitude r : ℕ) → r < 12 → ((k : ℕ) → k < r → magnitude / 2 ^ k ≡ 0 → ⊥) → magnitude / 2 ^ r ≡ 0 → r ≡ size_of magnitude
unfolding size_of
least_size magnitude r lt none is =
    let found = find_least (λ s. magnitude / 2 ^ s == 0) 0 12 r (omega arith) (omega arith) (λ k from to. ne_eqb (magnitude / 2 ^ k) 0 (none k to)) (eq-eqb (magnitude / 2 ^ r) 0 is) in
    sym (ap (λ (o : Option ℕ). unwrap_or o 12) found)

-- the size by the highest bit of twice a magnitude and one
pub size_by_top : (magnitude j : ℕ) → j < 12 → 2 ^ j ≤ 2 * magnitude + 1 → magnitude < 2 ^ j → j ≡ size_of magnitude
size_by_top magnitude j lt low high =
    least_size magnitude j lt
    (λ k less none.
    let most : 2 ^ suc k ≤ 2 ^ j = pow-le-pow_right {n = 2} (omega arith) {i = suc k} {j = j} (omega arith) in
    let twice = pow-suc 2 k in
    let above = lt-div-mul-add {a = magnitude} {b = 2 ^ k} (pow_pos k) in
    let here : magnitude < 0 * 2 ^ k + 2 ^ k = rw (← none) above in
    omega (arith, most, twice, low, here))
    (div-eq_of_lt high)

pub size_small : (magnitude j : ℕ) → magnitude < 2 ^ 11 → 2 ^ j ≤ 2 * magnitude + 1 → j < 12
size_small magnitude j small low = elim (cases_lt j 12) [
  | inl inside ↦ inside
  | inr past ↦
      let most : 2 ^ 12 ≤ 2 ^ j = pow-le-pow_right {n = 2} (omega arith) {i = 12} {j = j} past in
      absurd (omega (arith, most, low, small))
]

-- what is told by the zeros before the highest bit
pub record IsSize (magnitude r : ℕ) : Type 0 where
  pub value : r ≡ size_of magnitude
  pub most : r < 12
  pub fits : magnitude < 2 ^ r

pub size_by_zeros : (magnitude odd r : ℕ) → magnitude < 2 ^ 11 → odd ≡ 2 * magnitude + 1 → r ≡ 31 - leading_zeros w32 odd → IsSize magnitude r
size_by_zeros magnitude odd r small is at =
    let top = leading_top 32 odd (omega arith) (omega (arith, small)) in
    let j = top.0 in
    let same : r ≡ j = omega (arith, at, top.1) in
    let low : 2 ^ j ≤ 2 * magnitude + 1 = omega (arith, is, top.2) in
    let twice = pow-suc 2 j in
    let high : magnitude < 2 ^ j = omega (arith, is, twice, top.3) in
    let few = size_small magnitude j small low in
    rw same (record { value = size_by_top magnitude j few low high; most = few; fits = high })

within_range : (p : ℕ → Bool) (a n end : ℕ) → a + n ≡ end → unwrap_or (find p (range_with_len a n)) end ≤ end
within_range p a zero end e = omega arith
within_range p a (suc n) end e = elim (cases_Bool (p a)) [
  | inl on ↦ rw on (omega arith)
  | inr off ↦ rw off (within_range p (a + 1) n end (omega arith))
]

pub size_most : (magnitude : ℕ) → size_of magnitude ≤ 12
unfolding size_of
size_most magnitude = within_range (λ s. magnitude / 2 ^ s == 0) 0 12 12 (omega arith)

pub code_most : (luma : Bool) (size : ℕ) → length (size_code luma size) ≤ 10
unfolding size_code
code_most true size = omega (arith, dc_luma_length size)
code_most false size = dc_chroma_length size

-- the most bits that a DC difference takes
pub dc_length : (luma : Bool) (d : ℤ) → length (dc_text luma d) ≤ 22
unfolding dc_text
dc_length luma d =
    let size = size_of (unsigned_abs d) in
    omega (arith, length-append (size_code luma size) (bits_of size (number_of size d)), length-bits_of size (number_of size d), code_most luma size, size_most (unsigned_abs d))
