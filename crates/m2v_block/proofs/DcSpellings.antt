-- What is written of a DC difference spells the level.
use Rattle.std.proofs.Common.{◌≡◌, ℕ, zero, suc, ◌+◌, ◌-◌, ◌*◌, ◌/◌, ◌^◌, ◌<◌, ◌≤◌, Bool, true, false, [], ◌++◌, length, ℤ, pos, negsuc, ◌+ℤ◌, ◌-ℤ◌, refl, sym, ap, subst, ◌∙◌, arith, inl, inr}
use Rattle.std.specs.Prelude.{nat_eq, nat_lt, nat_le, unsigned_abs}
use Rattle.std.proofs.lemmas.Int.{ints}
use Rattle.std.proofs.lemmas.Bool.{cases_lt, ne_eqb, lt-ltb, le-leb, lt-leb}
use Rattle.std.proofs.lemmas.Nat.{pow_pos}
use Rattle.std.proofs.Math.Nat.{pow-suc, pow-le-pow_right, div-eq_of_lt, le-div_iff_mul-le}
use Rattle.m2v_bits.specs.Bits.{bits_of}
use Rattle.m2v_bits.specs.Syntax.{Spells, done, seq, rule}
use Rattle.m2v_bits.proofs.LeafLaws.{seq_spells, done_spells, here_spells, rule_spells, first_spells, second_spells, renamed_spells, bits_spells}
use Rattle.m2v_vlc.specs.declared.values.CodeFault.TheVariants as codes
use Rattle.m2v_vlc.proofs.Sizes.{dc_luma_spells, dc_chroma_spells}
use Rattle.m2v_block.specs.declared.fault.BlockFault.{BlockFault}
use Rattle.m2v_block.specs.declared.fault.BlockFault.TheVariants.{DcRange}
use Rattle.m2v_block.specs.Faults.{of_code, cut}
use Rattle.m2v_bits.specs.Leaves.{bits_at}
use Rattle.m2v_bits.specs.Elements.{BitSyntax}
use Rattle.m2v_bits.proofs.ElementLaws.{whole_spells}
use Rattle.m2v_block.specs.Dc.{size_of, number_of, size_code, dc_text}
use Rattle.m2v_block.specs.Blocks.{IsDc, is_dc, difference, size_at, dc_at}
use Rattle.m2v_block.proofs.Numbers.{least_size}
use Rattle.m2v_block.proofs.Ranges.{dc_difference}

-- s is the least size of m
record IsSize (m s : ℕ) : Type 0 where
  below : s < 12
  fits : m < 2 ^ s
  least : (k : ℕ) → k < s → 2 ^ k ≤ m

size_from : (m n : ℕ) → n < 12 → m < 2 ^ n → (s : ℕ) × IsSize m s
size_from m zero lt fits = (0, record { below = omega arith; fits = fits; least = λ k l. absurd (omega arith) })
size_from m (suc n) lt fits = elim (cases_lt m (2 ^ n)) [
  | inl small ↦ size_from m n (omega arith) small
  | inr large ↦ (
    suc n,
    record {
      below = lt;
      fits = fits;
      least = λ k l. let most : 2 ^ k ≤ 2 ^ n = pow-le-pow_right {n = 2} (omega arith) {i = k} {j = n} (omega arith) in omega arith;
    },
  )
]

not_none : (m k : ℕ) → 2 ^ k ≤ m → m / 2 ^ k ≡ 0 → ⊥
not_none m k le e =
    let one : 1 ≤ m / 2 ^ k = (le-div_iff_mul-le {k = 2 ^ k} {x = 1} {y = m} (pow_pos k)).1 (omega arith) in
    omega arith

size_is : (m : ℕ) → m < 2 ^ 11 → IsSize m (size_of m)
size_is m lt =
    let found = size_from m 11 (omega arith) lt in
    let same = least_size m found.0 found.1.below (λ k l e. not_none m k (found.1.least k l) e) (div-eq_of_lt found.1.fits) in
    subst (λ (s : ℕ). IsSize m s) same found.1

number_fits : (d : ℤ) (s : ℕ) → IsSize (unsigned_abs d) s → number_of s d < 2 ^ s
unfolding number_of
number_fits (pos n) s h = h.fits
number_fits (negsuc n) s h = let some = pow_pos s in omega (arith, some)

difference_is : (d : ℤ) (s : ℕ) → IsSize (unsigned_abs d) s → difference s (number_of s d) ≡ d
unfolding number_of difference
difference_is (pos n) zero h = let none : n ≡ 0 = omega (arith, h.fits) in rw none refl
difference_is (pos n) (suc s) h =
    let some : nat_eq (suc s) 0 ≡ false = ne_eqb (suc s) 0 (λ e. omega arith) in
    let high : nat_le (2 ^ (suc s - 1)) n ≡ true = le-leb _ _ (h.least (suc s - 1) (omega arith)) in
    rw (some, high) refl
difference_is (negsuc n) zero h = absurd (omega (arith, h.fits))
difference_is (negsuc n) (suc s) h =
    let some : nat_eq (suc s) 0 ≡ false = ne_eqb (suc s) 0 (λ e. omega arith) in
    let half : suc s - 1 ≡ s = omega arith in
    let double : 2 ^ suc s ≡ 2 ^ s * 2 = pow-suc 2 s in
    let least : 2 ^ s ≤ suc n = h.least s (omega arith) in
    let fits : suc n < 2 ^ suc s = h.fits in
    let low : nat_le (2 ^ (suc s - 1)) (2 ^ suc s - 1 - suc n) ≡ false = rw half (lt-leb (2 ^ s) (2 ^ suc s - 1 - suc n) (omega arith)) in
    rw (some, low) (omega (arith, ints))

size_spells : (luma : Bool) (s : ℕ) → s < 12 → Spells (size_at luma) s (size_code luma s)
unfolding size_at size_code
size_spells true s lt = first_spells true _ _ s _ refl (renamed_spells of_code _ s _ (dc_luma_spells codes.Truncated codes.NoCode s lt))
size_spells false s lt = second_spells false _ _ s _ refl (renamed_spells of_code _ s _ (dc_chroma_spells codes.Truncated codes.NoCode s lt))

in_range : (precision : ℕ) (z : ℤ) → IsDc precision z → is_dc precision z ≡ true
unfolding is_dc
in_range precision (pos n) h =
    let low : nat_le 0 n ≡ true = le-leb 0 n (omega arith) in
    let high : nat_lt n (2 ^ (8 + precision)) ≡ true = lt-ltb _ _ (omega (arith, ints, h.1)) in
    rw (low, high) refl
in_range precision (negsuc n) h = absurd (omega (arith, ints, h.0))

sum_is : (predictor level : ℤ) → predictor +ℤ (level -ℤ predictor) ≡ level
sum_is (pos a) (pos b) = omega (arith, ints)
sum_is (pos a) (negsuc b) = omega (arith, ints)
sum_is (negsuc a) (pos b) = omega (arith, ints)
sum_is (negsuc a) (negsuc b) = omega (arith, ints)

abbrev bits_behind : Bool → ℕ → ℤ → ℕ → ℕ → BitSyntax BlockFault ℤ
bits_behind luma precision predictor start size =
    seq (bits_at cut size) (λ bits. seq (rule (is_dc precision (predictor +ℤ difference size bits)) DcRange start) (λ fits. done (predictor +ℤ difference size bits)))

bits_of_spells : (luma : Bool) (precision : ℕ) (predictor level : ℤ) (start s : ℕ) → IsDc precision level → IsSize (unsigned_abs (level -ℤ predictor)) s
    → Spells (bits_behind luma precision predictor start s) level (bits_of s (number_of s (level -ℤ predictor)))
bits_of_spells luma precision predictor level start s range h =
    let d = level -ℤ predictor in
    let n = number_of s d in
    let back : predictor +ℤ difference s n ≡ level = ap (λ (z : ℤ). predictor +ℤ z) (difference_is d s h) ∙ sum_is predictor level in
    let rest : Spells (seq (rule (is_dc precision (predictor +ℤ difference s n)) DcRange start) (λ fits. done (predictor +ℤ difference s n))) level [] =
    subst (λ (z : ℤ). Spells (seq (rule (is_dc precision z) DcRange start) (λ fits. done z)) level []) (sym back)
    (rule_spells (is_dc precision level) DcRange start (λ fits. done level) level [] (in_range precision level range) (done_spells level)) in
    whole_spells (seq_spells (λ bits. seq (rule (is_dc precision (predictor +ℤ difference s bits)) DcRange start) (λ fits. done (predictor +ℤ difference s bits))) n level (bits_of s n) [] (bits_spells cut s n (number_fits d s h)) rest)

pub dc_spells : (luma : Bool) (precision : ℕ) (predictor level : ℤ) → precision ≤ 3 → IsDc precision predictor → IsDc precision level → Spells (dc_at luma precision predictor) level (dc_text luma (level -ℤ predictor))
unfolding dc_at dc_text
dc_spells luma precision predictor level le p q =
    let d = level -ℤ predictor in
    let h = size_is (unsigned_abs d) (dc_difference precision level predictor le q p) in
    let s = size_of (unsigned_abs d) in
    here_spells length (λ start. seq (size_at luma) (bits_behind luma precision predictor start)) level (size_code luma s ++ bits_of s (number_of s d))
    (λ start. seq_spells (bits_behind luma precision predictor start) s level (size_code luma s) (bits_of s (number_of s d)) (size_spells luma s h.below) (bits_of_spells luma precision predictor level start s q h))
