-- The tables of lengths, checked by computing, and how many bits pairs take by them.
use Rattle.std.proofs.Common.{◌≡◌, ℕ, zero, suc, ◌+◌, ◌*◌, ◌/◌, ◌<◌, Bool, true, false, List, [], ◌∷◌, map, length, get_or, ℤ, pos, ◌+ℤ◌, refl, sym, ap, ◌∙◌, arith, inl, inr}
use Rattle.std.specs.Prelude.{nat_eq, cond}
use Rattle.std.specs.List.{range_with_len}
use Rattle.std.proofs.lemmas.Int.{ints}
use Rattle.std.proofs.lemmas.Bool.{cases_Bool}
use Rattle.std.proofs.lemmas.List.FromFn.{get_or-map-range_with_len}
use Rattle.m2v_bits.proofs.Bits.{length-bits_of}
use Rattle.m2v_vlc.specs.declared.values.Coefficient.{Coefficient}
use Rattle.m2v_vlc.specs.declared.values.Coefficient.TheVariants.{Pair}
use Rattle.m2v_vlc.specs.Codes.{Row}
use Rattle.m2v_vlc.specs.Coefficients.{signed, pairs_zero, pairs_one, coefficient_zero, coefficient_one}
use Rattle.m2v_vlc.specs.Lookups.{code_in}
use Rattle.m2v_vlc.specs.Places.{start, pair_place}
use Rattle.m2v_vlc.proofs.Coefficients.{zero_index, one_index}
use Rattle.m2v_block.specs.declared.lengths.TheConstants.{ZERO_LENGTHS, ONE_LENGTHS}
use Rattle.m2v_block.specs.Texts.{code_text, pair_text}
use Rattle.m2v_block.specs.Lengths.{is_near, near_at, pair_lengths}
use Rattle.m2v_block.proofs.Written.{escape_is}

-- how many bits the code of the row at i has
abbrev pub row_bits : List (Row Coefficient) → ℕ → ℕ
row_bits t i = get_or (map (λ r. r.len) t) i 0

row_bits_is : (t : List (Row Coefficient)) (i : ℕ) → length (code_in t i) ≡ row_bits t i
row_bits_is [] i = refl
row_bits_is (r ∷ t) zero = length-bits_of r.len r.number
row_bits_is (r ∷ t) (suc i) = row_bits_is t i

-- an escape where there is no code
abbrev pub or_escape : ℕ → ℕ
or_escape n = cond (nat_eq n 0) 24 n

abbrev entry : List (Row Coefficient) → ℕ → ℕ
entry t n = or_escape (row_bits t (pair_place (n / 32) (near_at n)))

zero_entries : map (entry coefficient_zero) (range_with_len 0 2048) ≡ ZERO_LENGTHS
unfolding coefficient_zero pairs_zero signed start
zero_entries = refl

one_entries : map (entry coefficient_one) (range_with_len 0 2048) ≡ ONE_LENGTHS
unfolding coefficient_one pairs_one signed start
one_entries = refl

abbrev table_of : Bool → List (Row Coefficient)
table_of one = cond one coefficient_one coefficient_zero

code_bits : (one : Bool) (run : ℕ) (level : ℤ) → length (code_text false one (Pair run level)) ≡ row_bits (table_of one) (pair_place run level)
unfolding code_text
code_bits true run level = ap length (sym (one_index (Pair run level))) ∙ row_bits_is coefficient_one (pair_place run level)
code_bits false run level = ap length (sym (zero_index (Pair run level))) ∙ row_bits_is coefficient_zero (pair_place run level)

pub pair_bits_is : (one : Bool) (run : ℕ) (level : ℤ) → length (pair_text false one run level) ≡ or_escape (row_bits (table_of one) (pair_place run level))
unfolding pair_text
pair_bits_is one run level = elim (cases_Bool (nat_eq (length (code_text false one (Pair run level))) 0)) [
  | inl none ↦ rw (← code_bits one run level) (rw none (escape_is false one run level))
  | inr some ↦ rw (← code_bits one run level) (rw some refl)
]

entries : (one : Bool) → pair_lengths one ≡ map (entry (table_of one)) (range_with_len 0 2048)
unfolding pair_lengths
entries one = λ i. map (λ n. pair_bits_is one (n / 32) (near_at n) i) (range_with_len 0 2048)

-- the tables are those of the lengths
pub zero_lengths : ZERO_LENGTHS ≡ pair_lengths false
zero_lengths = sym (entries false ∙ zero_entries)

pub one_lengths : ONE_LENGTHS ≡ pair_lengths true
one_lengths = sym (entries true ∙ one_entries)

-- what a table has at the place of a pair
pub length_at : (one : Bool) (run n x : ℕ) (level : ℤ) (lengths : List ℕ) → lengths ≡ pair_lengths one → is_near level ≡ true → pos n ≡ pos (32 * run + 16) +ℤ level → n < 2048 → x ≡ get_or lengths n 0
    → x ≡ length (pair_text false one run level)
unfolding pair_lengths
length_at one run n x level lengths is near at lt found =
    let which : n / 32 ≡ run = grind (arith, ints) in
    let same : near_at n ≡ level = grind (arith, ints) in
    let begin : 0 + n ≡ n = omega arith in
    found ∙ ap (λ xs. get_or xs n 0) is
    ∙ get_or-map-range_with_len (λ k. length (pair_text false one (k / 32) (near_at k))) 0 2048 n n 0 lt begin
    ∙ rw (which, same) refl
