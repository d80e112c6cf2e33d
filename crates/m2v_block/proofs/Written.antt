-- What is written, piece by piece.
use Rattle.std.proofs.Common.{◌≡◌, ℕ, zero, suc, ◌+◌, ◌*◌, ◌^◌, ◌<◌, ◌≤◌, Bool, true, false, ◌&&◌, List, [], ◌∷◌, ◌++◌, length, drop, get_or, ℤ, pos, refl, sym, ap, ◌∙◌, append_assoc, arith, inl, inr}
use Rattle.std.specs.Prelude.{nat_eq, cond, ◌-ℤ◌, unsigned_abs}
use Rattle.std.proofs.Math.Seq.{drop-cons}
use Rattle.std.proofs.lemmas.Bool.{cases_Bool, eq-eqb, ne_eqb}
use Rattle.std.proofs.lemmas.List.{length-append, length-drop, get_or-drop}
use Rattle.m2v_bits.specs.Bits.{bits_of}
use Rattle.m2v_bits.proofs.Bits.{length-bits_of}
use Rattle.m2v_bits.proofs.Cursor.{bits_of-join}
use Rattle.m2v_vlc.specs.declared.values.Coefficient.{Coefficient}
use Rattle.m2v_vlc.specs.declared.values.Coefficient.TheVariants.{End, Escape, Pair}
use Rattle.m2v_vlc.proofs.Coefficients.{coefficient_zero_end, coefficient_zero_escape, coefficient_one_end, coefficient_one_escape, coefficient_zero_length, coefficient_one_length}
use Rattle.m2v_vlc.proofs.Firsts.{first_zero_escape, first_zero_length}
use Rattle.m2v_quant.specs.declared.kind.BlockKind.{BlockKind}
use Rattle.m2v_block.specs.Dc.{dc_text}
use Rattle.m2v_block.specs.Texts.{code_text, twelve, escape_text, pair_text, is_zero, level_text, run_after, pairs_text, block_text}
use Rattle.m2v_block.proofs.Numbers.{dc_length}

-- the escape stands in each table
escape_code : (first one : Bool) → code_text first one Escape ≡ bits_of 6 1
unfolding code_text
escape_code true one = first_zero_escape
escape_code false true = coefficient_one_escape
escape_code false false = coefficient_zero_escape

pub escape_length : (first one : Bool) → length (code_text first one Escape) ≡ 6
escape_length first one = ap length (escape_code first one) ∙ length-bits_of 6 1

-- the escape, a run and a level, as one number
pub escape_number : (first one : Bool) (run t : ℕ) (level : ℤ) → run < 64 → t ≡ twelve level → t < 2 ^ 12 → bits_of 24 ((64 + run) * 4096 + t) ≡ escape_text first one run level
unfolding escape_text
escape_number first one run t level small is below =
    let high : bits_of 12 (64 + run) ≡ bits_of 6 1 ++ bits_of 6 run = bits_of-join 6 6 1 run small in
    bits_of-join 12 12 (64 + run) t below
    ∙ ap (λ (x : List Bool). x ++ bits_of 12 t) high
    ∙ append_assoc (bits_of 6 1) (bits_of 6 run) (bits_of 12 t)
    ∙ rw (escape_code first one, is) refl

pub end_some : (one : Bool) → 0 < length (code_text false one End)
unfolding code_text
end_some true = omega (arith, ap length coefficient_one_end, length-bits_of 4 6)
end_some false = omega (arith, ap length coefficient_zero_end, length-bits_of 2 2)

pub code_most : (first one : Bool) (c : Coefficient) → length (code_text first one c) ≤ 17
unfolding code_text
code_most true one c = first_zero_length c
code_most false true c = coefficient_one_length c
code_most false false c = coefficient_zero_length c

pub escape_is : (first one : Bool) (run : ℕ) (level : ℤ) → length (escape_text first one run level) ≡ 24
unfolding escape_text
escape_is first one run level =
    omega (arith, length-append (code_text first one Escape) (bits_of 6 run ++ bits_of 12 (twelve level)), length-append (bits_of 6 run) (bits_of 12 (twelve level)), length-bits_of 6 run, length-bits_of 12 (twelve level), escape_length first one)

-- a pair without a code is escaped
pub pair_escaped : (first one : Bool) (run n x : ℕ) (level : ℤ) → bits_of n x ≡ code_text first one (Pair run level) → n ≡ 0 → escape_text first one run level ≡ pair_text first one run level
unfolding pair_text
pair_escaped first one run n x level e none =
    let test : nat_eq (length (code_text first one (Pair run level))) 0 ≡ true = eq-eqb _ 0 (omega (arith, ap length e, length-bits_of n x)) in
    rw test refl

pub pair_coded : (first one : Bool) (run n x : ℕ) (level : ℤ) → bits_of n x ≡ code_text first one (Pair run level) → (n ≡ 0 → ⊥) → bits_of n x ≡ pair_text first one run level
unfolding pair_text
pair_coded first one run n x level e some =
    let test : nat_eq (length (code_text first one (Pair run level))) 0 ≡ false = ne_eqb _ 0 (λ none. some (omega (arith, ap length e, length-bits_of n x))) in
    rw test e

pub pair_most : (first one : Bool) (run : ℕ) (level : ℤ) → length (pair_text first one run level) ≤ 24
unfolding pair_text
pair_most first one run level = elim (cases_Bool (nat_eq (length (code_text first one (Pair run level))) 0)) [
  | inl none ↦ rw none (omega (arith, escape_is first one run level))
  | inr some ↦ rw some (omega (arith, code_most first one (Pair run level)))
]

pub level_most : (first one : Bool) (run : ℕ) (level : ℤ) → length (level_text first one run level) ≤ 24
unfolding level_text
level_most first one run level = elim (cases_Bool (is_zero level)) [
  | inl zero_is ↦ rw zero_is (omega arith)
  | inr some ↦ rw some (pair_most first one run level)
]

end_most : (one : Bool) → length (code_text false one End) ≤ cond one 4 2
unfolding code_text
end_most true = omega (arith, ap length coefficient_one_end, length-bits_of 4 6)
end_most false = omega (arith, ap length coefficient_zero_end, length-bits_of 2 2)

-- the most bits that pairs take: each by escape, and the end
pub pairs_most : (first one : Bool) (run : ℕ) (levels : List ℤ) → length (pairs_text first one run levels) ≤ 24 * length levels + cond one 4 2
unfolding pairs_text
pairs_most first one run [] = omega (arith, end_most one)
pairs_most first one run (level ∷ levels) =
    omega (
      arith,
      length-append (level_text first one run level) (pairs_text (first && is_zero level) one (run_after run level) levels),
      level_most first one run level,
      pairs_most (first && is_zero level) one (run_after run level) levels,
    )

intra_most : (one : Bool) (dc rest : List Bool) (levels : List ℤ) → length levels ≤ 64 → length dc ≤ 22 → length rest ≤ 24 * length (drop 1 levels) + cond one 4 2 → length (dc ++ rest) ≤ 1538
intra_most true dc rest levels le front back = omega (arith, length-append dc rest, length-drop 1 levels)
intra_most false dc rest levels le front back = omega (arith, length-append dc rest, length-drop 1 levels)

-- the most bits that a block takes: 64 escaped pairs, and the end
pub block_most : (kind : BlockKind) (table_one : Bool) (predictor : ℤ) (levels : List ℤ) → length levels ≤ 64 → length (block_text kind table_one predictor levels) ≤ 1538
unfolding block_text
block_most kind table_one predictor levels le = elim (cases_Bool kind.intra) [
  | inl on ↦
      let dc = get_or levels 0 (pos 0) -ℤ predictor in
      rw on (intra_most table_one (dc_text kind.luma dc) (pairs_text false table_one 0 (drop 1 levels)) levels le (dc_length kind.luma dc) (pairs_most false table_one 0 (drop 1 levels)))
  | inr off ↦ rw off (omega (arith, pairs_most true false 0 levels))
]

-- the text of an intra block
pub intra_text : (kind : BlockKind) (table_one : Bool) (d predictor : ℤ) (levels : List ℤ) → kind.intra ≡ true → d ≡ get_or levels 0 (pos 0) -ℤ predictor
    → dc_text kind.luma d ++ pairs_text false table_one 0 (drop 1 levels) ≡ block_text kind table_one predictor levels
unfolding block_text
intra_text kind table_one d predictor levels on e = rw (e, on) refl

-- one level more
pub next_level : (first one : Bool) (run : ℕ) (levels : List ℤ) (i : ℕ) (level : ℤ) → i < length levels → level ≡ get_or levels i (pos 0)
    → pairs_text first one run (drop i levels) ≡ level_text first one run level ++ pairs_text (first && is_zero level) one (run_after run level) (drop (i + 1) levels)
unfolding pairs_text
next_level first one run levels i level lt e =
    let next : i + 1 ≡ suc i = omega arith in
    rw (drop-cons levels i (pos 0) lt, next, e) refl

-- the same by what the run and the test are behind it
pub next_level_is : (first next one : Bool) (run after : ℕ) (levels : List ℤ) (i : ℕ) (level : ℤ) → i < length levels → level ≡ get_or levels i (pos 0) → next ≡ (first && is_zero level) → after ≡ run_after run level
    → pairs_text first one run (drop i levels) ≡ level_text first one run level ++ pairs_text next one after (drop (i + 1) levels)
next_level_is first next one run after levels i level lt e ne ae = rw (ne, ae) (next_level first one run levels i level lt e)

and_zero : (first b : Bool) → b ≡ true → first ≡ (first && b)
and_zero true b e = sym e
and_zero false b e = refl

and_none : (first b : Bool) → b ≡ false → false ≡ (first && b)
and_none true b e = sym e
and_none false b e = refl

-- one level more, which is 0
pub next_zero : (first one : Bool) (run : ℕ) (levels : List ℤ) (i n : ℕ) (level : ℤ) → i < length levels → level ≡ get_or levels i (pos 0) → n ≡ unsigned_abs level → n ≡ 0
    → pairs_text first one run (drop i levels) ≡ [] ++ pairs_text first one (run + 1) (drop (i + 1) levels)
unfolding level_text run_after
next_zero first one run levels i n level lt e is none =
    let test : is_zero level ≡ true = eq-eqb (unsigned_abs level) 0 (sym is ∙ none) in
    let text : level_text first one run level ≡ [] = rw test refl in
    let after : run + 1 ≡ run_after run level = rw test refl in
    next_level_is first first one run (run + 1) levels i level lt e (and_zero first (is_zero level) test) after
    ∙ ap (λ (t : List Bool). t ++ pairs_text first one (run + 1) (drop (i + 1) levels)) text

-- levels that are 0 lengthen the run
pass_zeros : (first one : Bool) (run : ℕ) (levels : List ℤ) (i d : ℕ) → i + d ≤ length levels → ((j : ℕ) → j < d → get_or levels (i + j) (pos 0) ≡ pos 0)
    → pairs_text first one run (drop i levels) ≡ pairs_text first one (run + d) (drop (i + d) levels)
pass_zeros first one run levels i zero le z =
    let a : run ≡ run + 0 = omega arith in
    let b : i ≡ i + 0 = omega arith in
    λ k. pairs_text first one (a k) (drop (b k) levels)
pass_zeros first one run levels i (suc d) le z =
    let a : run + d + 1 ≡ run + suc d = omega arith in
    let b : i + d + 1 ≡ i + suc d = omega arith in
    pass_zeros first one run levels i d (omega arith) (λ j lt. z j (omega arith))
    ∙ next_zero first one (run + d) levels (i + d) 0 (get_or levels (i + d) (pos 0)) (omega arith) refl (sym (ap unsigned_abs (z d (omega arith)))) refl
    ∙ (λ k. pairs_text first one (a k) (drop (b k) levels))

-- a run of zeros and a level that isn't
pub next_pair : (first one : Bool) (levels : List ℤ) (i d : ℕ) (level : ℤ) → i + d < length levels → ((j : ℕ) → j < d → get_or levels (i + j) (pos 0) ≡ pos 0)
    → level ≡ get_or levels (i + d) (pos 0) → is_zero (get_or levels (i + d) (pos 0)) ≡ false
    → pairs_text first one 0 (drop i levels) ≡ pair_text first one d level ++ pairs_text false one 0 (drop (i + d + 1) levels)
unfolding level_text run_after
next_pair first one levels i d level lt z e some =
    let test : is_zero level ≡ false = ap is_zero e ∙ some in
    let text : level_text first one d level ≡ pair_text first one d level = rw test refl in
    let after : 0 ≡ run_after d level = rw test refl in
    let run : 0 + d ≡ d = omega arith in
    pass_zeros first one 0 levels i d (omega arith) z
    ∙ ap (λ (r : ℕ). pairs_text first one r (drop (i + d) levels)) run
    ∙ next_level_is first false one d 0 levels (i + d) level lt e (and_none first (is_zero level) test) after
    ∙ ap (λ (t : List Bool). t ++ pairs_text false one 0 (drop (i + d + 1) levels)) text

-- levels that are all 0 have no bits but the end
pub zeros_text : (first one : Bool) (run : ℕ) (levels : List ℤ) → ((k : ℕ) → k < length levels → get_or levels k (pos 0) ≡ pos 0)
    → pairs_text first one run levels ≡ code_text false one End
unfolding pairs_text level_text
zeros_text first one run [] z = refl
zeros_text first one run (level ∷ levels) z =
    let none : level ≡ pos 0 = z 0 (omega arith) in
    rw none (zeros_text (first && true) one (run_after run (pos 0)) levels (λ k lt. z (suc k) (omega arith)))

pub at_zeros : (first one : Bool) (run : ℕ) (levels : List ℤ) (i : ℕ) → ((k : ℕ) → i ≤ k → k < length levels → get_or levels k (pos 0) ≡ pos 0)
    → pairs_text first one run (drop i levels) ≡ code_text false one End
at_zeros first one run levels i z =
    zeros_text first one run (drop i levels) (λ k lt. get_or-drop i levels k (pos 0) ∙ z (i + k) (omega arith) (omega (arith, length-drop i levels, lt)))
