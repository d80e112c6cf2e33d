-- The fewest bits of a block: those of a DC difference or of one pair, and of the end (tables B.12 to B.14).
use Rattle.std.proofs.Common.{◌≡◌, ◌≢◌, ℕ, zero, suc, ◌+◌, ◌≤◌, Bool, true, false, cond, ◌&&◌, ◌⊎◌, inl, inr, List, [], ◌∷◌, ◌++◌, length, replicate, refl, ap, sym, ◌∙◌, arith, ℤ, pos, negsuc}
use Rattle.std.specs.Prelude.{nat_le, nat_eq, unsigned_abs, slice_index_or, drop, ◌-ℤ◌, if◌then◌else◌}
use Rattle.std.specs.List.{list_all}
use Rattle.std.proofs.lemmas.Bool.{and_parts, leb-true, eqb-true, cases_Bool}
use Rattle.std.proofs.lemmas.List.{length-append}
use Rattle.m2v_bits.specs.Bits.{bits_of}
use Rattle.m2v_bits.proofs.Bits.{length-bits_of}
use native.Mathlib.Nat.{suc_inj}
use Rattle.m2v_vlc.specs.Codes.{Row, code_of, code}
use Rattle.m2v_vlc.specs.declared.values.Coefficient.TheVariants.{End, Escape, Pair}
use Rattle.m2v_vlc.specs.Coefficients.{coefficient_zero, first_zero, same_coefficient, signed, pairs_zero}
use Rattle.m2v_quant.specs.declared.kind.BlockKind.{BlockKind}
use Rattle.m2v_vlc.specs.Tables.{dc_luma, dc_chroma}
use Rattle.m2v_vlc.proofs.ValueLaws.{below, agree}
use Rattle.m2v_block.specs.Dc.{dc_text, size_code, size_of, number_of}
use Rattle.m2v_block.proofs.Numbers.{size_most}
use Rattle.m2v_block.specs.Texts.{block_text, code_text, escape_text, is_zero, level_text, pair_text, pairs_text, run_after, twelve}

-- ---- codes

-- a row's code has so many bits at least
abbrev long : {V : Type 0} → ℕ → Row V → Bool
long n r = nat_le n r.len

row_least : {V : Type 0} (n : ℕ) (r : Row V) (rest : List Bool) (b : Bool) → long n r ≡ true → (length rest ≡ 0) ⊎ (n ≤ length rest)
    → (length (cond b (code r) rest) ≡ 0) ⊎ (n ≤ length (cond b (code r) rest))
row_least n r rest true enough others = inr (omega (arith, leb-true n r.len enough, length-bits_of r.len r.number))
row_least n r rest false enough others = others

-- a table's code has so many bits at least, where there is one
code_least : {V : Type 0} (same : V → V → Bool) (n : ℕ) (rows : List (Row V)) (v : V) → list_all (long n) rows ≡ true
    → (length (code_of same rows v) ≡ 0) ⊎ (n ≤ length (code_of same rows v))
unfolding code_of
code_least same n [] v all = inl refl
code_least same n (r ∷ rows) v all =
    let parts = and_parts (long n r) (list_all (long n) rows) all in
    row_least n r (code_of same rows v) (same r.value v) parts.0 (code_least same n rows v parts.1)

first_long : list_all (long 2) first_zero ≡ true
unfolding first_zero signed pairs_zero
first_long = refl

later_long : list_all (long 2) coefficient_zero ≡ true
unfolding coefficient_zero signed pairs_zero
later_long = refl

end_long : length (code_text false false End) ≡ 2
unfolding code_text code_of coefficient_zero same_coefficient
end_long = length-bits_of 2 2

-- ---- a block that isn't intra

-- a code of a pair has two bits at least, where there is one
code_long : (first : Bool) (run : ℕ) (level : ℤ) → (length (code_text first false (Pair run level)) ≡ 0) ⊎ (2 ≤ length (code_text first false (Pair run level)))
unfolding code_text
code_long true run level = code_least same_coefficient 2 first_zero (Pair run level) first_long
code_long false run level = code_least same_coefficient 2 coefficient_zero (Pair run level) later_long

escape_long : (first : Bool) (run : ℕ) (level : ℤ) → 2 ≤ length (escape_text first false run level)
unfolding escape_text
escape_long first run level = omega (arith, length-append (code_text first false Escape) (bits_of 6 run ++ bits_of 12 (twelve level)), length-append (bits_of 6 run) (bits_of 12 (twelve level)), length-bits_of 6 run)

-- a pair has two bits at least
pair_least : (first : Bool) (run : ℕ) (level : ℤ) → 2 ≤ length (pair_text first false run level)
unfolding pair_text
pair_least first run level = by_test (nat_eq (length (code_text first false (Pair run level))) 0) refl
  where
    by_test : (b : Bool) → nat_eq (length (code_text first false (Pair run level))) 0 ≡ b
        → 2 ≤ length (if b then escape_text first false run level else code_text first false (Pair run level))
    by_test true e = escape_long first run level
    by_test false e = elim (code_long first run level) [
      | inl none ↦ let no : true ≡ false = ap (λ n. nat_eq n 0) (sym none) ∙ e in absurd cc
      | inr some ↦ some
    ]

pairs_end : (first : Bool) (run : ℕ) (levels : List ℤ) → 2 ≤ length (pairs_text first false run levels)
unfolding pairs_text
pairs_end first run [] = omega (arith, end_long)
pairs_end first run (level ∷ levels) =
    omega (arith, length-append (level_text first false run level) (pairs_text (first && is_zero level) false (run_after run level) levels), pairs_end (first && is_zero level) (run_after run level) levels)

zero_is : (level : ℤ) → is_zero level ≡ true → level ≡ pos 0
zero_is (pos n) e = ap pos (eqb-true n 0 e)
zero_is (negsuc n) e = absurd (omega (arith, eqb-true (suc n) 0 e))

level_is : (first : Bool) (run : ℕ) (level : ℤ) → is_zero level ≡ false → level_text first false run level ≡ pair_text first false run level
unfolding level_text
level_is first run level e = rw e refl

-- some pair and the end have four bits at least
pairs_least : (n : ℕ) (first : Bool) (run : ℕ) (levels : List ℤ) → levels ≢ replicate n (pos 0) → length levels ≡ n → 4 ≤ length (pairs_text first false run levels)
unfolding pairs_text
pairs_least zero first run [] some whole = absurd (some refl)
pairs_least (suc n) first run [] some whole = absurd (omega arith)
pairs_least zero first run (level ∷ levels) some whole = absurd (omega arith)
pairs_least (suc n) first run (level ∷ levels) some whole =
    let rest = pairs_text (first && is_zero level) false (run_after run level) levels in
    let both = length-append (level_text first false run level) rest in
    elim (cases_Bool (is_zero level)) [
      | inl none ↦
          let others : levels ≢ replicate n (pos 0) = λ same. some (λ i. zero_is level none i ∷ same i) in
          omega (arith, both, pairs_least n (first && is_zero level) (run_after run level) levels others (suc_inj whole))
      | inr other ↦
          omega (arith, both, ap length (level_is first run level other), pair_least first run level, pairs_end (first && is_zero level) (run_after run level) levels)
    ]

-- a block that isn't intra has four bits at least
pub block_least : (kind : BlockKind) (one : Bool) (predictor : ℤ) (levels : List ℤ) → kind.intra ≡ false → length levels ≡ 64 → levels ≢ replicate 64 (pos 0) → 4 ≤ length (block_text kind one predictor levels)
unfolding block_text
block_least kind one predictor levels other whole some = rw other (pairs_least 64 true 0 levels some whole)

-- ---- an intra block

unfoldable is_long : Bool → ℕ → Bool
is_long luma s = nat_le 2 (length (size_code luma s) + s)

luma_long : below (is_long true) 13 ≡ below (λ s. true) 13
unfolding below is_long size_code dc_luma code_of bits_of
luma_long = refl

chroma_long : below (is_long false) 13 ≡ below (λ s. true) 13
unfolding below is_long size_code dc_chroma code_of bits_of
chroma_long = refl

size_least : (luma : Bool) (s : ℕ) → s ≤ 12 → 2 ≤ length (size_code luma s) + s
unfolding is_long
size_least true s most = leb-true 2 (length (size_code true s) + s) (agree (is_long true) (λ s. true) 13 s luma_long (omega (arith, most)))
size_least false s most = leb-true 2 (length (size_code false s) + s) (agree (is_long false) (λ s. true) 13 s chroma_long (omega (arith, most)))

-- a DC difference has two bits at least
dc_least : (luma : Bool) (d : ℤ) → 2 ≤ length (dc_text luma d)
unfolding dc_text
dc_least luma d =
    let s = size_of (unsigned_abs d) in
    omega (arith, length-append (size_code luma s) (bits_of s (number_of s d)), length-bits_of s (number_of s d), size_least luma s (size_most (unsigned_abs d)))

-- an intra block by table B.14 has four bits at least
pub intra_least : (kind : BlockKind) (predictor : ℤ) (levels : List ℤ) → kind.intra ≡ true → 4 ≤ length (block_text kind false predictor levels)
unfolding block_text
intra_least kind predictor levels intra =
    let dc = dc_text kind.luma (slice_index_or levels 0 (pos 0) -ℤ predictor) in
    rw intra (omega (arith, length-append dc (pairs_text false false 0 (drop 1 levels)), dc_least kind.luma (slice_index_or levels 0 (pos 0) -ℤ predictor), pairs_end false 0 (drop 1 levels)))
