-- How many bits blocks take, by the lengths of their parts.
use Rattle.std.proofs.Common.{◌≡◌, ℕ, zero, suc, ◌+◌, ◌-◌, ◌<◌, ◌≤◌, Bool, true, false, List, [], ◌∷◌, ◌++◌, length, get_or, drop, ℤ, pos, negsuc, refl, sym, ap, ◌∙◌, arith, inl, inr}
use Rattle.std.specs.Prelude.{nat_eq, cond, ◌-ℤ◌, unsigned_abs}
use Rattle.std.proofs.lemmas.Bool.{cases_Bool, eqb-true, true≢false}
use Rattle.std.proofs.lemmas.List.{length-append}
use Rattle.m2v_bits.specs.Bits.{bits_of}
use Rattle.m2v_vlc.specs.Coefficients.{signed, pairs_zero, coefficient_zero}
use Rattle.m2v_vlc.specs.Places.{start, pair_place}
use Rattle.m2v_vlc.proofs.Coefficients.{coefficient_zero_escape}
use Rattle.m2v_vlc.proofs.Firsts.{first_other, first_zero_plus, first_zero_minus, first_zero_escape}
use Rattle.m2v_quant.specs.declared.kind.BlockKind.{BlockKind}
use Rattle.m2v_block.specs.Dc.{dc_text}
use Rattle.m2v_block.specs.Texts.{code_text, escape_text, pair_text, is_zero, level_text, run_after, pairs_text, block_text}
use Rattle.m2v_block.proofs.Written.{intra_text, pairs_most}
use Rattle.m2v_block.proofs.PairLengths.{row_bits, or_escape, pair_bits_is}

-- ---- the first level of a block that is not intra

-- but for run 0 and level 1 it has the same code as all others
same_pair : (run : ℕ) (level : ℤ) → (run ≡ 0 → level ≡ pos 1 → ⊥) → (run ≡ 0 → level ≡ negsuc 0 → ⊥) → pair_text true false run level ≡ pair_text false false run level
unfolding pair_text code_text escape_text
same_pair run level p m = rw (first_other run level p m, first_zero_escape, coefficient_zero_escape) refl

later_same : (run : ℕ) (levels : List ℤ) → 0 < run → pairs_text true false run levels ≡ pairs_text false false run levels
unfolding pairs_text level_text run_after
later_same run [] some = refl
later_same run (level ∷ levels) some = elim (cases_Bool (is_zero level)) [
  | inl none ↦ rw none (later_same (run + 1) levels (omega arith))
  | inr not_ ↦ rw not_ (ap (λ (t : List Bool). t ++ pairs_text false false 0 levels) (same_pair run level (λ e h. omega (arith, e, some)) (λ e h. omega (arith, e, some))))
]

plus_entry : or_escape (row_bits coefficient_zero (pair_place 0 (pos 1))) ≡ 3
unfolding coefficient_zero pairs_zero signed start
plus_entry = refl

minus_entry : or_escape (row_bits coefficient_zero (pair_place 0 (negsuc 0))) ≡ 3
unfolding coefficient_zero pairs_zero signed start
minus_entry = refl

first_plus : length (pair_text true false 0 (pos 1)) ≡ 2
unfolding pair_text code_text bits_of
first_plus = rw first_zero_plus refl

first_minus : length (pair_text true false 0 (negsuc 0)) ≡ 2
unfolding pair_text code_text bits_of
first_minus = rw first_zero_minus refl

abbrev is_one : ℤ → Bool
is_one level = nat_eq (unsigned_abs level) 1

one_less : (level : ℤ) → is_one level ≡ true → length (pair_text true false 0 level) + 1 ≡ length (pair_text false false 0 level)
one_less (pos zero) e = absurd (omega (arith, eqb-true 0 1 e))
one_less (pos (suc zero)) e = omega (arith, first_plus, pair_bits_is false 0 (pos 1), plus_entry)
one_less (pos (suc (suc n))) e = absurd (omega (arith, eqb-true (suc (suc n)) 1 e))
one_less (negsuc zero) e = omega (arith, first_minus, pair_bits_is false 0 (negsuc 0), minus_entry)
one_less (negsuc (suc n)) e = absurd (omega (arith, eqb-true (suc (suc n)) 1 e))

not_one : (level k : ℤ) → is_one k ≡ true → is_one level ≡ false → level ≡ k → ⊥
not_one level k e n same = absurd (true≢false (sym e ∙ ap is_one (sym same) ∙ n))

pair_less : (level : ℤ) → length (pair_text true false 0 level) + cond (is_one level) 1 0 ≡ length (pair_text false false 0 level)
pair_less level = elim (cases_Bool (is_one level)) [
  | inl one ↦ rw one (one_less level one)
  | inr other ↦ rw other (omega (arith, ap length (same_pair 0 level (λ e. not_one level (pos 1) refl other) (λ e. not_one level (negsuc 0) refl other))))
]

zero_not_one : (level : ℤ) → is_zero level ≡ true → is_one level ≡ false
zero_not_one (pos zero) e = refl
zero_not_one (pos (suc n)) e = absurd (omega (arith, eqb-true (suc n) 0 e))
zero_not_one (negsuc n) e = absurd (omega (arith, eqb-true (suc n) 0 e))

first_at : (level : ℤ) (levels : List ℤ) → length (pairs_text true false 0 (level ∷ levels)) + cond (is_one level) 1 0 ≡ length (pairs_text false false 0 (level ∷ levels))
unfolding pairs_text level_text run_after
first_at level levels = elim (cases_Bool (is_zero level)) [
  | inl none ↦ rw (none, zero_not_one level none) (omega (arith, ap length (later_same 1 levels (omega arith))))
  | inr some ↦
      let rest = pairs_text false false 0 levels in
      rw some (omega (arith, pair_less level, length-append (pair_text true false 0 level) rest, length-append (pair_text false false 0 level) rest))
]

no_first : length (pairs_text true false 0 []) + 0 ≡ length (pairs_text false false 0 [])
unfolding pairs_text
no_first = omega arith

first_less : (levels : List ℤ) → length (pairs_text true false 0 levels) + cond (is_one (get_or levels 0 (pos 0))) 1 0 ≡ length (pairs_text false false 0 levels)
first_less [] = no_first
first_less (level ∷ levels) = first_at level levels

-- ---- blocks

pub pairs_bound : (one : Bool) (levels : List ℤ) → length levels ≤ 64 → length (pairs_text false one 0 levels) ≤ 1540
pairs_bound true levels le = omega (arith, le, pairs_most false true 0 levels)
pairs_bound false levels le = omega (arith, le, pairs_most false false 0 levels)

pub other_length : (kind : BlockKind) (table_one : Bool) (predictor : ℤ) (levels : List ℤ) (a b : ℕ) → kind.intra ≡ false → a ≡ length (pairs_text false false 0 levels) → b ≡ cond (nat_eq (unsigned_abs (get_or levels 0 (pos 0))) 1) 1 0
    → (b ≤ a) × (a - b ≡ length (block_text kind table_one predictor levels))
unfolding block_text
other_length kind table_one predictor levels a b off ea eb =
    let less = first_less levels in
    (omega (arith, less, ea, eb), rw off (omega (arith, less, ea, eb)))

pub intra_length : (kind : BlockKind) (table_one luma : Bool) (d predictor : ℤ) (levels : List ℤ) (a b : ℕ) → kind.intra ≡ true → kind.luma ≡ luma → d ≡ get_or levels 0 (pos 0) -ℤ predictor
    → a ≡ length (dc_text luma d) → b ≡ length (pairs_text false table_one 0 (drop 1 levels)) → a + b ≡ length (block_text kind table_one predictor levels)
intra_length kind table_one luma d predictor levels a b on is same ea eb =
    omega (
      arith,
      ea,
      eb,
      ap (λ (l : Bool). length (dc_text l d)) is,
      ap length (intra_text kind table_one d predictor levels on same),
      length-append (dc_text kind.luma d) (pairs_text false table_one 0 (drop 1 levels)),
    )

-- a kind, by what texts depend on
abbrev pub kind_of : Bool → Bool → BlockKind
kind_of intra luma = record { intra = intra; luma = luma; precision = 0; scale = 1; matrix = []; alternate = false }
