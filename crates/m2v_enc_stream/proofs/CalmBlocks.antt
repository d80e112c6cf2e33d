-- Blocks have no long run of zeros.
use Rattle.std.proofs.Common.{◌≡◌, ℕ, zero, suc, ◌+◌, ◌<◌, Bool, true, false, cond, refl, arith, ℤ, pos}
use Rattle.std.specs.Prelude.{nat_eq, nat_le, nat_lt, ◌&&◌, ◌+ℤ◌, length}
use Rattle.std.specs.List.{list_all}
use Rattle.std.proofs.lemmas.Bool.{leb-true}
use Rattle.m2v_bits.specs.Bits.{bits_of}
use Rattle.m2v_vlc.specs.declared.values.CodeFault.TheVariants as codes
use Rattle.m2v_vlc.specs.declared.values.Coefficient.{Coefficient}
use Rattle.m2v_vlc.specs.declared.values.Coefficient.TheVariants.{End, Escape, Pair}
use Rattle.m2v_vlc.specs.Tables.{dc_luma, dc_chroma}
use Rattle.m2v_vlc.specs.Coefficients.{coefficient_zero, coefficient_one, first_zero, pairs_zero, pairs_one, signed}
use Rattle.m2v_quant.specs.declared.kind.BlockKind.{BlockKind}
use Rattle.m2v_block.specs.declared.fault.BlockFault.TheVariants.{Overrun, ForbiddenLevel, DcRange}
use Rattle.m2v_block.specs.Faults.{of_code, cut}
use Rattle.m2v_block.specs.Blocks.{Scan, difference, is_dc, size_at, dc_at, placed, escaped, is_allowed, coefficient_at, code_from, pair_at, pairs_at, opened, first_at, block_at}
use Rattle.m2v_enc_stream.proofs.CalmSyntax.{Calmly, Any, done_calm, here_calm, rule_calm, seq_calm, choose_calm, renamed_calm, bits_calm, number_calm, repeated_calm, is_calm, row_calm, code_calm}

-- ---- the DC level

-- behind a size as many bits follow
abbrev size_leaves : ℕ → ℕ
size_leaves size = 11 + size

abbrev is_size : ℕ → Bool
is_size size = nat_le size 11

luma_rows : list_all (row_calm 14 size_leaves is_size) dc_luma ≡ true
unfolding dc_luma bits_of is_calm
luma_rows = refl

chroma_rows : list_all (row_calm 14 size_leaves is_size) dc_chroma ≡ true
unfolding dc_chroma bits_of is_calm
chroma_rows = refl

size_calm : (luma : Bool) → Calmly (size_at luma) 14 size_leaves (λ size. is_size size ≡ true)
unfolding size_at
size_calm luma =
    choose_calm luma _ _ 14 size_leaves (λ size. is_size size ≡ true)
    (λ e. renamed_calm of_code _ 14 size_leaves (λ size. is_size size ≡ true) (code_calm codes.Truncated codes.NoCode dc_luma 14 size_leaves is_size luma_rows))
    (λ e. renamed_calm of_code _ 14 size_leaves (λ size. is_size size ≡ true) (code_calm codes.Truncated codes.NoCode dc_chroma 14 size_leaves is_size chroma_rows))

dc_calm : (luma : Bool) (precision : ℕ) (predictor : ℤ) → Calmly (dc_at luma precision predictor) 14 (λ v. 11) Any
unfolding dc_at
dc_calm luma precision predictor =
    seq_calm _ _ 14 (λ v. 14) (λ v. 11) Any Any (here_calm length 14) (λ start x.
    seq_calm _ _ 14 size_leaves (λ v. 11) (λ size. is_size size ≡ true) Any (size_calm luma) (λ size most.
    seq_calm _ _ (size_leaves size) (λ v. 11) (λ v. 11) Any Any (bits_calm cut size (size_leaves size) 11 (omega arith) (omega (arith, leb-true size 11 most))) (λ bits y.
    seq_calm _ _ 11 (λ v. 11) (λ v. 11) (λ v. is_dc precision (predictor +ℤ difference size bits) ≡ true) Any (rule_calm (is_dc precision (predictor +ℤ difference size bits)) DcRange start 11) (λ fits e.
    done_calm (predictor +ℤ difference size bits) 11 (λ v. 11) Any (omega arith) tt))))

-- ---- pairs

-- how many zeros may come behind a code: an escape is followed by its run and its level
abbrev code_leaves : Coefficient → ℕ
code_leaves End = 21
code_leaves Escape = 22
code_leaves (Pair run level) = 11

abbrev any_code : Coefficient → Bool
any_code c = true

zero_rows : list_all (row_calm 11 code_leaves any_code) coefficient_zero ≡ true
unfolding coefficient_zero pairs_zero signed bits_of is_calm
zero_rows = refl

first_rows : list_all (row_calm 11 code_leaves any_code) first_zero ≡ true
unfolding first_zero pairs_zero signed bits_of is_calm
first_rows = refl

one_rows : list_all (row_calm 11 code_leaves any_code) coefficient_one ≡ true
unfolding coefficient_one pairs_one signed bits_of is_calm
one_rows = refl

code_from_calm : (first one : Bool) → Calmly (code_from first one) 11 code_leaves (λ c. any_code c ≡ true)
unfolding code_from
code_from_calm first one =
    let P = λ (c : Coefficient). any_code c ≡ true in
    choose_calm first _ _ 11 code_leaves P (λ e. renamed_calm of_code _ 11 code_leaves P (code_calm codes.Truncated codes.NoCode first_zero 11 code_leaves any_code first_rows))
    (λ e. choose_calm one _ _ 11 code_leaves P (λ d. renamed_calm of_code _ 11 code_leaves P (code_calm codes.Truncated codes.NoCode coefficient_one 11 code_leaves any_code one_rows))
    (λ d. renamed_calm of_code _ 11 code_leaves P (code_calm codes.Truncated codes.NoCode coefficient_zero 11 code_leaves any_code zero_rows)))

-- behind a pair, and behind the end of the block
abbrev pair_leaves : Bool × Scan → ℕ
pair_leaves x = cond x.0 11 21

placed_calm : (start run : ℕ) (level : ℤ) (s : Scan) → Calmly (placed start run level s) 11 pair_leaves Any
unfolding placed
placed_calm start run level s =
    seq_calm _ _ 11 (λ v. 11) pair_leaves (λ v. nat_lt (s.filled + run) 64 ≡ true) Any (rule_calm (nat_lt (s.filled + run) 64) Overrun start 11) (λ fits e.
    done_calm _ 11 pair_leaves Any (omega arith) tt)

allowed_some : (n : ℕ) → is_allowed n ≡ true → 0 < n
unfolding is_allowed
allowed_some zero e = absurd cc
allowed_some (suc n) e = omega arith

coefficient_calm : (start : ℕ) (s : Scan) (c : Coefficient) → Calmly (coefficient_at start s c) (code_leaves c) pair_leaves Any
unfolding coefficient_at
coefficient_calm start s End = done_calm (false, s) 21 pair_leaves Any (omega arith) tt
coefficient_calm start s Escape =
    seq_calm _ _ 22 (λ v. 16) pair_leaves Any Any (bits_calm cut 6 22 16 (omega arith) (omega arith)) (λ run x.
    seq_calm _ _ 16 (λ v. 16) pair_leaves Any Any (here_calm length 16) (λ at y.
    number_calm cut 12 16 11 is_allowed ForbiddenLevel at (λ level. placed start run (escaped level) s) pair_leaves Any (omega arith) (omega arith) allowed_some (λ level. placed_calm start run (escaped level) s)))
coefficient_calm start s (Pair run level) = placed_calm start run level s

pair_calm : (one : Bool) (s : Scan) → Calmly (pair_at one s) 11 pair_leaves Any
unfolding pair_at
pair_calm one s =
    seq_calm _ _ 11 (λ v. 11) pair_leaves Any Any (here_calm length 11) (λ start x.
    seq_calm _ _ 11 code_leaves pair_leaves (λ c. any_code c ≡ true) Any (code_from_calm (nat_eq s.filled 0) one) (λ c y.
    coefficient_calm start s c))

pairs_calm : (one : Bool) (s : Scan) → Calmly (pairs_at one s) 11 (λ z. 21) Any
unfolding pairs_at
pairs_calm one s = repeated_calm (pair_at one) 11 21 (pair_calm one) length cut s

-- ---- blocks

first_calm : (kind : BlockKind) (predictor : ℤ) → Calmly (first_at kind predictor) 14 (λ v. 11) Any
unfolding first_at
first_calm kind predictor =
    choose_calm kind.intra _ _ 14 (λ v. 11) Any (λ e. dc_calm kind.luma kind.precision predictor) (λ e. done_calm (pos 0) 14 (λ v. 11) Any (omega arith) tt)

pub block_calm : (kind : BlockKind) (one : Bool) (predictor : ℤ) → Calmly (block_at kind one predictor) 14 (λ v. 21) Any
unfolding block_at
block_calm kind one predictor =
    seq_calm _ _ 14 (λ v. 11) (λ v. 21) Any Any (first_calm kind predictor) (λ dc x.
    seq_calm _ _ 11 (λ v. 21) (λ v. 21) Any Any (pairs_calm (kind.intra && one) (opened kind.intra dc)) (λ scan y.
    done_calm scan.levels 21 (λ v. 21) Any (omega arith) tt))
