-- The text of a block as it is written: each pair by its code, and by escape only where its table has none.
use Rattle.std.specs.Prelude.{◌≡◌, ◌≢◌, ℕ, ◌+◌, ◌-◌, suc, Bool, true, false, ◌&&◌, nat_eq, List, [], ◌∷◌, length, drop, replicate, slice_index_or, All, if◌then◌else◌, ℤ, pos, negsuc, ◌-ℤ◌, unsigned_abs}
use Rattle.m2v_bits.specs.Bits.{bits_of, ◌⧺◌}
use Rattle.m2v_vlc.specs.declared.values.Coefficient.{Coefficient}
use Rattle.m2v_vlc.specs.declared.values.Coefficient.TheVariants.{End, Escape, Pair}
use Rattle.m2v_vlc.specs.Coefficients.{coefficient_zero_code, coefficient_one_code, first_zero_code}
use Rattle.m2v_quant.specs.declared.kind.BlockKind.{BlockKind}
use Rattle.m2v_quant.specs.Kinds.{IsLevel}
use Rattle.m2v_block.specs.Dc.{dc_text}
use Rattle.m2v_block.specs.Blocks.{IsDc}

-- the levels that a block of this kind can have: an intra DC is in its range, and another block is not all zero
pub record IsBlock (kind : BlockKind) (levels : List ℤ) : Type 0 where
  pub within : All IsLevel levels
  pub dc : kind.intra ≡ true → IsDc kind.precision (slice_index_or levels 0 (pos 0))
  pub some : kind.intra ≡ false → levels ≢ replicate 64 (pos 0)

-- the code by the table that holds there: that of first coefficients, B.15 or B.14
unfoldable pub code_text : Bool → Bool → Coefficient → List Bool
code_text true one c = first_zero_code c
code_text false true c = coefficient_one_code c
code_text false false c = coefficient_zero_code c

-- a level in twelve bits of two's complement
unfoldable pub twelve : ℤ → ℕ
twelve (pos n) = n
twelve (negsuc n) = 4096 - suc n

-- the escape, a run and a level (clause 7.2.2.3, table B.16)
unfoldable pub escape_text : Bool → Bool → ℕ → ℤ → List Bool
escape_text first one run level = code_text first one Escape ⧺ bits_of 6 run ⧺ bits_of 12 (twelve level)

unfoldable pub pair_text : Bool → Bool → ℕ → ℤ → List Bool
pair_text first one run level =
    if nat_eq (length (code_text first one (Pair run level))) 0 then escape_text first one run level
    else code_text first one (Pair run level)

abbrev pub is_zero : ℤ → Bool
is_zero z = nat_eq (unsigned_abs z) 0

-- a level behind a run of zeros: nothing where it is 0 too
unfoldable pub level_text : Bool → Bool → ℕ → ℤ → List Bool
level_text first one run level = if is_zero level then [] else pair_text first one run level

-- the run behind a level
unfoldable pub run_after : ℕ → ℤ → ℕ
run_after run level = if is_zero level then run + 1 else 0

-- levels behind a run of zeros, and the end of the block
unfoldable pub pairs_text : Bool → Bool → ℕ → List ℤ → List Bool
pairs_text first one run [] = code_text false one End
pairs_text first one run (level ∷ levels) = level_text first one run level ⧺ pairs_text (first && is_zero level) one (run_after run level) levels

-- a block behind the DC predictor
unfoldable pub block_text : BlockKind → Bool → ℤ → List ℤ → List Bool
block_text kind table_one predictor levels =
    if kind.intra then dc_text kind.luma (slice_index_or levels 0 (pos 0) -ℤ predictor) ⧺ pairs_text false table_one 0 (drop 1 levels)
    else pairs_text true false 0 levels
