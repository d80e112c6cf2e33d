-- Macroblocks with their blocks: what a block is coded with, its DC predictor, and what a macroblock leaves to the next
-- one (clauses 6.2.5, 6.2.6 and 7.2.1).
use Rattle.std.specs.Prelude.{ℕ, ◌-◌, Bool, true, false, cond, nat_eq, nat_lt, List, [], ◌∷◌, slice_index_or, if◌then◌else◌, ℤ, pos}
use Rattle.m2v_block.specs.m2v_quant.declared.kind.BlockKind.{BlockKind}
use Rattle.m2v_block.specs.m2v_quant.declared.kind.Levels.{Levels}
use Rattle.m2v_block.specs.m2v_quant.Scans.{scale_at}
use Rattle.m2v_macro.specs.declared.values.MacroSyntax.{MacroSyntax}
use Rattle.m2v_macro.specs.declared.values.SliceState.{SliceState}
use Rattle.m2v_macro.specs.declared.values.PictureContext.{PictureContext}
use Rattle.m2v_macro.specs.States.{after}
use Rattle.m2v_recon.specs.Steps.{levels_of}

-- a macroblock: its elements up to the pattern, and the levels of its six blocks
pub record Macroblock : Type 0 where
  pub syntax : MacroSyntax
  pub levels : List (List ℤ)

-- the macroblock of elements and levels as the program has them
abbrev pub macroblock_of : MacroSyntax → List Levels → Macroblock
macroblock_of m levels = record { syntax = m; levels = levels_of levels }

-- ---- blocks

-- what a block of a macroblock is coded with
unfoldable pub kind_for : PictureContext → Bool → Bool → ℕ → BlockKind
kind_for c intra luma quantiser = record {
  intra = intra;
  luma = luma;
  precision = c.extension.dc_precision;
  scale = scale_at c.extension.q_scale_type quantiser;
  matrix = cond intra c.intra c.non_intra;
  alternate = c.extension.alternate_scan;
}

-- the levels of a block, and its DC level
abbrev pub block_levels : List (List ℤ) → ℕ → List ℤ
block_levels levels block = slice_index_or levels block []

abbrev pub dc_of : List (List ℤ) → ℕ → ℤ
dc_of levels block = slice_index_or (block_levels levels block) 0 (pos 0)

-- the DC predictor of a block: that of its component as the macroblock begins, or the level of the luma block before
-- (clause 7.2.1)
unfoldable pub predictor : List ℤ → List (List ℤ) → ℕ → ℤ
predictor dc levels block =
    if nat_lt block 4 then (if nat_eq block 0 then slice_index_or dc 0 (pos 0) else dc_of levels (block - 1))
    else slice_index_or dc (block - 3) (pos 0)

-- ---- states

-- the DC predictors behind a macroblock's blocks
unfoldable pub dc_after : Bool → List (List ℤ) → List ℤ → List ℤ
dc_after true levels dc = dc_of levels 3 ∷ dc_of levels 4 ∷ dc_of levels 5 ∷ []
dc_after false levels dc = dc

-- the state behind a macroblock
unfoldable pub after_macroblock : PictureContext → SliceState → Macroblock → SliceState
after_macroblock c st x = record (after c st x.syntax) { dc = dc_after x.syntax.kind.intra x.levels (after c st x.syntax).dc }
