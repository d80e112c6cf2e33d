-- The text of a macroblock with its blocks, as it is written (clauses 6.2.5 and 6.2.6).
use Rattle.std.specs.Prelude.{ℕ, Bool, nat_lt, List, [], if◌then◌else◌}
use Rattle.std.specs.List.{range_with_len, flat_map}
use Rattle.m2v_bits.specs.Bits.{◌⧺◌}
use Rattle.m2v_block.specs.Texts.{block_text}
use Rattle.m2v_block.specs.m2v_quant.declared.kind.Levels.{Levels}
use Rattle.m2v_macro.specs.declared.values.MacroSyntax.{MacroSyntax}
use Rattle.m2v_macro.specs.declared.values.SliceState.{SliceState}
use Rattle.m2v_macro.specs.declared.values.PictureContext.{PictureContext}
use Rattle.m2v_macro.specs.States.{after}
use Rattle.m2v_macro.specs.Texts.{macro_text}
use Rattle.m2v_recon.specs.Macro.{is_coded}
use Rattle.m2v_macroblock.specs.Macroblocks.{Macroblock, macroblock_of, kind_for, block_levels, predictor}

-- a block of a macroblock, where it is coded; the state is that behind the macroblock's elements
unfoldable pub block_in_text : PictureContext → SliceState → Macroblock → ℕ → List Bool
block_in_text c st x block =
    if is_coded x.syntax.pattern block then
    block_text (kind_for c x.syntax.kind.intra (nat_lt block 4) st.quantiser) c.extension.intra_vlc_format (predictor st.dc x.levels block) (block_levels x.levels block)
    else []

-- so many of its blocks, from one on
abbrev pub blocks_text : PictureContext → SliceState → Macroblock → ℕ → ℕ → List Bool
blocks_text c st x block n = flat_map (block_in_text c st x) (range_with_len block n)

-- a macroblock: its elements up to the pattern, and its six blocks
unfoldable pub macroblock_text : PictureContext → SliceState → Macroblock → List Bool
macroblock_text c st x = macro_text c st x.syntax ⧺ blocks_text c (after c st x.syntax) x 0 6

-- that of elements and levels as the program has them
abbrev pub text_written : PictureContext → SliceState → MacroSyntax → List Levels → List Bool
text_written c st m levels = macroblock_text c st (macroblock_of m levels)
