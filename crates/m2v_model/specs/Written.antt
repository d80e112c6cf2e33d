-- What is written of a macroblock is read again as that macroblock.
use Rattle.std.specs.Prelude.{◌≡◌, true}
use Rattle.m2v_bits.specs.Syntax.{Spells}
use Rattle.m2v_macroblock.specs.m2v_macro.declared.values.SliceState.{SliceState}
use Rattle.m2v_macroblock.specs.m2v_macro.Conditions.{IsReady, IsMacro}
use Rattle.m2v_macroblock.specs.Macroblocks.{Macroblock}
use Rattle.m2v_macroblock.specs.Texts.{macroblock_text}
use Rattle.m2v_macroblock.specs.Conditions.{IsPicture, AreDc, AreBlocks, AreLevels}
use Rattle.m2v_model.specs.declared.setup.SliceSetup.{SliceSetup}
use Rattle.m2v_model.specs.Modes.{all_inside, references_decoded}
use Rattle.m2v_model.specs.Slices.{macroblock_at}

-- a macroblock that can stand here, with its blocks: it and those skipped before it are predicted from what lies inside
-- decoded references
pub record CanBeWritten (s : SliceSetup) (st : SliceState) (x : Macroblock) : Type 0 where
  pub picture : IsPicture s.context
  pub ready : IsReady s.context st
  pub dc : AreDc s.context.extension.dc_precision st.dc
  pub fits : IsMacro s.context st x.syntax
  pub inside : all_inside s st x.syntax ≡ true
  pub decoded : references_decoded s st x.syntax ≡ true
  pub blocks : AreBlocks s.context st x
  pub levels : AreLevels x

abbrev pub IsSpelled : SliceSetup → SliceState → Macroblock → Type 0
IsSpelled s st x = CanBeWritten s st x → Spells (macroblock_at s st) x (macroblock_text s.context st x)
