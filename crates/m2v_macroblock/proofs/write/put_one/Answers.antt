use Rattle.std.proofs.Common.{[], sym, ◌∙◌}
use Rattle.std.proofs.Math.ListN.{get_or-map}
use Rattle.std.specs.Prelude.{nat_lt}
use Rattle.std.proofs.lemmas.Int.{to_z-of_z}
use mir.Syntax.{w32}
use Rattle.m2v_block.specs.m2v_quant.declared.kind.Levels.{Levels}
use Rattle.m2v_macroblock.specs.Macroblocks.{macroblock_of}
use Rattle.m2v_macroblock.proofs.DcLaws.{predictor_passed}
use Rattle.m2v_macroblock.proofs.BlockTexts.{one_gained}
use Rattle.m2v_macroblock.proofs.write.put_one.Goals as goal

pub put_block-requires-clause-predictor : goal.put_block-requires-clause-predictor
put_block-requires-clause-predictor g c =
    predictor_passed c.args.context.now c.args.state.now (macroblock_of c.args.x.now c.args.levels.now) c.args.block (nat_lt c.args.block 4) c.kind_for-kind.result c.predictor-dc.result
    c.requires.blocks c.requires.block c.kind_for-kind.ensures.value c.predictor-dc.ensures (record { sfits = c.predictor-dc.type_inv })

pub returns-then-is_coded : goal.returns-then-is_coded
returns-then-is_coded g c =
    let same = to_z-of_z w32 c.predictor-dc.result (record { sfits = c.predictor-dc.type_inv }) ∙ c.predictor-dc.ensures in
    one_gained c.args.context.now c.args.state.now (macroblock_of c.args.x.now c.args.levels.now) c.args.block _ _ _ c.put_block.ensures (sym c.if-is_coded.ensures.value) c.kind_for-kind.ensures.value same (sym (get_or-map (λ (l : Levels). l.at) c.args.levels.now c.args.block (record { at = [] })))
