use Rattle.std.proofs.Common.{◌-◌}
use Rattle.m2v_bits.proofs.Outputs.{GainsBut}
use Rattle.m2v_macroblock.specs.Macroblocks.{macroblock_of}
use Rattle.m2v_macroblock.specs.Texts.{blocks_text}
use Rattle.m2v_macroblock.proofs.write.put_blocks.Given as goal

abbrev pub invariant-loop-block : goal.invariant-loop-block
invariant-loop-block g l =
    GainsBut g.O.BitOutput.took g.O.BitOutput.space l.fn.out (blocks_text l.context l.state (macroblock_of l.x l.levels) l.block (6 - l.block)) (blocks_text l.context l.state (macroblock_of l.x l.levels) 0 6) l.out
