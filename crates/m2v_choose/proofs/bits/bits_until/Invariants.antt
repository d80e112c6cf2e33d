use Rattle.std.proofs.Common.{◌≡◌, ◌+◌, ◌-◌, ◌*◌, ◌^◌, ◌≤◌, length}
use Rattle.std.specs.Prelude.{sum_by}
use Rattle.std.specs.List.{range_with_len}
use Rattle.m2v_macro.specs.States.{after}
use Rattle.m2v_macroblock.specs.Macroblocks.{macroblock_of}
use Rattle.m2v_macroblock.specs.Texts.{blocks_text}
use Rattle.m2v_choose.specs.Trials.{four_of, four_each}
use Rattle.m2v_choose.proofs.bits.bits_until.Given as goal

abbrev pub invariant-loop-block : goal.invariant-loop-block
invariant-loop-block l = record {
  bits : l.bits + (sum_by (four_of l.syntax.pattern) (range_with_len 0 l.block)
      + length (blocks_text l.task.context.now (after l.task.context.now l.task.first l.syntax) (macroblock_of l.syntax l.levels) l.block (6 - l.block)))
      ≡ l.header + (four_each l.syntax.pattern
      + length (blocks_text l.task.context.now (after l.task.context.now l.task.first l.syntax) (macroblock_of l.syntax l.levels) 0 6));
  most : l.bits ≤ 2 ^ 23 + 24 + l.block * 1538;
}
