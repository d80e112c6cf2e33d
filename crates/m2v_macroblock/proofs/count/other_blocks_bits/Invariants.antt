use Rattle.std.proofs.Common.{◌≡◌, ◌+◌, ◌-◌, ◌*◌, ◌≤◌, length}
use Rattle.m2v_macro.specs.States.{after}
use Rattle.m2v_macroblock.specs.Macroblocks.{macroblock_of}
use Rattle.m2v_macroblock.specs.Texts.{blocks_text}
use Rattle.m2v_macroblock.proofs.count.other_blocks_bits.Given as goal

abbrev pub invariant-loop-block : goal.invariant-loop-block
invariant-loop-block l = record {
  bits : l.bits + length (blocks_text l.context (after l.context l.state l.x) (macroblock_of l.x l.levels) l.block (6 - l.block)) ≡ length (blocks_text l.context (after l.context l.state l.x) (macroblock_of l.x l.levels) 0 6);
  most : l.bits ≤ l.block * 1538;
}
