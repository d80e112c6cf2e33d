use Rattle.std.proofs.Common.{◌≤◌, ◌-◌, drop}
use Rattle.m2v_bits.proofs.Outputs.{GainsBut}
use Rattle.m2v_block.specs.Texts.{pairs_text}
use Rattle.m2v_block.specs.Marked.{AreMarked}
use Rattle.m2v_block.proofs.write.put_pairs.Given as goal

abbrev pub invariant-loop-rest : goal.invariant-loop-rest
invariant-loop-rest g l = record {
  text : GainsBut g.O.BitOutput.took g.O.BitOutput.space l.fn.out (pairs_text l.none l.one 0 (drop l.at l.levels.at)) (pairs_text l.first l.one 0 (drop l.from l.levels.at)) l.out;
  marks : AreMarked l.levels.at l.at l.rest;
  inside : l.at ≤ 64;
}

abbrev pub decreases-loop-rest : goal.decreases-loop-rest
decreases-loop-rest g l = 64 - l.at
