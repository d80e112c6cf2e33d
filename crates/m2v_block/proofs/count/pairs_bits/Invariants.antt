use Rattle.std.proofs.Common.{◌≡◌, ◌+◌, ◌≤◌, ◌-◌, false, drop, length}
use Rattle.m2v_block.specs.Texts.{pairs_text}
use Rattle.m2v_block.specs.Marked.{AreMarked}
use Rattle.m2v_block.proofs.count.pairs_bits.Given as goal

abbrev pub invariant-loop-rest : goal.invariant-loop-rest
invariant-loop-rest l = record {
  bits : l.bits + length (pairs_text false l.one 0 (drop l.at l.levels.at)) ≡ length (pairs_text false l.one 0 (drop l.from l.levels.at));
  marks : AreMarked l.levels.at l.at l.rest;
  inside : l.at ≤ 64;
  most : l.bits ≤ 1540;
}

abbrev pub decreases-loop-rest : goal.decreases-loop-rest
decreases-loop-rest l = 64 - l.at
