use Rattle.std.proofs.Common.{◌≡◌, true, length}
use Rattle.std.specs.Int.{bit_at}
use Rattle.m2v_quant.specs.Marks.{ArePlacedBut}
use Rattle.m2v_quant.proofs.forward.put_marked.Given as goal

abbrev pub invariant-loop-left : goal.invariant-loop-left
invariant-loop-left l = record {
  len : length l.levels ≡ 64;
  later : l.intra ≡ true → bit_at l.left 0 ≡ 0;
  placed : ArePlacedBut l.left l.f l.kind l.levels;
}

abbrev pub decreases-loop-left : goal.decreases-loop-left
decreases-loop-left l = l.left
