use Rattle.std.proofs.Common.{◌≡◌, ◌≤◌, ◌-◌, length}
use Rattle.m2v_y4m.specs.Reading.{Held}
use Rattle.m2v_y4m.proofs.reader.gather.Given as goal

abbrev pub invariant-loop-chunk : goal.invariant-loop-chunk
invariant-loop-chunk g l = record {
  read : Held l.fn.chunk (g.S.Source.left l.fn.inner) l.chunk (g.S.Source.left l.inner);
  faults : g.S.Source.faults l.fn.inner ≤ g.S.Source.faults l.inner;
  lenders : g.S.Source.lenders l.inner ≡ g.S.Source.lenders l.fn.inner;
}

abbrev pub decreases-loop-chunk : goal.decreases-loop-chunk
decreases-loop-chunk g l = 1024 - length l.chunk
