use Rattle.std.proofs.Common.{◌≡◌, ◌-◌, ◌≤◌, length, take, None}
use Rattle.m2v_y4m.specs.Sources.{spot, ReadOn}
use Rattle.m2v_y4m.proofs.unpacking.read_whole.Given as goal

abbrev pub invariant-loop-filled : goal.invariant-loop-filled
invariant-loop-filled g l = record {
  within : l.filled ≤ length l.buf;
  same : length l.buf ≡ length l.fn.buf;
  read : ReadOn (spot l.fn.reader (g.S.Source.left l.fn.input)) (take l.filled l.buf) (spot l.reader (g.S.Source.left l.input));
  unbroken : l.reader.fault ≡ None;
  header : l.reader.header ≡ l.fn.reader.header;
  faults : g.S.Source.faults l.fn.input ≤ g.S.Source.faults l.input;
}

abbrev pub decreases-loop-filled : goal.decreases-loop-filled
decreases-loop-filled g l = length l.fn.buf - l.filled
