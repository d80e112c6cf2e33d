use Rattle.std.proofs.Common.{◌≡◌, ◌-◌, ◌≤◌, length, take}
use Rattle.m2v_port.specs.Port.{Moves}
use Rattle.m2v_port.proofs.whole.fill.Given as goal

abbrev pub invariant-loop-filled : goal.invariant-loop-filled
invariant-loop-filled g l =
    record {
      within : l.filled ≤ length l.buf;
      moved : Moves (g.S.Source.left l.initial.input) (take l.filled l.buf) (g.S.Source.left l.input);
      faults : g.S.Source.faults l.initial.input ≤ g.S.Source.faults l.input;
      behind : g.S.Source.behind l.initial.input ≤ g.S.Source.behind l.input;
      lenders : g.S.Source.lenders l.input ≡ g.S.Source.lenders l.initial.input;
    }

abbrev pub decreases-loop-filled : goal.decreases-loop-filled
decreases-loop-filled g l = length l.initial.buf - l.filled
