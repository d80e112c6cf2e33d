use Rattle.std.proofs.Common.{◌-◌, ◌≡◌, ◌≤◌}
use Rattle.m2v_encode.specs.Steps.{CanRead, ReadsOn}
use Rattle.m2v_encode.proofs.intake.Intake.next_group.Given as goal

abbrev pub invariant-loop-self : goal.invariant-loop-self
invariant-loop-self g l = record {
  reads : ReadsOn g.S.Source.left g.S.Source.faults l.fn.self.settings l.fn.self.queue l.self.queue l.fn.input l.input;
  can : CanRead l.self;
  settings : l.self.settings ≡ l.fn.self.settings;
  behind : g.S.Source.behind l.fn.input ≤ g.S.Source.behind l.input;
  lenders : g.S.Source.lenders l.input ≡ g.S.Source.lenders l.fn.input;
}

abbrev pub decreases-loop-self : goal.decreases-loop-self
decreases-loop-self g l = 999999 - l.self.count
