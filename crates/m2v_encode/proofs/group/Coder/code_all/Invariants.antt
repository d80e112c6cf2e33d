use Rattle.std.proofs.Common.{◌≡◌, ◌≤◌}
use Rattle.m2v_port.specs.Ends.{change, SinkStays}
use Rattle.m2v_encode.specs.Steps.{HasRoom, CanRead}
use Rattle.m2v_encode.proofs.Loop.{Waits, turns_left}
use Rattle.m2v_encode.proofs.group.Coder.code_all.Given as goal

abbrev pub invariant-loop-next : goal.invariant-loop-next
invariant-loop-next g l = record {
  room : HasRoom l.self;
  settings : l.self.settings ≡ l.fn.self.settings;
  shown : l.self.shown ≡ l.fn.self.shown;
  intake : l.intake.settings ≡ l.fn.self.settings;
  can : CanRead l.intake;
  waits : Waits l.fn.self.settings l.self l.intake.queue l.next
      (change g.S.Source.left g.S.Source.faults l.fn.input l.input)
      (change g.K.Sink.held g.K.Sink.faults l.fn.output l.output)
      (change g.N.Sink.held g.N.Sink.faults l.fn.recon l.recon);
  output : SinkStays g.K.Sink.ready g.K.Sink.name g.K.Sink.faults l.fn.output l.output;
  recon : SinkStays g.N.Sink.ready g.N.Sink.name g.N.Sink.faults l.fn.recon l.recon;
  input : g.S.Source.faults l.fn.input ≤ g.S.Source.faults l.input;
  behind : g.S.Source.behind l.fn.input ≤ g.S.Source.behind l.input;
  lenders : g.S.Source.lenders l.input ≡ g.S.Source.lenders l.fn.input;
}

abbrev pub decreases-loop-next : goal.decreases-loop-next
decreases-loop-next g l = turns_left l.next l.intake.count
