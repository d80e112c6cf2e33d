use Rattle.std.proofs.Common.{◌≡◌, ◌*◌, ◌≤◌}
use Rattle.m2v_port.specs.Ends.{change, SinkStays}
use Rattle.m2v_flat.specs.Steps.{IsReady, SoFar}
use Rattle.m2v_flat.proofs.profile.Coder.code_all.Given as goal

abbrev pub invariant-loop-number : goal.invariant-loop-number
invariant-loop-number g l = record {
  ready : IsReady l.self;
  settings : l.self.settings ≡ l.fn.self.settings;
  so_far : SoFar l.fn.self.settings l.number l.bytes (change g.S.Source.left g.S.Source.faults l.fn.input l.input) (change g.K.Sink.held g.K.Sink.faults l.fn.output l.output);
  few : l.bytes ≤ 32784 * l.number;
  output : SinkStays g.K.Sink.ready g.K.Sink.name g.K.Sink.faults l.fn.output l.output;
  input : g.S.Source.faults l.fn.input ≤ g.S.Source.faults l.input;
}
