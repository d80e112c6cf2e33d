use Rattle.std.proofs.Common.{◌≡◌, ◌≤◌, drop}
use Rattle.m2v_audit.specs.Auditing.{with_headers, Keeps}
use Rattle.m2v_audit.proofs.auditing.Auditing.headers.Given as goal

abbrev pub invariant-loop-header : goal.invariant-loop-header
invariant-loop-header l = record {
  value : with_headers l.self l.noted l.next (drop l.header-index l.headers) ≡ with_headers l.fn.self l.noted 0 l.fn.headers;
  keeps : Keeps l.fn.self l.self;
  next : l.next ≤ l.header-index;
}
