use Rattle.std.proofs.Common.{arith, refl, ap, Ok, ◌≡◌, ◌≤◌, ◌∙◌}
use Rattle.std.proofs.lemmas.Result.{err_from_is_err_and}
use Rattle.m2v_port.proofs.Runs.{stays_here, stays_on}
use Rattle.m2v_y4m.specs.Frames.{size_of}
use Rattle.m2v_y4m.proofs.Unpacks.{given_none, given_at, stopped_at, ended, went_on, look_stopped}
use Rattle.m2v_y4m.proofs.unpacking.unpack_frames.Goals as goal

pub loop-number-init : goal.loop-number-init
loop-number-init g c = record {
  frame = refl;
  header = refl;
  unbroken = c.requires.unbroken;
  given = given_none g.S.Source.left g.S.Source.faults g.K.Sink.held g.K.Sink.faults c.args.reader.now.header c.args.reader.now _ _ c.requires.unbroken;
  output = stays_here c.requires.output;
  input = omega arith;
}

pub returns-then-not-branch-clause-ok : goal.returns-then-not-branch-clause-ok
returns-then-not-branch-clause-ok g c =
    let is = ap Ok c.if-not-branch.true in
    let none = c.in_ok-next.ensures.none is in
    ended g.S.Source.left g.S.Source.faults g.K.Sink.held g.K.Sink.faults _ c.loop-number.number _ _ _ _ _ _ _ _ _ refl c.loop-number.invariant.given none.read none.over (c.in_ok-next.ensures.end is) none.same

pub returns-clause-ok : goal.returns-clause-ok
returns-clause-ok g c =
    let is = ap Ok c.if-branch.false in
    let e = c.in_ok-goes_on.ensures in
    let all : c.loop-number.number ≡ 999999 = omega arith in
    ended g.S.Source.left g.S.Source.faults g.K.Sink.held g.K.Sink.faults _ c.loop-number.number _ _ _ _ _ _ _ _ _ all c.loop-number.invariant.given (e.none is) (e.over is) (e.end is) refl

pub returns-in_err-next-clause-err : goal.returns-in_err-next-clause-err
returns-in_err-next-clause-err g c =
    let p = err_from_is_err_and c.from_residual.result c.from_residual.ensures.1 in
    let inv = c.loop-number.invariant in
    rw (p.1, p.2) (stopped_at g.S.Source.left g.S.Source.faults g.K.Sink.held g.K.Sink.faults c.args.reader.now.header c.loop-number.reader.header c.loop-number.number _ _ _ _ _ _ _ _ _ _ inv.header (omega arith)
    inv.input inv.output.counts inv.given c.in_err-next.ensures.err)

pub loop-number-preserved : goal.loop-number-preserved
loop-number-preserved g c =
    let inv = c.loop-number.invariant in
    let e = c.in_ok-next.ensures in
    record {
      frame = c.next.ensures.same ∙ inv.frame;
      header = c.next.ensures.header ∙ inv.header;
      unbroken = e.unbroken;
      given = given_at g.S.Source.left g.S.Source.faults g.K.Sink.held g.K.Sink.faults c.args.reader.now.header c.loop-number.reader.header c.loop-number.number _ _ _ _ _ _ inv.header inv.given (e.given (ap Ok c.if-not-branch.false));
      output = stays_on inv.output c.next.ensures.output;
      input = omega (arith, inv.input, c.next.ensures.input);
    }

pub returns-in_err-goes_on-clause-err : goal.returns-in_err-goes_on-clause-err
returns-in_err-goes_on-clause-err g c =
    let p = err_from_is_err_and c.from_residual-in_err-goes_on.result c.from_residual-in_err-goes_on.ensures.1 in
    let inv = c.loop-number.invariant in
    let some : 1 ≤ size_of c.args.reader.now.header = omega (arith, c.requires.frame, c.requires.some) in
    rw (p.1, p.2) (look_stopped g.S.Source.left g.S.Source.faults g.K.Sink.held g.K.Sink.faults c.args.reader.now.header c.loop-number.number _ _ _ _ _ _ _ _ _ some (omega arith) inv.input inv.given c.in_err-goes_on.ensures.err)

pub returns-then-branch-clause-err : goal.returns-then-branch-clause-err
returns-then-branch-clause-err g c =
    let inv = c.loop-number.invariant in
    let more = c.in_ok-goes_on.ensures.more (ap Ok c.if-branch.true) in
    went_on g.S.Source.left g.S.Source.faults g.K.Sink.held g.K.Sink.faults c.args.reader.now.header c.loop-number.number more.0 _ _ _ _ _ _ _ (omega arith) inv.given more.1
