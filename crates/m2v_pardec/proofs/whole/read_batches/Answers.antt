use Rattle.std.proofs.Common.{[]}
use Rattle.std.proofs.lemmas.Result.{err_from_is_err_and}
use Rattle.m2v_port.specs.Ends.{change}
use Rattle.m2v_port.specs.Port.{Rose}
use Rattle.m2v_port.proofs.Runs.{rose_since}
use Rattle.m2v_decode.proofs.Going.{progress_none}
use Rattle.m2v_pardec.specs.Ahead.{behind, IsAhead}
use Rattle.m2v_pardec.proofs.AheadLaws.{ahead_none, ahead_done, fails_as, ahead_unread}
use Rattle.m2v_pardec.proofs.whole.read_batches.Goals as goal

pub returns-in_err-stop-clause-err : goal.returns-in_err-stop-clause-err
returns-in_err-stop-clause-err g c =
    let p = err_from_is_err_and c.from_residual.result c.from_residual.ensures.1 in
    let left = g.S.Source.left c.args.input.now in
    let held = g.K.Sink.held c.args.output.now in
    let start : IsAhead (behind c.args.stream.now.cutter) left left held held [] c.args.stream.now.decoder = rw (c.requires.cutter, c.requires.decoder) (ahead_none (progress_none g.S.Source.left g.S.Source.faults g.K.Sink.held g.K.Sink.faults c.args.input.now c.args.output.now)) in
    rw (p.1, p.2)
    (fails_as (Rose (g.K.Sink.faults c.args.output.now) (g.K.Sink.faults c.put_first.new.output)) (change g.S.Source.left g.S.Source.faults c.args.input.now c.put_first.new.input) (change g.K.Sink.held g.K.Sink.faults c.args.output.now c.put_first.new.output) c.in_err-stop.field-0.0
    (λ r. r) ((c.in_err-stop.ensures.goes).err left held start))

pub loop-stop-init : goal.loop-stop-init
loop-stop-init g c =
    let left = g.S.Source.left c.args.input.now in
    let held = g.K.Sink.held c.args.output.now in
    let start : IsAhead (behind c.args.stream.now.cutter) left left held held [] c.args.stream.now.decoder = rw (c.requires.cutter, c.requires.decoder) (ahead_none (progress_none g.S.Source.left g.S.Source.faults g.K.Sink.held g.K.Sink.faults c.args.input.now c.args.output.now)) in
    let goes = c.in_ok-stop.ensures.goes in
    let x = goes.ok in
    record {
      ahead = x.ahead left held start;
      stands = (c.args.stream.now.cutter, x.stands);
      going = x.going;
      before = x.before;
      read = goes.read;
      output = c.put_first.ensures.output;
      input = c.put_first.ensures.input;
    }

pub returns-in-End-clause-ok : goal.returns-in-End-clause-ok
returns-in-End-clause-ok g c =
    let inv = c.loop-stop.invariant in
    let so = rw c.in-End.is at inv.ahead in
    let stands = rw c.in-End.is at inv.stands in
    ahead_done (change g.S.Source.left g.S.Source.faults c.args.input.now c.loop-stop.input) (change g.K.Sink.held g.K.Sink.faults c.args.output.now c.loop-stop.output) c.loop-stop.stream.cutter c.loop-stop.stream.decoder so stands.1.0 stands.1.1

pub returns-in-Error-clause-err : goal.returns-in-Error-clause-err
returns-in-Error-clause-err g c =
    let inv = c.loop-stop.invariant in
    let so = rw c.in-Error.is at inv.ahead in
    let stands = rw c.in-Error.is at inv.stands in
    let read = rw c.in-Error.is at inv.read in
    ahead_unread (change g.S.Source.left g.S.Source.faults c.args.input.now c.loop-stop.input) (change g.K.Sink.held g.K.Sink.faults c.args.output.now c.loop-stop.output) c.loop-stop.stream.decoder c.in-Error.e read stands.1 so

pub returns-in_err-stop-2-clause-err : goal.returns-in_err-stop-2-clause-err
returns-in_err-stop-2-clause-err g c =
    let inv = c.loop-stop.invariant in
    let p = err_from_is_err_and c.from_residual-in_err-stop-2.result c.from_residual-in_err-stop-2.ensures.1 in
    let left = g.S.Source.left c.args.input.now in
    let held = g.K.Sink.held c.args.output.now in
    let so = rw c.in-More.is at inv.ahead in
    rw (p.1, p.2)
    (fails_as (Rose (g.K.Sink.faults c.loop-stop.output) (g.K.Sink.faults c.put_next.new.output)) (change g.S.Source.left g.S.Source.faults c.args.input.now c.put_next.new.input) (change g.K.Sink.held g.K.Sink.faults c.args.output.now c.put_next.new.output) c.in_err-stop-2.field-0.0
    (λ r. rose_since inv.output.counts r) ((c.in_err-stop-2.ensures.goes).err left held so))
