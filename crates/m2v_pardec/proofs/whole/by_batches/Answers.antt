use Rattle.std.proofs.lemmas.Result.{err_from_is_err_and, IfErr-weaker, IfOk-weaker}
use Rattle.m2v_port.specs.Ends.{change}
use Rattle.m2v_decode.specs.Answers.{OfText, IsDecoded, Fails}
use Rattle.m2v_decode.specs.Progress.{Ends, EndFails}
use Rattle.m2v_decode.proofs.Ending.{nothing_read, done_ok, done_err}
use Rattle.m2v_pardec.proofs.whole.by_batches.Goals as goal

pub returns-in_err-stream-clause-err : goal.returns-in_err-stream-clause-err
returns-in_err-stream-clause-err g c =
    let p = err_from_is_err_and c.from_residual.result c.from_residual.ensures.1 in
    rw (p.1, p.2) (nothing_read g.S.Source.left g.S.Source.faults g.K.Sink.held g.K.Sink.faults c.args.input.now c.args.output.now)

pub returns-clause-ok : goal.returns-clause-ok
returns-clause-ok g c =
    let input = change g.S.Source.left g.S.Source.faults c.args.input.now c.read_batches.new.input in
    let last = change g.K.Sink.held g.K.Sink.faults c.read_batches.new.output c.finish.new.output in
    let output = change g.K.Sink.held g.K.Sink.faults c.args.output.now c.finish.new.output in
    IfOk-weaker c.finish.result
    (λ d. Ends c.read_batches.new.stream.decoder c.end.result d last)
    (λ d. OfText input (λ text. IsDecoded text output d))
    (λ d ends. done_ok g.S.Source.left g.S.Source.faults g.K.Sink.held g.K.Sink.faults _ _ c.args.output.now c.read_batches.new.output c.finish.new.output c.read_batches.new.stream.cutter c.read_batches.new.stream.decoder d c.in_ok-read_batches.ensures.ok (rw c.end.ensures at ends))
    c.finish.ensures.ok

pub returns-clause-err : goal.returns-clause-err
returns-clause-err g c =
    let input = change g.S.Source.left g.S.Source.faults c.args.input.now c.read_batches.new.input in
    let last = change g.K.Sink.held g.K.Sink.faults c.read_batches.new.output c.finish.new.output in
    let output = change g.K.Sink.held g.K.Sink.faults c.args.output.now c.finish.new.output in
    IfErr-weaker c.finish.result
    (EndFails c.read_batches.new.stream.decoder c.end.result last)
    (Fails input output)
    (λ e why. done_err g.S.Source.left g.S.Source.faults g.K.Sink.held g.K.Sink.faults c.args.input.now c.read_batches.new.input c.args.output.now c.read_batches.new.output c.finish.new.output c.read_batches.new.stream.cutter c.read_batches.new.stream.decoder e c.read_batches.ensures.output.counts c.in_ok-read_batches.ensures.ok (rw c.end.ensures at why))
    c.finish.ensures.err
