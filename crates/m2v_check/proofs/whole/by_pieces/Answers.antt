use Rattle.std.proofs.lemmas.Result.{IfErr-weaker, IfOk-weaker}
use Rattle.m2v_port.specs.Ends.{change}
use Rattle.m2v_decode.specs.Answers.{OfText}
use Rattle.m2v_decode.specs.Decoding.{Decoding}
use Rattle.m2v_decode.specs.Reading.{Follows}
use Rattle.m2v_check.specs.Answers.{IsJudged, Fails}
use Rattle.m2v_check.specs.Progress.{Ends, EndFails}
use Rattle.m2v_check.proofs.Verdicts.{told_ok, told_err}
use Rattle.m2v_check.proofs.whole.by_pieces.Goals as goal

pub returns-clause-ok : goal.returns-clause-ok
returns-clause-ok g c =
    let all = c.in_ok-read_pieces.ensures.ok in
    let input = change g.S.Source.left g.S.Source.faults c.args.input.now c.read_pieces.new.input in
    IfOk-weaker c.finish.result
    (λ v. (d : Decoding) → Follows c.read_pieces.new.reader d → Ends d c.end.result c.read_pieces.new.judge v)
    (λ v. OfText input (λ text. IsJudged text v))
    (λ v ends. told_ok g.S.Source.left g.S.Source.faults c.args.input.now c.read_pieces.new.input c.read_pieces.new.cutter all.decoder c.read_pieces.new.judge v all.done all.judged (rw c.end.ensures at (ends all.decoder all.follows)))
    c.finish.ensures.ok

pub returns-clause-err : goal.returns-clause-err
returns-clause-err g c =
    let all = c.in_ok-read_pieces.ensures.ok in
    let input = change g.S.Source.left g.S.Source.faults c.args.input.now c.read_pieces.new.input in
    IfErr-weaker c.finish.result
    (λ e. (d : Decoding) → Follows c.read_pieces.new.reader d → EndFails d c.end.result e)
    (Fails input)
    (λ e why. told_err g.S.Source.left g.S.Source.faults c.args.input.now c.read_pieces.new.input c.read_pieces.new.cutter all.decoder e all.done (rw c.end.ensures at (why all.decoder all.follows)))
    c.finish.ensures.err
