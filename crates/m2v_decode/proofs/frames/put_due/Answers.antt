use Rattle.std.proofs.Common.{subst, sym}
use Rattle.std.proofs.lemmas.Result.{err_from_is_err_and}
use Rattle.m2v_plane.specs.Raw.{crop}
use Rattle.m2v_port.specs.Ends.{change}
use Rattle.m2v_port.specs.Port.{Grows}
use Rattle.m2v_port.proofs.Runs.{stays_on}
use Rattle.m2v_decode.specs.Progress.{Cuts}
use Rattle.m2v_decode.proofs.Putting.{HasPutSome, put_more, put_cut}
use Rattle.m2v_decode.proofs.frames.put_due.Goals as goal

pub returns-in_err-put_frame-clause-err : goal.returns-in_err-put_frame-clause-err
returns-in_err-put_frame-clause-err g c =
    let p = err_from_is_err_and c.from_residual.result c.from_residual.ensures.1 in
    let inv = c.loop-due.invariant in
    let cut = subst (λ f. Cuts (crop f) (change g.K.Sink.held g.K.Sink.faults c.loop-due.output c.put_frame.new.output) c.in_err-put_frame.field-0.0) c.frame.ensures.value c.in_err-put_frame.ensures.err in
    rw (p.1, p.2) (put_cut g.K.Sink.held g.K.Sink.faults _ _ _ _ _ _ _ _ inv.output.counts inv.put c.in-Some.ensures cut)

pub loop-due-preserved : goal.loop-due-preserved
loop-due-preserved g c =
    let inv = c.loop-due.invariant in
    let grown = subst (λ f. Grows (g.K.Sink.held c.loop-due.output) (crop f) (g.K.Sink.held c.put_frame.new.output)) c.frame.ensures.value c.in_ok-put_frame.ensures.grown in
    record {
      put = subst (λ d. HasPutSome c.args.decoder.now d (change g.K.Sink.held g.K.Sink.faults c.args.output.now c.put_frame.new.output)) (sym c.take_back.ensures.same)
          (put_more g.K.Sink.held g.K.Sink.faults _ _ _ _ _ _ _ inv.put c.in-Some.ensures grown);
      output = stays_on inv.output c.put_frame.ensures.output;
    }
