use Rattle.std.proofs.Common.{◌∙◌}
use Rattle.m2v_mend.proofs.Made.{frames_with}
use Rattle.m2v_mend.proofs.mender.Mender.frames_shown.Goals as goal

pub returns-in_ok-frames-in-Some : goal.returns-in_ok-frames-in-Some
returns-in_ok-frames-in-Some c = λ written listed m is.
    frames_with written listed m c.args.self.now c.in-Some.strand c.in_ok-frames-in-Some.frames c.frames.result is c.in-Some.is (λ none. c.if-bytes-eq0.false (c.bytes.ensures.value ∙ none)) c.frames.ensures c.in_ok-frames-in-Some.ensures
