use Rattle.std.proofs.Common.{ℕ, ◌+◌, ap, ◌∙◌}
use Rattle.m2v_mend.proofs.Made.{bytes_with}
use Rattle.m2v_mend.proofs.mender.Mender.bytes_kept.Goals as goal

pub returns-in_ok-bytes-in-Some : goal.returns-in_ok-bytes-in-Some
returns-in_ok-bytes-in-Some c = λ written listed m is.
    bytes_with written listed m c.args.self.now c.in-Some.strand c.in_ok-bytes-in-Some.bytes is c.in-Some.is (c.in_ok-bytes-in-Some.ensures ∙ ap (λ (n : ℕ). c.args.self.now.bytes + n) c.bytes.ensures.value)
