use Rattle.std.proofs.Common.{sym, ◌∙◌}
use Rattle.std.specs.Cmp.Derive.{both_true}
use Rattle.m2v_audit.proofs.Beginning.{can_begin}
use Rattle.m2v_audit.proofs.opening.has_account.Goals as goal

pub returns-then-rates-clause-begin : goal.returns-then-rates-clause-begin
returns-then-rates-clause-begin c = λ frames.
    can_begin c.args.s.now (both_true (sym c.if-rates.ensures.value) (sym c.has_frame_rate-frames.ensures.value ∙ frames))
