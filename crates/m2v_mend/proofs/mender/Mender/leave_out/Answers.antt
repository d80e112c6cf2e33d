use Rattle.m2v_mend.proofs.Made.{same_gap, left_made}
use Rattle.m2v_mend.specs.Mender.{over}
use Rattle.m2v_mend.proofs.mender.Mender.leave_out.Goals as goal

pub returns-clause-told : goal.returns-clause-told
returns-clause-told c = λ written listed m s is span fault.
    left_made written listed m s _ c.add_gap.new.self (same_gap m s c.args.self.now c.args.parts.now c.args.fault is.frames span fault) (c.in_ok-add_gap.ensures.told written listed (over m) is)
