use Rattle.m2v_mend.proofs.CopyEdits.{added_more}
use Rattle.m2v_mend.proofs.opening.push_lowered.Goals as goal

pub loop-member-preserved : goal.loop-member-preserved
loop-member-preserved c =
    added_more c.args.low c.args.members.now c.loop-member.member-index c.member-item.result c.args.out.now.items c.loop-member.out.items c.push.new.self.items c.in_ok-lowered.field-0
    c.loop-member-test.true c.member-item.is c.loop-member.invariant c.in_ok-lowered.ensures c.in_ok-push.ensures.items
