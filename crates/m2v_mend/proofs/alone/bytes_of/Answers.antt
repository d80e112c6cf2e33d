use Rattle.m2v_mend.proofs.Parting.{member_at}
use Rattle.m2v_mend.proofs.Firsts.{bytes_next}
use Rattle.m2v_mend.proofs.alone.bytes_of.Goals as goal

pub loop-member-preserved : goal.loop-member-preserved
loop-member-preserved c =
    let ms = c.args.members.now in
    let i = c.loop-member.member-index in
    let m = c.member-item.result in
    bytes_next ms i m c.loop-member.bytes c.in_ok-bytes.bytes c.loop-member-test.true c.member-item.is (member_at ms i m c.loop-member-test.true c.member-item.is c.requires) c.loop-member.invariant c.in_ok-bytes.ensures
