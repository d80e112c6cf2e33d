use Rattle.std.proofs.Common.{sym}
use Rattle.m2v_mend.proofs.Parting.{member_at}
use Rattle.m2v_mend.proofs.Firsts.{no_pictures, pictures_next}
use Rattle.m2v_mend.proofs.alone.pictures_of.Goals as goal

pub loop-member-init : goal.loop-member-init
loop-member-init c = sym no_pictures

pub loop-member-preserved : goal.loop-member-preserved
loop-member-preserved c =
    let ms = c.args.members.now in
    let i = c.loop-member.member-index in
    let m = c.member-item.result in
    pictures_next ms i m c.loop-member.pictures c.in_ok-pictures.pictures c.loop-member-test.true c.member-item.is (member_at ms i m c.loop-member-test.true c.member-item.is c.requires) c.loop-member.invariant c.in_ok-pictures.ensures
