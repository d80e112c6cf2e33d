use Rattle.m2v_mend.proofs.Parting.{member_at}
use Rattle.m2v_mend.proofs.Firsts.{no_pictures, pictures_past, picture_first}
use Rattle.m2v_mend.proofs.alone.first_picture.Goals as goal

pub loop-member-init : goal.loop-member-init
loop-member-init c = no_pictures

pub returns-then-member-gt0 : goal.returns-then-member-gt0
returns-then-member-gt0 c =
    picture_first c.args.members.now c.loop-member.member-index c.member-item.result c.loop-member-test.true c.member-item.is c.if-member-gt0.true c.loop-member.invariant

pub loop-member-preserved : goal.loop-member-preserved
loop-member-preserved c =
    let ms = c.args.members.now in
    let i = c.loop-member.member-index in
    let m = c.member-item.result in
    pictures_past ms i m c.loop-member-test.true c.member-item.is (member_at ms i m c.loop-member-test.true c.member-item.is c.requires) c.if-member-gt0.false c.loop-member.invariant
