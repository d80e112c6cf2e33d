use Rattle.m2v_mend.proofs.Parting.{member_at}
use Rattle.m2v_mend.proofs.Firsts.{no_matrices, matrices_past, matrices_first}
use Rattle.m2v_mend.proofs.alone.first_matrices.Goals as goal

pub loop-member-init : goal.loop-member-init
loop-member-init c = no_matrices

pub returns-then-member : goal.returns-then-member
returns-then-member c =
    matrices_first c.args.members.now c.loop-member.member-index c.member-item.result c.loop-member-test.true c.member-item.is c.if-member.true c.loop-member.invariant

pub loop-member-preserved : goal.loop-member-preserved
loop-member-preserved c =
    let ms = c.args.members.now in
    let i = c.loop-member.member-index in
    let m = c.member-item.result in
    matrices_past ms i m c.loop-member-test.true c.member-item.is (member_at ms i m c.loop-member-test.true c.member-item.is c.requires) c.if-member.false c.loop-member.invariant
