use Rattle.std.proofs.Common.{sym, subst, ◌∙◌}
use Rattle.m2v_law_seam.specs.Spans.{units_of}
use Rattle.m2v_mend.specs.declared.member.Member.{Member}
use Rattle.m2v_mend.specs.Telling.{IsInfo}
use Rattle.m2v_decode.specs.Decoding.{whole_of}
use Rattle.m2v_mend.proofs.Parting.{behind_here, behind_more, behind_end, member_at}
use Rattle.m2v_mend.proofs.opening.behind_of.Goals as goal

pub returns-then-not-is_b : goal.returns-then-not-is_b
returns-then-not-is_b c =
    let m = c.index-members-at.result in
    let is = member_at c.args.members.now c.loop-at.at m c.loop-at-test.true c.index-members-at.is c.requires.members in
    behind_here c.args.members.now c.args.frame c.loop-at.at m c.loop-at-test.true c.index-members-at.is (sym (c.is_b.ensures (whole_of m.piece) (subst (λ (x : Member). IsInfo (units_of (whole_of m.piece)) x.info) c.index-members-at.is is.info)) ∙ c.if-not-is_b.true) c.loop-at.invariant

pub loop-at-preserved : goal.loop-at-preserved
loop-at-preserved c =
    let m = c.index-members-at.result in
    let is = member_at c.args.members.now c.loop-at.at m c.loop-at-test.true c.index-members-at.is c.requires.members in
    behind_more c.args.members.now c.args.frame c.loop-at.at m c.loop-at-test.true c.index-members-at.is (sym (c.is_b.ensures (whole_of m.piece) (subst (λ (x : Member). IsInfo (units_of (whole_of m.piece)) x.info) c.index-members-at.is is.info)) ∙ c.if-not-is_b.false) c.loop-at.invariant

pub returns : goal.returns
returns c = behind_end c.args.members.now c.args.frame c.loop-at.at c.loop-at-test.false c.loop-at.invariant
