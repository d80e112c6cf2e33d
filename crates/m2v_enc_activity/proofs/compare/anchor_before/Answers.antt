use Rattle.std.proofs.Common.{arith, ◌∙◌, sym}
use Rattle.m2v_enc_activity.proofs.Anchors.{anchor_there, anchor_passed, none_first}
use Rattle.m2v_enc_activity.proofs.compare.anchor_before.Goals as goal

pub returns-then-is_anchor-clause-some : goal.returns-then-is_anchor-clause-some
returns-then-is_anchor-clause-some c = (
  omega (arith, c.loop-at.invariant.most, c.loop-at-test.true),
  c.loop-at.invariant.none_since
      ∙ anchor_there c.args.pictures.now c.args.structure c.loop-at.at (omega (arith, c.loop-at-test.true)) (sym c.is_anchor.ensures.value ∙ c.if-is_anchor.true),
)

pub loop-at-preserved : goal.loop-at-preserved
loop-at-preserved c = record {
  none_since = c.loop-at.invariant.none_since
      ∙ anchor_passed c.args.pictures.now c.args.structure c.loop-at.at (omega (arith, c.loop-at-test.true)) (sym c.is_anchor.ensures.value ∙ c.if-is_anchor.false);
  most = omega (arith, c.loop-at.invariant.most);
}

pub returns-clause-none : goal.returns-clause-none
returns-clause-none c = λ _. c.loop-at.invariant.none_since
    ∙ none_first c.args.pictures.now c.args.structure c.loop-at.at (omega (arith, c.loop-at-test.false))
