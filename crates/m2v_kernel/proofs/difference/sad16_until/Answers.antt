use Rattle.std.proofs.lemmas.Bool.{true≢false}
use Rattle.std.proofs.Common.{◌+◌, arith, refl, ◌≡◌, ◌∙◌}
use Rattle.m2v_kernel.specs.Sums.{sad}
use Rattle.m2v_kernel.proofs.Steps.{sad_more, sad_step, summed_all, part_le_sad}
use Rattle.m2v_kernel.proofs.difference.sad16_until.Goals as goal

pub loop-at-preserved : goal.loop-at-preserved
loop-at-preserved c =
    (sad_step c.args.a.now c.args.b.now c.loop-at.at (c.loop-at.at + 64) c.loop-at.sum _ (omega arith) c.loop-at.invariant.0 c.sad_four-sum.ensures.sum, omega arith, omega arith)

pub loop-i-preserved : goal.loop-i-preserved
loop-i-preserved c =
    (omega (arith, sad_more c.args.a.now c.args.b.now c.loop-i.i c.requires.same c.loop-i-test.true), omega arith)

pub returns-then-sum-limit-clause-none : goal.returns-then-sum-limit-clause-none
returns-then-sum-limit-clause-none c =
    let step = sad_step c.args.a.now c.args.b.now c.loop-at.at (c.loop-at.at + 64) c.loop-at.sum _ (omega arith) c.loop-at.invariant.0 c.sad_four-sum.ensures.sum in
    (λ _. omega (arith, step, part_le_sad c.args.a.now c.args.b.now (c.loop-at.at + 64)), λ _. refl)

pub returns-else-sum-limit-2-clause-none : goal.returns-else-sum-limit-2-clause-none
returns-else-sum-limit-2-clause-none c =
    let all : c.loop-i.sum ≡ sad c.args.a.now c.args.b.now = c.loop-i.invariant.0 ∙ summed_all c.args.a.now c.args.b.now c.loop-i.i c.requires.same (omega arith) in
    (λ no. absurd (true≢false no), λ le. absurd (omega (arith, all, le)))

pub returns-else-sum-limit-2-clause-some : goal.returns-else-sum-limit-2-clause-some
returns-else-sum-limit-2-clause-some c = c.loop-i.invariant.0 ∙ summed_all c.args.a.now c.args.b.now c.loop-i.i c.requires.same (omega arith)
