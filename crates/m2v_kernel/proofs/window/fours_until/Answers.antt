use Rattle.std.proofs.Common.{◌≡◌, ◌+◌, ◌-◌, ◌*◌, take, drop, arith, ap, refl}
use Rattle.std.proofs.lemmas.Bool.{true≢false}
use Rattle.m2v_kernel.specs.Sums.{lines_at}
use Rattle.m2v_kernel.proofs.Steps.{part_le_sad}
use Rattle.m2v_kernel.proofs.Windows.{sad_lines, sad_all}
use Rattle.m2v_kernel.proofs.window.fours_until.Goals as goal

pub returns-then-sum-limit-clause-none : goal.returns-then-sum-limit-clause-none
returns-then-sum-limit-clause-none c =
    let k = c.loop-line.line in
    let xs = c.args.block.now in
    let count : 16 * k + 64 - 16 * k ≡ 64 = omega arith in
    let step = sad_lines xs c.args.window.now _ c.args.lines k c.args.place c.args.stride c.loop-line.sum _ _ (omega arith) c.requires.within c.loop-line.invariant.0
    c.line_place.ensures.value (ap (λ n. take n (drop (16 * k) xs)) count) c.four_at-sum.ensures.sum in
    (λ _. omega (arith, step, part_le_sad xs (lines_at c.args.lines c.args.window.now c.args.place c.args.stride) (16 * (k + 4))), λ _. refl)

pub loop-line-preserved : goal.loop-line-preserved
loop-line-preserved c =
    let k = c.loop-line.line in
    let xs = c.args.block.now in
    let count : 16 * k + 64 - 16 * k ≡ 64 = omega arith in (
      sad_lines xs c.args.window.now _ c.args.lines k c.args.place c.args.stride c.loop-line.sum _ _ (omega arith) c.requires.within c.loop-line.invariant.0
          c.line_place.ensures.value (ap (λ n. take n (drop (16 * k) xs)) count) c.four_at-sum.ensures.sum,
      omega arith,
      omega arith,
      omega arith,
      λ _. c.if-sum-limit.false,
    )

pub returns-clause-none : goal.returns-clause-none
returns-clause-none c =
    let all = sad_all c.args.block.now c.args.window.now c.args.lines c.loop-line.line c.args.place c.args.stride c.loop-line.sum
    c.requires.some c.requires.whole c.requires.within (omega arith) c.loop-line.invariant.0 in
    (λ no. absurd (true≢false no), λ le. absurd (omega (arith, all, le)))

pub returns-clause-some : goal.returns-clause-some
returns-clause-some c =
    sad_all c.args.block.now c.args.window.now c.args.lines c.loop-line.line c.args.place c.args.stride c.loop-line.sum
    c.requires.some c.requires.whole c.requires.within (omega arith) c.loop-line.invariant.0
