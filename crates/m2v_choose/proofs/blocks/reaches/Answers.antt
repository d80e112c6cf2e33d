use Rattle.std.proofs.Common.{◌≡◌, ◌<◌, ℕ, arith, subst, inl, inr}
use Rattle.std.specs.Prelude.{slice_index}
use Rattle.std.proofs.lemmas.Bool.{cases_lt}
use Rattle.m2v_choose.proofs.blocks.reaches.Goals as goal

pub loop-block-preserved : goal.loop-block-preserved
loop-block-preserved c = λ b lt.
    let most = c.args.most.now in
    let n = c.loop-block.block in
    elim (cases_lt b n) [
      | inl less ↦ c.loop-block.invariant b less
      | inr more ↦
          let here : n ≡ b = omega (arith, lt, more) in
          let own : slice_index most n < c.args.least = omega (arith, c.if-most-block.false) in
          subst (λ (m : ℕ). slice_index most m < c.args.least) here own
    ]
