use Rattle.std.proofs.Common.{◌≡◌, ◌≤◌, ℕ, pos, arith, ap, ◌∙◌, subst, inl, inr, w32}
use Rattle.std.proofs.lemmas.Int.{to_z-of_z}
use mir.Val.{SFits}
use Rattle.m2v_idct.proofs.Passed.{coefficient_within, fits}
use Rattle.std.specs.Prelude.{unsigned_abs}
use Rattle.std.proofs.lemmas.Bool.{cases_lt}
use Rattle.m2v_idct.specs.Block.{nth}
use Rattle.m2v_choose.proofs.blocks.largest.Goals as goal

pub loop-k-preserved : goal.loop-k-preserved
loop-k-preserved c = λ j lt.
    let xs = c.args.transform.now in
    let n = c.loop-k.k in
    elim (cases_lt j n) [
      | inl less ↦ omega (arith, c.loop-k.invariant j less, c.larger-most.ensures.first)
      | inr more ↦
          let here : n ≡ j = omega (arith, lt, more) in
          let fit : SFits w32 (nth xs n) = fits 2048 (nth xs n) (omega arith) (coefficient_within (nth xs n) (c.requires n (pos 0) (omega arith))) in
          let same : c.size.result ≡ unsigned_abs (nth xs n) = c.size.ensures ∙ ap unsigned_abs (to_z-of_z w32 (nth xs n) fit) in
          let own : unsigned_abs (nth xs n) ≤ c.larger-most.result = omega (arith, same, c.larger-most.ensures.second) in
          subst (λ (k : ℕ). unsigned_abs (nth xs k) ≤ c.larger-most.result) here own
    ]
