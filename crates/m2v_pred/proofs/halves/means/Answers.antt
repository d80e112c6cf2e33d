use Rattle.std.proofs.Common.{◌<◌, ◌∙◌, ap, ap₂, get_or, arith}
use Rattle.std.proofs.lemmas.List.{get_or-take}
use Rattle.m2v_kernel.specs.Sums.{mean}
use Rattle.m2v_pred.proofs.halves.means.Goals as goal

pub returns-then-count-eq16 : goal.returns-then-count-eq16
returns-then-count-eq16 c = record {
  value = λ k lt.
      let below : k < 16 = omega arith in
      c.each_mean.ensures.value k below
      ∙ ap₂ mean (ap (λ xs. get_or xs k 0) c.sixteen.ensures ∙ get_or-take 16 c.args.a.now k 0 below)
      (ap (λ xs. get_or xs k 0) c.sixteen-then-count-eq16.ensures ∙ get_or-take 16 c.args.b.now k 0 below);
}
