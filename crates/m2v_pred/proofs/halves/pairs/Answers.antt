use Rattle.std.proofs.Common.{◌+◌, ◌<◌, ◌∙◌, ap, ap₂, get_or, arith}
use Rattle.std.proofs.lemmas.List.{get_or-take}
use Rattle.m2v_plane.proofs.Places.{part_at}
use Rattle.m2v_pred.proofs.halves.pairs.Goals as goal

pub returns-then-count-eq16-clause-value : goal.returns-then-count-eq16-clause-value
returns-then-count-eq16-clause-value c = λ k lt.
    let below : k < 16 = omega arith in
    c.each_sum.ensures.value k below
    ∙ ap₂ (λ a b. a + b) (ap (λ xs. get_or xs k 0) c.sixteen.ensures ∙ get_or-take 16 c.args.line.now k 0 below)
    (ap (λ xs. get_or xs k 0) c.sixteen-then-count-eq16.ensures ∙ part_at c.args.line.now 1 16 k below
    ∙ ap (λ j. get_or c.args.line.now j 0) (omega arith))
