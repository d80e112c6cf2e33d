use Rattle.std.proofs.Common.{List, ℕ, subst, ap, ◌+◌, ◌∙◌}
use Rattle.m2v_mend.specs.Kept.{IsUpToZeros}
use Rattle.m2v_mend.proofs.LimitLaws.{kept_is}
use Rattle.m2v_mend.proofs.limits.kept_length.Goals as goal

pub returns-clause-value : goal.returns-clause-value
returns-clause-value c =
    ap (λ (n : ℕ). c.up_to_zeros-own.result + n) c.min.ensures
    ∙ kept_is c.args.piece.now c.requires c.up_to_zeros-own.result (subst (λ (l : List ℕ). IsUpToZeros l c.up_to_zeros-own.result) c.deref.ensures.value c.up_to_zeros-own.ensures)
