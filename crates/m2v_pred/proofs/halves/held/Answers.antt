use Rattle.std.proofs.Common.{◌∙◌, ap, get_or, arith}
use Rattle.std.proofs.lemmas.List.{get_or-take}
use Rattle.m2v_pred.proofs.halves.held.Goals as goal

pub returns-then-count-eq16 : goal.returns-then-count-eq16
returns-then-count-eq16 c = record {
  value = λ k lt. ap (λ xs. get_or xs k 0) c.sixteen.ensures ∙ get_or-take 16 c.args.line.now k 0 (omega arith);
}
