use Rattle.std.proofs.Common.{sym, ◌∙◌}
use Rattle.std.proofs.lemmas.Bool.{eqb-true}
use Rattle.m2v_macro.proofs.Components.{one_ahead}
use Rattle.m2v_macro.proofs.vectors.is_still.Goals as goal

pub returns : goal.returns
returns c = λ e. one_ahead c.args.input.now.rest (sym c.peek.ensures.value ∙ eqb-true c.peek.result 1 e)
