use Rattle.std.proofs.Common.{sym, subst}
use Rattle.m2v_vector.specs.declared.predictors.Pmv.{Pmv}
use Rattle.m2v_macro.specs.Macros.{f_codes_of}
use Rattle.m2v_macro.specs.Conditions.{ArePredictors}
use Rattle.m2v_macro.proofs.Predicted.{forward_before, backward_before}
use Rattle.m2v_macro.proofs.read.macroblock.Goals as goal

pub directions-requires-clause-forward : goal.directions-requires-clause-forward
directions-requires-clause-forward c =
    let ctx = c.args.context.now in
    λ used. subst (λ (p : Pmv). ArePredictors (f_codes_of ctx 0) p 0) (sym c.pmv_before-pmv.ensures) (forward_before (f_codes_of ctx 0) ctx c.args.state.now c.in_ok-increment.increment (c.requires.state.forward used))

pub directions-requires-clause-backward : goal.directions-requires-clause-backward
directions-requires-clause-backward c =
    let ctx = c.args.context.now in
    λ used. subst (λ (p : Pmv). ArePredictors (f_codes_of ctx 1) p 1) (sym c.pmv_before-pmv.ensures) (backward_before (f_codes_of ctx 1) ctx c.args.state.now c.in_ok-increment.increment (c.requires.state.backward used))
