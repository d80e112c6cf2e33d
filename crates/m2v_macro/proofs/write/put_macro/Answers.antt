use Rattle.std.proofs.Common.{◌++◌, sym, subst}
use Rattle.m2v_bits.specs.Outputs.{Gains}
use Rattle.m2v_bits.proofs.Outputs.{gains_on}
use Rattle.m2v_macro.specs.Texts.{modes_text, directions_text, pattern_text, macro_text}
use Rattle.m2v_vector.specs.declared.predictors.Pmv.{Pmv}
use Rattle.m2v_macro.specs.Macros.{f_codes_of}
use Rattle.m2v_macro.specs.Conditions.{ArePredictors}
use Rattle.m2v_macro.proofs.Predicted.{forward_before, backward_before}
use Rattle.m2v_macro.proofs.write.put_macro.Goals as goal

pub put_directions-requires-clause-forward : goal.put_directions-requires-clause-forward
put_directions-requires-clause-forward g c =
    let ctx = c.args.context.now in
    λ used. subst (λ (p : Pmv). ArePredictors (f_codes_of ctx 0) p 0) (sym c.pmv_before-pmv.ensures) (forward_before (f_codes_of ctx 0) ctx c.args.state.now c.args.m.now.increment (c.requires.state.forward used))

pub put_directions-requires-clause-backward : goal.put_directions-requires-clause-backward
put_directions-requires-clause-backward g c =
    let ctx = c.args.context.now in
    λ used. subst (λ (p : Pmv). ArePredictors (f_codes_of ctx 1) p 1) (sym c.pmv_before-pmv.ensures) (backward_before (f_codes_of ctx 1) ctx c.args.state.now c.args.m.now.increment (c.requires.state.backward used))

pub returns : goal.returns
unfolding macro_text
returns g c =
    let ctx = c.args.context.now in
    let m = c.args.m.now in
    subst (λ (p : Pmv). Gains g.O.BitOutput.took g.O.BitOutput.space c.args.out.now (modes_text ctx m ++ (directions_text ctx p m ++ pattern_text m.kind m.pattern)) c.put_pattern.new.out)
    c.pmv_before-pmv.ensures
    (gains_on c.put_modes.ensures (gains_on c.put_directions.ensures c.put_pattern.ensures))
