use Rattle.std.proofs.Common.{List, Bool, sym, subst, ◌∙◌}
use Rattle.m2v_bits.specs.Outputs.{Gains}
use Rattle.m2v_bits.proofs.Outputs.{gains_on}
use Rattle.m2v_macro.proofs.Parts.{directions_is}
use Rattle.m2v_macro.proofs.Ready.{used_forward, used_backward}
use Rattle.m2v_macro.proofs.write.put_directions.Goals as goal

pub put_direction-requires-clause-scales : goal.put_direction-requires-clause-scales
put_direction-requires-clause-scales g c = λ told. c.requires.context.forward (used_forward c.args.context.now c.args.m.now.kind c.requires.fits.kind (sym c.has_forward-told.ensures ∙ told))

pub put_direction-requires-clause-predictors : goal.put_direction-requires-clause-predictors
put_direction-requires-clause-predictors g c = λ told. c.requires.forward (used_forward c.args.context.now c.args.m.now.kind c.requires.fits.kind (sym c.has_forward-told.ensures ∙ told))

pub put_direction-requires-2-clause-scales : goal.put_direction-requires-2-clause-scales
put_direction-requires-2-clause-scales g c = λ told. c.requires.context.backward (used_backward c.args.context.now c.args.m.now.kind c.requires.context.kind.0 c.requires.context.kind.1 c.requires.fits.kind told)

pub put_direction-requires-2-clause-predictors : goal.put_direction-requires-2-clause-predictors
put_direction-requires-2-clause-predictors g c = λ told. c.requires.backward (used_backward c.args.context.now c.args.m.now.kind c.requires.context.kind.0 c.requires.context.kind.1 c.requires.fits.kind told)

pub returns : goal.returns
returns g c =
    subst (λ (text : List Bool). Gains g.O.BitOutput.took g.O.BitOutput.space c.args.out.now text c.put_marker.new.out)
    (directions_is c.args.context.now c.args.pmv.now c.args.m.now _ _ _ _ _ c.has_forward-told.ensures c.is_field.ensures c.shape_of-shape.ensures c.forward_of.ensures c.backward_of-behind.ensures)
    (gains_on c.put_direction.ensures (gains_on c.put_direction-2.ensures c.put_marker.ensures))
