use Rattle.std.proofs.Common.{◌∙◌, ap}
use Rattle.m2v_model.specs.Units.{unit_bits}
use Rattle.m2v_cut.proofs.Lefts.{left_less, left_place, sequence_behind}
use Rattle.m2v_cut.proofs.start.sequence_in.Goals as goal

pub overflow_sub-result : goal.overflow_sub-result
overflow_sub-result c =
    left_less _ _ c.left-total.result c.in-Some.left (sequence_behind c.args.number _ c.requires.here) (c.left-total.ensures.value ∙ ap unit_bits c.units.ensures.value) (rw c.units-2.ensures.value at c.in-Some.ensures).1

pub returns-in-Some : goal.returns-in-Some
returns-in-Some c =
    let e = rw c.units-2.ensures.value at c.in-Some.ensures in
    (e.0, left_place _ _ c.left-total.result c.in-Some.left (sequence_behind c.args.number _ c.requires.here) (c.left-total.ensures.value ∙ ap unit_bits c.units.ensures.value) e.1)
