use Rattle.std.proofs.Common.{◌∙◌, ap, refl, sym}
use Rattle.std.specs.Prelude.{nat_le}
use Rattle.m2v_model.specs.Units.{unit_bits}
use Rattle.m2v_cut.proofs.Lefts.{header_less, header_there, start_told}
use Rattle.m2v_cut.proofs.start.start_in.Goals as goal

pub unreachable-requires : goal.unreachable-requires
unreachable-requires c = header_there c.args.number _ c.requires.here (rw c.units-behind.ensures.value at c.in-None.ensures).0

pub overflow_sub-result : goal.overflow_sub-result
overflow_sub-result c =
    header_less c.args.number _ _ _ c.left-total.result c.left.result c.bits.result c.requires.here (rw c.units-behind.ensures.value at c.in-Some.ensures) (c.left-total.ensures.value ∙ ap unit_bits c.units-behind.ensures.value) c.left.ensures.value c.bits.ensures.value

pub returns : goal.returns
returns c =
    start_told c.args.number _ _ _ c.left-total.result c.left.result c.bits.result _ c.requires.here (rw c.units-behind.ensures.value at c.in-Some.ensures) (c.left-total.ensures.value ∙ ap unit_bits c.units-behind.ensures.value) c.left.ensures.value c.bits.ensures.value
    c.sequence_in-sequence.ensures refl (ap (λ n. nat_le 64 n) (c.bits-in-Some.ensures.value ∙ sym c.bits.ensures.value)) c.first_of.ensures
