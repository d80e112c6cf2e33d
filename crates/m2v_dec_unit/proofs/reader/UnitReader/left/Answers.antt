use Rattle.std.proofs.Common.{ℕ, ◌*◌, sym, ap, ◌∙◌}
use Rattle.m2v_model.specs.Units.{Units, unit_bits}
use Rattle.m2v_dec_unit.specs.Texts.{text_of}
use Rattle.m2v_dec_unit.proofs.Cuts.{left_bits, at_unit, text_length}
use Rattle.m2v_dec_unit.proofs.reader.UnitReader.left.Goals as goal

pub returns-clause-value : goal.returns-clause-value
returns-clause-value c =
    let bytes = c.self.inside.bytes.now in
    let zeros = c.self.inside.zeros in
    sym (ap (λ (n : ℕ). 8 * n) (text_length bytes zeros))
    ∙ sym (left_bits (text_of bytes zeros) (at_unit bytes zeros c.self.invariant.1 c.self.invariant.2))
    ∙ ap (λ (us : Units). unit_bits us) c.self.view_is
