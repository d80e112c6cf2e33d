use Rattle.std.proofs.Common.{length, sym, ap, ◌∙◌, arith, inl, inr}
use Rattle.std.proofs.lemmas.Bool.{eqb-true}
use Rattle.std.proofs.lemmas.Bool.Decides.{nat_tests}
use Rattle.m2v_model.specs.Units.{unit_bits}
use Rattle.m2v_dec_unit.specs.Texts.{text_of}
use Rattle.m2v_dec_unit.proofs.Cuts.{starts, are_units, most_bits, most_units, text_length}
use Rattle.m2v_dec_unit.proofs.reader.UnitReader.new.Goals as goal
use Rattle.m2v_dec_unit.proofs.reader.UnitReader.new.Goals.{then-is_empty, else-is_empty}

pub returns-clause-value : goal.returns-clause-value
returns-clause-value c =
    starts c.args.bytes.now c.bytes_from-bytes.result.now c.args.zeros c.if-is_empty.zeros c.next_unit-first.result c.requires.zeros c.next_unit-first.ensures c.bytes_from-bytes.ensures
    (elim c.if-is_empty.branch [
      | then-is_empty w ↦ inl (eqb-true (length c.bytes_from-bytes.result.now) 0 (sym c.is_empty.ensures ∙ w.if-is_empty.true), w.zeros-is)
      | else-is_empty w ↦ let e = sym c.is_empty.ensures ∙ w.if-is_empty.false in inr (grind (arith, nat_tests), w.zeros-is)
    ])

pub returns-clause-units : goal.returns-clause-units
returns-clause-units c = are_units _

pub returns-clause-bits : goal.returns-clause-bits
returns-clause-bits c =
    omega (arith, ap unit_bits (returns-clause-value c), most_bits (text_of c.args.bytes.now c.args.zeros), text_length c.args.bytes.now c.args.zeros)

pub returns-clause-count : goal.returns-clause-count
returns-clause-count c =
    omega (arith, ap length (returns-clause-value c), most_units (text_of c.args.bytes.now c.args.zeros), text_length c.args.bytes.now c.args.zeros)
