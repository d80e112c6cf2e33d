-- The definitions at their outside vectors.
use Rattle.std.proofs.Common.{refl}
use Rattle.m2v_bits.specs.Bits as bitsBits
use Rattle.m2v_model.specs.Looking as modelLooking
use Rattle.m2v_model.specs.Units as modelUnits
use Rattle.m2v_model.specs.Pieces as modelPieces
use Rattle.m2v_model.specs.Worked as modelWorked
use Rattle.m2v_law_group.specs.Groups as groups
use Rattle.m2v_law_group.specs.Worked.{WorkedRows, two_groups, second_group}

pub worked_rows : WorkedRows
unfolding bitsBits.bits_of bitsBits.number modelLooking.number_from modelUnits.cut modelPieces.is_end modelPieces.begins_piece modelPieces.before_sequence groups.has_picture groups.has_sequence groups.group_headers groups.from_sequence groups.to_end groups.before_group groups.from_group groups.from_last_sequence groups.up_to_piece groups.cut_units groups.coded_pictures groups.begins_intra modelWorked.grouped two_groups second_group
worked_rows = record {
  groups = refl;
  alone = refl;
  second_alone = refl;
  third = refl;
  all = refl;
  beyond = refl;
  first = refl;
  second = refl;
  chosen = refl;
  has_both = refl;
  not_alone = refl;
  at = refl;
}
