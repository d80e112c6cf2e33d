use Rattle.m2v_head.proofs.HeaderLaws.{sequence_strict, sequence_extension_strict, group_strict, picture_strict, picture_extension_strict, matrices_strict, slice_strict}
use Rattle.m2v_bits.proofs.Decisions.{decided}
use Rattle.m2v_head.proofs.laws.law_one_value.Goals as goal

pub returns : goal.returns
returns c = record {
  sequence = decided sequence_strict.lawful;
  sequence_extension = decided sequence_extension_strict.lawful;
  group = decided group_strict.lawful;
  picture = decided picture_strict.lawful;
  picture_extension = decided picture_extension_strict.lawful;
  matrices = decided matrices_strict.lawful;
  slice = decided slice_strict.lawful;
}
