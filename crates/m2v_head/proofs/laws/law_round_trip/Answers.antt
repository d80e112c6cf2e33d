use Rattle.m2v_head.specs.Texts.{sequence_text, sequence_extension_text, group_text, picture_text, picture_extension_text, matrices_text, slice_text}
use Rattle.m2v_head.specs.Fits.{SequenceFits, SequenceExtensionFits, GroupFits, PictureFits, PictureExtensionFits, MatrixFits, SliceFits}
use Rattle.m2v_head.proofs.HeaderLaws.{sequence_strict, sequence_extension_strict, group_strict, picture_strict, picture_extension_strict, matrices_strict, slice_strict}
use Rattle.m2v_head.proofs.Spellings.{sequence_spells, sequence_extension_spells, group_spells, picture_spells, picture_extension_spells, matrices_spells, slice_spells}
use Rattle.m2v_bits.proofs.Decisions.{round_trip}
use Rattle.m2v_head.proofs.laws.law_round_trip.Goals as goal

pub returns : goal.returns
returns c = record {
  sequence = round_trip SequenceFits sequence_text sequence_strict.lawful sequence_spells;
  sequence_extension = round_trip SequenceExtensionFits sequence_extension_text sequence_extension_strict.lawful sequence_extension_spells;
  group = round_trip GroupFits group_text group_strict.lawful group_spells;
  picture = round_trip PictureFits picture_text picture_strict.lawful picture_spells;
  picture_extension = round_trip PictureExtensionFits picture_extension_text picture_extension_strict.lawful picture_extension_spells;
  matrices = round_trip MatrixFits matrices_text matrices_strict.lawful matrices_spells;
  slice = round_trip SliceFits slice_text slice_strict.lawful slice_spells;
}
