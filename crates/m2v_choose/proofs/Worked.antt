-- Worked values, by computing.
use Rattle.std.proofs.Common.{refl}
use Rattle.m2v_bits.specs.Bits.{bits_of}
use Rattle.m2v_quant.specs.Matrices.{default_matrix}
use Rattle.m2v_vlc.specs.Codes.{code_of}
use Rattle.m2v_vlc.specs.Tables.{increment, type_i, type_p, type_b, dc_luma, dc_chroma, motion}
use Rattle.m2v_vlc.specs.Coefficients.{coefficient_zero, same_coefficient, pairs_zero, signed}
use Rattle.m2v_vlc.specs.Values.{same_increment, same_signed}
use Rattle.m2v_macroblock.specs.m2v_block.Texts.{block_text, pairs_text, level_text, run_after, code_text}
use Rattle.m2v_macroblock.specs.m2v_block.Dc.{dc_text, size_of, number_of, size_code}
use Rattle.m2v_vector.specs.Vectors.{between, wrapped, with_sign, residual_of, code_of as motion_code_of}
use Rattle.m2v_vector.specs.Predictors.{resets, has_vectors, has_two, is_halved, left_by, entry_after, predictors_after}
use Rattle.m2v_macro.specs.States.{skips, pmv_before, dc_reset, dc_behind, at_start, after}
use Rattle.m2v_macro.specs.Vectors.{shape_of, has_residual}
use Rattle.m2v_macro.specs.Macros.{has_form, has_dct}
use Rattle.m2v_macro.specs.Texts.{escapes_text, increment_text, kind_text, form_text, dct_text, quantiser_text, direction_text, marker_text, pattern_text, modes_text, directions_text, macro_text, selected_text, second_text, bit_text, vector_text, part_text, dm_text, predictor_at, component_text, difference_text, residual_text}
use Rattle.m2v_macroblock.specs.Macroblocks.{kind_for, predictor}
use Rattle.m2v_macroblock.specs.Texts.{block_in_text, macroblock_text}
use Rattle.m2v_choose.specs.Decisions.{increment_of, intra_syntax, uncoded_syntax}
use Rattle.m2v_choose.specs.Candidates.{plain_form, still_prediction, held_levels, hold, may_skip}
use Rattle.m2v_choose.specs.Rows.{WorkedRows, picture, behind_first, decision}

pub worked_rows : WorkedRows
unfolding bits_of default_matrix code_of increment type_i type_p type_b dc_luma dc_chroma motion coefficient_zero same_coefficient pairs_zero signed same_increment same_signed block_text pairs_text level_text run_after code_text dc_text size_of number_of size_code between wrapped with_sign residual_of motion_code_of resets has_vectors has_two is_halved left_by entry_after predictors_after skips pmv_before dc_reset dc_behind at_start after shape_of has_residual has_form has_dct escapes_text increment_text kind_text form_text dct_text quantiser_text direction_text marker_text pattern_text modes_text directions_text macro_text selected_text second_text bit_text vector_text part_text dm_text predictor_at component_text difference_text residual_text kind_for predictor block_in_text macroblock_text increment_of intra_syntax uncoded_syntax plain_form still_prediction held_levels hold may_skip picture behind_first decision
worked_rows = record {
  intra = refl;
  forward = refl;
  gap = refl;
  field = refl;
  most_intra = refl;
  most_forward = refl;
  skip = refl;
  first = refl;
  last = refl;
  none = refl;
}
