-- The definitions at their outside vectors.
use Rattle.std.proofs.Common.{refl}
use Rattle.m2v_law_group.specs.Groups as groups
use Rattle.m2v_bits.specs.Bits as bitsBits
use Rattle.m2v_bits.specs.Elements as bitsElements
use Rattle.m2v_bits.specs.Leaves as bitsLeaves
use Rattle.m2v_bits.specs.Syntax as bitsSyntax
use Rattle.m2v_model.specs.m2v_macroblock.m2v_vlc.Codes as vlcCodes
use Rattle.m2v_model.specs.m2v_macroblock.m2v_vlc.Coefficients as vlcCoefficients
use Rattle.m2v_model.specs.m2v_macroblock.m2v_vlc.Tables as vlcTables
use Rattle.m2v_model.specs.m2v_macroblock.m2v_vlc.Values as vlcValues
use Rattle.m2v_model.specs.m2v_macroblock.m2v_head.Elements as headElements
use Rattle.m2v_model.specs.m2v_macroblock.m2v_head.Headers as headHeaders
use Rattle.m2v_model.specs.m2v_macroblock.m2v_block.Blocks as blockBlocks
use Rattle.m2v_model.specs.m2v_macroblock.m2v_block.Dc as blockDc
use Rattle.m2v_model.specs.m2v_macroblock.m2v_block.Faults as blockFaults
use Rattle.m2v_model.specs.m2v_macroblock.m2v_macro.Faults as macroFaults
use Rattle.m2v_model.specs.m2v_macroblock.m2v_macro.Macros as macroMacros
use Rattle.m2v_model.specs.m2v_macroblock.m2v_macro.States as macroStates
use Rattle.m2v_model.specs.m2v_macroblock.m2v_macro.Vectors as macroVectors
use Rattle.m2v_model.specs.m2v_macroblock.m2v_vector.Vectors as vectorVectors
use Rattle.m2v_model.specs.m2v_macroblock.m2v_vector.Predictors as vectorPredictors
use Rattle.m2v_model.specs.m2v_macroblock.m2v_pred.Motion as predMotion
use Rattle.m2v_model.specs.Faults as modelFaults
use Rattle.m2v_model.specs.Headers as modelHeaders
use Rattle.m2v_model.specs.Looking as modelLooking
use Rattle.m2v_model.specs.m2v_macroblock.m2v_pred.Inside as predInside
use Rattle.m2v_order.specs.m2v_plane.Fields as planeFields
use Rattle.m2v_model.specs.m2v_macroblock.Macroblocks as macroblockMacroblocks
use Rattle.m2v_model.specs.m2v_macroblock.Modes as macroblockModes
use Rattle.m2v_model.specs.Modes as modelModes
use Rattle.m2v_model.specs.States as modelStates
use Rattle.m2v_model.specs.Pictures as modelPictures
use Rattle.m2v_model.specs.Slices as modelSlices
use Rattle.m2v_model.specs.Streams as modelStreams
use Rattle.m2v_model.specs.Units as modelUnits
use Rattle.m2v_order.specs.Display as orderDisplay
use Rattle.m2v_model.specs.Pieces as modelPieces
use Rattle.m2v_model.specs.ByPieces as modelByPieces
use Rattle.m2v_model.specs.Worked as modelWorked
use Rattle.m2v_law_group.specs.Worked as groupWorked
use Rattle.m2v_law_seam.specs.Spans as spans
use Rattle.m2v_law_seam.specs.Seams as seams
use Rattle.m2v_law_seam.specs.Strands as strands
use Rattle.m2v_law_seam.specs.Faults as faults
use Rattle.m2v_law_seam.specs.Mending as mendings
use Rattle.m2v_law_seam.specs.Told as told
use Rattle.m2v_law_seam.specs.Worked.{WorkedMends}

pub worked_mends : WorkedMends
unfolding bitsBits.bits_of bitsBits.number bitsBits.all_zero bitsLeaves.bits_at bitsLeaves.zero_at bitsLeaves.end_at bitsSyntax.bind bitsSyntax.done bitsSyntax.seq bitsSyntax.here bitsSyntax.rule bitsSyntax.choose bitsSyntax.rounds bitsSyntax.repeated bitsSyntax.renamed vlcCodes.code_of vlcCodes.begins vlcCodes.row_at vlcCodes.is_cut vlcCodes.code_at vlcCodes.apart_all vlcCodes.is_free vlcCodes.is_within vlcCodes.is_other vlcCodes.is_single vlcCoefficients.signed vlcCoefficients.same_coefficient vlcCoefficients.pairs_zero vlcCoefficients.coefficient_zero vlcCoefficients.first_zero vlcCoefficients.pairs_one vlcCoefficients.coefficient_one vlcTables.increment vlcTables.type_i vlcTables.type_p vlcTables.type_b vlcTables.block_pattern vlcTables.motion vlcTables.dmv vlcTables.dc_luma vlcTables.dc_chroma vlcValues.same_signed vlcValues.same_increment bitsElements.flag_at headElements.marker_at headElements.id_at headElements.some_at headElements.information_at headElements.pair_at headElements.pairs_at headElements.numbers_at headElements.first_index headElements.raster headElements.matrix_at headElements.loaded_at headHeaders.sequence_at headHeaders.chroma_format_at headHeaders.sequence_extension_at headHeaders.group_at headHeaders.kind_at headHeaders.vectors_at headHeaders.picture_at headHeaders.f_codes_at headHeaders.display_at headHeaders.composite_at headHeaders.picture_extension_at headHeaders.matrices_at headHeaders.intra_slice_at headHeaders.slice_at blockBlocks.difference blockBlocks.is_dc blockBlocks.size_at blockBlocks.dc_at blockBlocks.placed blockBlocks.escaped blockBlocks.is_allowed blockBlocks.coefficient_at blockBlocks.code_from blockBlocks.pair_at blockBlocks.pairs_at blockBlocks.opened blockBlocks.first_at blockBlocks.block_at blockDc.size_of blockDc.number_of blockDc.size_code blockDc.dc_text blockFaults.of_code macroFaults.of_code macroFaults.look_at macroFaults.ahead_at macroMacros.added macroMacros.round_at macroMacros.increment_from macroMacros.allowed_at macroMacros.step_at macroMacros.begins_before macroMacros.before_at macroMacros.kind_at macroMacros.has_form macroMacros.is_form macroMacros.told_form_at macroMacros.form_at macroMacros.has_dct macroMacros.dct_at macroMacros.told_quantiser_at macroMacros.quantiser_at macroMacros.told_marker_at macroMacros.marker_at macroMacros.told_pattern_at macroMacros.pattern_at macroMacros.directions_at macroMacros.macro_at macroStates.column macroStates.not_past macroStates.in_order macroStates.skips macroStates.may_skip macroStates.pmv_before macroStates.dc_reset macroStates.dc_behind macroStates.at_start macroStates.after macroVectors.shape_of macroVectors.has_residual macroVectors.component_at macroVectors.dm_at macroVectors.is_half_vector macroVectors.vertical_at macroVectors.vector_at macroVectors.selected_at macroVectors.vectors_at macroVectors.direction_at vectorVectors.with_sign vectorVectors.difference vectorVectors.wrapped vectorVectors.joined vectorVectors.opposite vectorPredictors.resets vectorPredictors.has_vectors vectorPredictors.has_two vectorPredictors.is_halved vectorPredictors.left_by vectorPredictors.entry_after vectorPredictors.predictors_after predMotion.own_source predMotion.opposite_source predMotion.source_of modelFaults.of_head modelFaults.of_code modelFaults.of_block modelFaults.of_macro modelHeaders.whole_header modelHeaders.size_at modelHeaders.sequence_extension_in modelHeaders.picture_in modelHeaders.f_code_at modelHeaders.f_codes_at modelHeaders.picture_extension_in modelHeaders.sequence_in modelHeaders.group_in modelHeaders.matrices_in modelLooking.number_from modelLooking.look modelLooking.looking modelLooking.refuse modelPictures.picture_of modelPictures.events_from predInside.spans predInside.part_inside predInside.all_parts_inside predInside.direction_inside predInside.is_inside macroblockModes.form_of macroblockModes.skipped_mode macroblockModes.opposite_parity_vectors macroblockModes.mode_of planeFields.lines_there modelModes.part_decoded modelModes.direction_decoded modelModes.is_decoded modelModes.all_inside modelModes.references_decoded modelStates.slice_setup macroblockMacroblocks.kind_for macroblockMacroblocks.predictor modelSlices.block_in modelSlices.blocks_from modelSlices.macroblock_at macroblockMacroblocks.dc_after macroblockMacroblocks.after_macroblock modelSlices.macroblock_round modelSlices.macroblocks_at modelSlices.slice_start modelSlices.unit_place modelSlices.slice_at modelStreams.after modelStreams.close modelStreams.no_second_field_due modelStreams.id_at modelStreams.extension_in modelStreams.extension_behind modelStreams.sequence_unit modelStreams.group_unit modelStreams.picture_unit modelStreams.matrix_unit modelStreams.extension_unit modelStreams.read_slice modelStreams.slice_in modelStreams.slice_unit modelStreams.end_unit modelStreams.onward modelStreams.final modelStreams.later_unit modelStreams.known_unit modelStreams.text_end modelStreams.next_unit modelStreams.unit_round modelStreams.units_from modelStreams.stream_from modelStreams.stream_at modelUnits.cut modelUnits.unit_at modelUnits.inside orderDisplay.b_after orderDisplay.from_anchor orderDisplay.Order orderDisplay.without_last_anchor orderDisplay.shown orderDisplay.held orderDisplay.handed orderDisplay.held_after modelPieces.phase_after modelPieces.begins_piece modelPieces.is_end modelPieces.grouped macroblockModes.without_motion_type macroblockModes.told_mode modelPieces.limit modelPieces.zeros_first modelPieces.before_sequence modelByPieces.piece_read modelByPieces.told modelByPieces.continued modelByPieces.pieces_read modelByPieces.end_of modelByPieces.text_read modelPictures.store_from modelPictures.references_by modelPictures.slice_painted groups.has_picture groups.has_sequence groups.group_headers groups.from_sequence groups.to_end groups.before_group groups.from_group groups.from_last_sequence groups.coded_pictures groupWorked.two_groups groupWorked.second_group modelWorked.b_headers modelWorked.predicted modelWorked.grouped modelWorked.two_fields spans.units_in spans.picture_count spans.waits_behind spans.divided spans.has_matrices spans.extensions_first spans.behind_extensions spans.placed spans.stretches_from seams.lowered_unit seams.text_behind seams.marked_unit seams.b_first seams.behind_b strands.all_fit strands.all_stand strands.has_end strands.ends_open strands.last_open faults.before_picture faults.before_matrices faults.standing faults.ends_from faults.read_at mendings.with_gap mendings.frames_shown mendings.with_span mendings.with_spans mendings.with_stretches told.groups_in_spans told.all_groups told.span_pictures told.all_pictures told.left_pictures
worked_mends = record {
  none = record { mends = refl; gaps = refl; answer = refl };
  whole = record { mends = refl; gaps = refl; answer = refl };
  unended = record { mends = refl; gaps = refl; answer = refl };
  behind_bytes = record { mends = refl; gaps = refl; answer = refl };
  behind_end = record { mends = refl; gaps = refl; answer = refl };
  second_lost = record { mends = refl; gaps = refl; answer = refl };
  first_lost = record { mends = refl; gaps = refl; answer = refl };
  both_lost = record { mends = refl; gaps = refl; answer = refl };
  head_copied = record { mends = refl; gaps = refl; answer = refl };
  joined = record { mends = refl; gaps = refl; answer = refl };
  other_size = record { mends = refl; gaps = refl; answer = refl };
  middle = record { mends = refl; gaps = refl; answer = refl };
  leading = record { mends = refl; gaps = refl; answer = refl };
  leading_lost = record { mends = refl; gaps = refl; answer = refl };
  begins_p = record { mends = refl; gaps = refl; answer = refl };
  matrices_between = record { mends = refl; gaps = refl; answer = refl };
  between = record { mends = refl; gaps = refl; answer = refl };
  lowered = record { mends = refl; gaps = refl; answer = refl };
  fields = record { mends = refl; gaps = refl; answer = refl };
  cut_off = record { mends = refl; gaps = refl; answer = refl };
  group_lost = record { mends = refl; gaps = refl; answer = refl };
  step_lost = record { mends = refl; gaps = refl; answer = refl };
}
