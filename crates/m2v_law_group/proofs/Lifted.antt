-- The law at a stream of two groups: it can be met.
use Rattle.std.proofs.Common.{◌≡◌, ℕ, Bool, true, false, List, [], ◌∷◌, ◌++◌, Result, Ok, Err, refl, sym, ap, ◌∙◌, arith}
use Rattle.std.specs.Prelude.{nat_eq, ◌&&◌, ◌||◌}
use Rattle.m2v_model.specs.declared.fault.FaultKind.{FaultKind}
use Rattle.m2v_model.specs.Units.{Units, cut, Cuts, joined}
use Rattle.m2v_model.specs.Streams.{Sofar, stream_at}
use Rattle.m2v_model.specs.Lawful.{Breaches, breaches_of, Lawful}
use Rattle.m2v_model.proofs.CutLaws.{cut_cuts}
use Rattle.m2v_model.proofs.StreamLaws.{stream_lawful}
use Rattle.m2v_law_group.specs.Groups.{cut_units, stream_units}
use Rattle.m2v_law_group.specs.Groups as groups
use Rattle.m2v_law_group.specs.Chosen.{EndClear}
use Rattle.m2v_law_group.specs.Lifted.{SecondGroup}
use Rattle.m2v_law_group.specs.Worked.{two_groups}
use Rattle.m2v_law_group.specs.Worked as worked
use Rattle.m2v_model.specs.Worked as modelWorked
use Rattle.m2v_law_group.proofs.Worked.{worked_rows}
use Rattle.m2v_law_group.proofs.Lawful.{lawful_law}
use Rattle.m2v_bits.specs.Bits as bitsBits
use Rattle.m2v_bits.specs.Elements as bitsElements
use Rattle.m2v_bits.specs.Leaves as bitsLeaves
use Rattle.m2v_bits.specs.Syntax as bitsSyntax
use Rattle.m2v_model.specs.m2v_macroblock.m2v_vlc.Codes as vlcCodes
use Rattle.m2v_model.specs.m2v_macroblock.m2v_vlc.Coefficients as vlcCoefficients
use Rattle.m2v_model.specs.m2v_macroblock.m2v_vlc.Tables as vlcTables
use Rattle.m2v_model.specs.m2v_macroblock.m2v_vlc.Values as vlcValues
use Rattle.m2v_model.specs.m2v_macroblock.m2v_head.Elements as headElements
use Rattle.m2v_model.specs.m2v_macroblock.m2v_head.Headers as headHeaders
use Rattle.m2v_model.specs.m2v_macroblock.m2v_block.Blocks as blockBlocks
use Rattle.m2v_model.specs.m2v_macroblock.m2v_block.Dc as blockDc
use Rattle.m2v_model.specs.m2v_macroblock.m2v_block.Faults as blockFaults
use Rattle.m2v_model.specs.m2v_macroblock.m2v_macro.Faults as macroFaults
use Rattle.m2v_model.specs.m2v_macroblock.m2v_macro.Macros as macroMacros
use Rattle.m2v_model.specs.m2v_macroblock.m2v_macro.States as macroStates
use Rattle.m2v_model.specs.m2v_macroblock.m2v_macro.Vectors as macroVectors
use Rattle.m2v_model.specs.m2v_macroblock.m2v_vector.Vectors as vectorVectors
use Rattle.m2v_model.specs.m2v_macroblock.m2v_vector.Predictors as vectorPredictors
use Rattle.m2v_model.specs.m2v_macroblock.m2v_pred.Motion as predMotion
use Rattle.m2v_model.specs.Faults as modelFaults
use Rattle.m2v_model.specs.Headers as modelHeaders
use Rattle.m2v_model.specs.Looking as modelLooking
use Rattle.m2v_model.specs.m2v_macroblock.m2v_pred.Inside as predInside
use Rattle.m2v_order.specs.m2v_plane.Fields as planeFields
use Rattle.m2v_model.specs.m2v_macroblock.Macroblocks as macroblockMacroblocks
use Rattle.m2v_model.specs.m2v_macroblock.Modes as macroblockModes
use Rattle.m2v_model.specs.Modes as modelModes
use Rattle.m2v_model.specs.States as modelStates
use Rattle.m2v_model.specs.Pictures as modelPictures
use Rattle.m2v_model.specs.Slices as modelSlices
use Rattle.m2v_model.specs.Streams as modelStreams
use Rattle.m2v_model.specs.Units as modelUnits
use Rattle.m2v_order.specs.Display as orderDisplay
use Rattle.m2v_vbv.specs.Account as vbvAccount
use Rattle.m2v_order.specs.m2v_set.Numbers as setNumbers
use Rattle.m2v_model.specs.Pieces as modelPieces
use Rattle.m2v_model.specs.Lawful as modelLawful
use Rattle.m2v_model.specs.Buffering as modelBuffering

abbrev is_none : Breaches → Bool
is_none [] = true
is_none (b ∷ bs) = false

abbrev is_lawful : Result (Sofar × Units) (FaultKind × ℕ) → Bool
is_lawful (Ok x) = is_none (breaches_of x.0)
is_lawful (Err f) = false

none_is : (bs : Breaches) → is_none bs ≡ true → bs ≡ []
none_is [] e = refl
none_is (b ∷ bs) e = absurd cc

lawful_by : (text front : List ℕ) (us : Units) → Cuts text front us → (r : Result (Sofar × Units) (FaultKind × ℕ)) → stream_at.read us ≡ r → is_lawful r ≡ true → Lawful text
lawful_by text front us cuts (Ok x) e h = record { tree = x.0; stream = record { front = front; units = us; rest = x.1; cuts = cuts; stands = stream_lawful.found x.0 us x.1 e }; lawful = none_is (breaches_of x.0) h }
lawful_by text front us cuts (Err f) e h = absurd cc

-- all that a stream's grammar and the rules name is computed
two_judged : is_lawful (stream_at.read (cut 0 two_groups).1) ≡ true
unfolding bitsBits.bits_of bitsBits.number bitsBits.all_zero bitsLeaves.bits_at bitsLeaves.zero_at bitsLeaves.end_at bitsSyntax.bind bitsSyntax.done bitsSyntax.seq bitsSyntax.here bitsSyntax.rule bitsSyntax.choose bitsSyntax.rounds bitsSyntax.repeated bitsSyntax.renamed vlcCodes.code_of vlcCodes.begins vlcCodes.row_at vlcCodes.is_cut vlcCodes.code_at vlcCodes.apart_all vlcCodes.is_free vlcCodes.is_within vlcCodes.is_other vlcCodes.is_single vlcCoefficients.signed vlcCoefficients.same_coefficient vlcCoefficients.pairs_zero vlcCoefficients.coefficient_zero vlcCoefficients.first_zero vlcCoefficients.pairs_one vlcCoefficients.coefficient_one vlcTables.increment vlcTables.type_i vlcTables.type_p vlcTables.type_b vlcTables.block_pattern vlcTables.motion vlcTables.dmv vlcTables.dc_luma vlcTables.dc_chroma vlcValues.same_signed vlcValues.same_increment bitsElements.flag_at headElements.marker_at headElements.id_at headElements.some_at headElements.information_at headElements.pair_at headElements.pairs_at headElements.numbers_at headElements.first_index headElements.raster headElements.matrix_at headElements.loaded_at headHeaders.sequence_at headHeaders.chroma_format_at headHeaders.sequence_extension_at headHeaders.group_at headHeaders.kind_at headHeaders.vectors_at headHeaders.picture_at headHeaders.f_codes_at headHeaders.display_at headHeaders.composite_at headHeaders.picture_extension_at headHeaders.matrices_at headHeaders.intra_slice_at headHeaders.slice_at blockBlocks.difference blockBlocks.is_dc blockBlocks.size_at blockBlocks.dc_at blockBlocks.placed blockBlocks.escaped blockBlocks.is_allowed blockBlocks.coefficient_at blockBlocks.code_from blockBlocks.pair_at blockBlocks.pairs_at blockBlocks.opened blockBlocks.first_at blockBlocks.block_at blockDc.size_of blockDc.number_of blockDc.size_code blockDc.dc_text blockFaults.of_code macroFaults.of_code macroFaults.look_at macroFaults.ahead_at macroMacros.added macroMacros.round_at macroMacros.increment_from macroMacros.allowed_at macroMacros.step_at macroMacros.begins_before macroMacros.before_at macroMacros.kind_at macroMacros.has_form macroMacros.is_form macroMacros.told_form_at macroMacros.form_at macroMacros.has_dct macroMacros.dct_at macroMacros.told_quantiser_at macroMacros.quantiser_at macroMacros.told_marker_at macroMacros.marker_at macroMacros.told_pattern_at macroMacros.pattern_at macroMacros.directions_at macroMacros.macro_at macroStates.column macroStates.not_past macroStates.in_order macroStates.skips macroStates.may_skip macroStates.pmv_before macroStates.dc_reset macroStates.dc_behind macroStates.at_start macroStates.after macroVectors.shape_of macroVectors.has_residual macroVectors.component_at macroVectors.dm_at macroVectors.is_half_vector macroVectors.vertical_at macroVectors.vector_at macroVectors.selected_at macroVectors.vectors_at macroVectors.direction_at vectorVectors.with_sign vectorVectors.difference vectorVectors.wrapped vectorVectors.joined vectorVectors.opposite vectorPredictors.resets vectorPredictors.has_vectors vectorPredictors.has_two vectorPredictors.is_halved vectorPredictors.left_by vectorPredictors.entry_after vectorPredictors.predictors_after predMotion.own_source predMotion.opposite_source predMotion.source_of modelFaults.of_head modelFaults.of_code modelFaults.of_block modelFaults.of_macro modelHeaders.whole_header modelHeaders.size_at modelHeaders.sequence_extension_in modelHeaders.picture_in modelHeaders.f_code_at modelHeaders.f_codes_at modelHeaders.picture_extension_in modelHeaders.sequence_in modelHeaders.group_in modelHeaders.matrices_in modelLooking.number_from modelLooking.look modelLooking.looking modelLooking.refuse modelPictures.picture_of modelPictures.events_from predInside.spans predInside.part_inside predInside.all_parts_inside predInside.direction_inside predInside.is_inside macroblockModes.form_of macroblockModes.skipped_mode macroblockModes.opposite_parity_vectors macroblockModes.mode_of planeFields.lines_there modelModes.part_decoded modelModes.direction_decoded modelModes.is_decoded modelModes.all_inside modelModes.references_decoded modelStates.slice_setup macroblockMacroblocks.kind_for macroblockMacroblocks.predictor modelSlices.block_in modelSlices.blocks_from modelSlices.macroblock_at macroblockMacroblocks.dc_after macroblockMacroblocks.after_macroblock modelSlices.macroblock_round modelSlices.macroblocks_at modelSlices.slice_start modelSlices.unit_place modelSlices.slice_at modelStreams.after modelStreams.close modelStreams.no_second_field_due modelStreams.id_at modelStreams.extension_in modelStreams.extension_behind modelStreams.sequence_unit modelStreams.group_unit modelStreams.picture_unit modelStreams.matrix_unit modelStreams.extension_unit modelStreams.read_slice modelStreams.slice_in modelStreams.slice_unit modelStreams.end_unit modelStreams.onward modelStreams.final modelStreams.later_unit modelStreams.known_unit modelStreams.text_end modelStreams.next_unit modelStreams.unit_round modelStreams.units_from modelStreams.stream_from modelStreams.stream_at modelUnits.cut modelUnits.unit_at modelUnits.inside orderDisplay.b_after orderDisplay.from_anchor orderDisplay.Order orderDisplay.without_last_anchor orderDisplay.shown orderDisplay.held orderDisplay.handed orderDisplay.held_after modelPieces.phase_after modelPieces.begins_piece modelPieces.is_end modelPieces.grouped modelLawful.level_of modelLawful.most_horizontal setNumbers.field_units setNumbers.field_time setNumbers.limits_of modelLawful.level_rule modelLawful.width_rule modelLawful.height_rule modelLawful.frame_rate_rule modelLawful.luma_rule modelLawful.rate_rule modelLawful.buffer_rule modelLawful.numbered modelLawful.horizontal_rule modelLawful.vertical_rule modelLawful.intra_rule modelLawful.frames_of_group modelLawful.display_place modelLawful.place_in_group modelLawful.reference_rule modelLawful.crowd_rule modelLawful.repeat_rule modelLawful.progressive_rule modelLawful.precision_rule modelLawful.picture_breaches modelLawful.breaches modelBuffering.intervals modelBuffering.sizes modelBuffering.before_picture modelBuffering.joined_removals modelBuffering.codes modelBuffering.unsafe_at modelBuffering.unsafe_from modelBuffering.amounts_from modelBuffering.least modelBuffering.greatest modelBuffering.exact_delays_from modelBuffering.other_delays modelBuffering.figures_of vbvAccount.account_of macroblockModes.without_motion_type macroblockModes.told_mode modelWorked.grouped worked.two_groups
two_judged = refl

two_lawful : Lawful two_groups
two_lawful = lawful_by two_groups (cut 0 two_groups).0 (cut 0 two_groups).1 (cut_cuts two_groups) (stream_at.read (cut 0 two_groups).1) refl two_judged

-- bytes that end in the prefix of a start code
abbrev is_prefix : List ℕ → Bool
is_prefix (a ∷ b ∷ c ∷ []) = nat_eq a 0 && (nat_eq b 0 && nat_eq c 1)
is_prefix _ = false

abbrev ends_prefix : List ℕ → Bool
ends_prefix [] = false
ends_prefix (x ∷ l) = is_prefix (x ∷ l) || ends_prefix l

or_true : (b : Bool) → (b || true) ≡ true
or_true true = refl
or_true false = refl

prefix_ends : (front : List ℕ) → ends_prefix (front ++ 0 ∷ 0 ∷ 1 ∷ []) ≡ true
prefix_ends [] = refl
prefix_ends (x ∷ front) = ap (λ (b : Bool). is_prefix (x ∷ (front ++ 0 ∷ 0 ∷ 1 ∷ [])) || b) (prefix_ends front) ∙ or_true _

second_ends : ends_prefix (joined (cut_units 1 1 (stream_units two_groups))) ≡ false
unfolding bitsBits.bits_of bitsBits.number modelLooking.number_from modelUnits.cut modelPieces.is_end modelPieces.begins_piece modelPieces.before_sequence groups.has_picture groups.has_sequence groups.group_headers groups.from_sequence groups.to_end groups.before_group groups.from_group groups.from_last_sequence groups.up_to_piece groups.cut_units groups.coded_pictures groups.begins_intra modelWorked.grouped worked.two_groups
second_ends = refl

second_clear : EndClear (joined (cut_units 1 1 (stream_units two_groups)))
second_clear front e = let wrong : false ≡ true = sym second_ends ∙ ap ends_prefix e ∙ prefix_ends front in absurd cc

pub second_decodes : SecondGroup
second_decodes = (two_lawful, lawful_law two_groups 1 1 two_lawful (omega arith) (worked_rows.second_alone) second_clear)
