-- The verifier's definitions at their outside vectors.
use Rattle.std.proofs.Common.{◌≡◌, refl, subst, ℕ, zero, suc, List, [], ◌∷◌, map, Option, Some, None, Result, Ok, Err, All, arith}
use Rattle.m2v_model.specs.declared.fault.FaultKind.{FaultKind}
use Rattle.m2v_model.specs.Units.{Units, cut, Cuts}
use Rattle.m2v_model.specs.Streams.{Sofar, stream_at}
use Rattle.m2v_vbv.specs.declared.fault.AccountFault.{AccountFault}
use Rattle.m2v_model.specs.Decoding.{Stream}
use Rattle.m2v_model.specs.Lawful.{Breaches, breaches_of}
use Rattle.m2v_model.specs.Buffering.{account_in, unsafe_in, figures_in}
use Rattle.m2v_model.specs.Verdicts.{Answers, RulesSay, BufferSays, Judged, judged_streams, IsJudged}
use Rattle.m2v_model.proofs.CutLaws.{cut_cuts}
use Rattle.m2v_model.proofs.StreamLaws.{stream_lawful}
use Rattle.m2v_bits.specs.Bits as bitsBits
use Rattle.m2v_bits.specs.Elements as bitsElements
use Rattle.m2v_bits.specs.Leaves as bitsLeaves
use Rattle.m2v_bits.specs.Syntax as bitsSyntax
use Rattle.m2v_macroblock.specs.m2v_vlc.Codes as vlcCodes
use Rattle.m2v_macroblock.specs.m2v_vlc.Coefficients as vlcCoefficients
use Rattle.m2v_macroblock.specs.m2v_vlc.Tables as vlcTables
use Rattle.m2v_macroblock.specs.m2v_vlc.Values as vlcValues
use Rattle.m2v_macroblock.specs.m2v_head.Elements as headElements
use Rattle.m2v_macroblock.specs.m2v_head.Headers as headHeaders
use Rattle.m2v_macroblock.specs.m2v_block.Blocks as blockBlocks
use Rattle.m2v_macroblock.specs.m2v_block.Dc as blockDc
use Rattle.m2v_macroblock.specs.m2v_block.Faults as blockFaults
use Rattle.m2v_macroblock.specs.m2v_macro.Faults as macroFaults
use Rattle.m2v_macroblock.specs.m2v_macro.Macros as macroMacros
use Rattle.m2v_macroblock.specs.m2v_macro.States as macroStates
use Rattle.m2v_macroblock.specs.m2v_macro.Vectors as macroVectors
use Rattle.m2v_macroblock.specs.m2v_vector.Vectors as vectorVectors
use Rattle.m2v_macroblock.specs.m2v_vector.Predictors as vectorPredictors
use Rattle.m2v_macroblock.specs.m2v_pred.Motion as predMotion
use Rattle.m2v_model.specs.Faults as modelFaults
use Rattle.m2v_model.specs.Headers as modelHeaders
use Rattle.m2v_model.specs.Looking as modelLooking
use Rattle.m2v_macroblock.specs.m2v_pred.Inside as predInside
use Rattle.m2v_order.specs.m2v_plane.Fields as planeFields
use Rattle.m2v_macroblock.specs.Macroblocks as macroblockMacroblocks
use Rattle.m2v_macroblock.specs.Modes as macroblockModes
use Rattle.m2v_model.specs.Modes as modelModes
use Rattle.m2v_model.specs.States as modelStates
use Rattle.m2v_model.specs.Pictures as modelPictures
use Rattle.m2v_model.specs.Slices as modelSlices
use Rattle.m2v_model.specs.Streams as modelStreams
use Rattle.m2v_model.specs.Units as modelUnits
use Rattle.m2v_order.specs.Display as orderDisplay
use Rattle.m2v_vbv.specs.Account as vbvAccount
use Rattle.m2v_order.specs.m2v_set.Numbers as setNumbers
use Rattle.m2v_model.specs.Worked as modelWorked
use Rattle.m2v_model.specs.Pieces as modelPieces
use Rattle.m2v_model.specs.Lawful as modelLawful
use Rattle.m2v_model.specs.Buffering as modelBuffering
use Rattle.m2v_model.specs.Verdicts as modelVerdicts

abbrev first_of : {A : Type 0} → List A → Option A
first_of [] = None
first_of (x ∷ xs) = Some x

-- what is said of a tree of a text
abbrev answers_of : List ℕ → Sofar → Answers
answers_of text tree = record {
  broken = first_of (breaches_of tree);
  unsafe = first_of (unsafe_in (account_in text tree));
  figures = figures_in text tree;
}

-- what reading gives of a text
abbrev answer_of : List ℕ → Result (Sofar × Units) (FaultKind × ℕ) → Option Answers
answer_of text (Ok x) = Some (answers_of text x.0)
answer_of text (Err f) = None

abbrev answer_in : List ℕ → Option Answers
answer_in text = answer_of text (stream_at.read (cut 0 text).1)

rules_say : (text : List ℕ) (tree : Sofar) → Stream text tree → (bs : Breaches) → breaches_of tree ≡ bs → RulesSay text (first_of bs)
rules_say text tree s [] e = record { tree = tree; stream = s; lawful = e }
rules_say text tree s (b ∷ bs) e = record { tree = tree; stream = s; others = bs; broken = e }

buffer_says : (text : List ℕ) (tree : Sofar) → Stream text tree → (fs : List AccountFault) → unsafe_in (account_in text tree) ≡ fs → BufferSays text (first_of fs)
buffer_says text tree s [] e = record { tree = tree; stream = s; safe = e }
buffer_says text tree s (f ∷ fs) e = record { tree = tree; stream = s; others = fs; unsafe = e }

judged_by : (text : List ℕ) (tree : Sofar) → Stream text tree → IsJudged (record { text = text; answers = answers_of text tree })
judged_by text tree s = record {
  rules = rules_say text tree s (breaches_of tree) refl;
  buffer = buffer_says text tree s (unsafe_in (account_in text tree)) refl;
  figures = record { tree = tree; stream = s; figures = refl };
}

told : (j : Judged) (front : List ℕ) (us : Units) → Cuts j.text front us → (r : Result (Sofar × Units) (FaultKind × ℕ)) → stream_at.read us ≡ r
    → answer_of j.text r ≡ Some j.answers → IsJudged j
told j front us cuts (Ok x) e h =
    let s : Stream j.text x.0 = record { front = front; units = us; rest = x.1; cuts = cuts; stands = stream_lawful.found x.0 us x.1 e } in
    let same : answers_of j.text x.0 ≡ j.answers = cc in
    subst (λ (a : Answers). IsJudged (record { text = j.text; answers = a })) same (judged_by j.text x.0 s)
told j front us cuts (Err f) e h = absurd cc

all_told : (js : List Judged) → map (λ (j : Judged). answer_in j.text) js ≡ map (λ (j : Judged). Some j.answers) js → All IsJudged js
all_told [] e k d less = absurd (omega arith)
all_told (j ∷ js) e zero d less =
    let first : answer_in j.text ≡ Some j.answers = cc in
    told j _ (cut 0 j.text).1 (cut_cuts j.text) (stream_at.read (cut 0 j.text).1) refl first
all_told (j ∷ js) e (suc k) d less =
    let rest : map (λ (i : Judged). answer_in i.text) js ≡ map (λ (i : Judged). Some i.answers) js = cc in
    all_told js rest k d (omega arith)

-- all that a stream's grammar and the rules name is computed
rows_judged : map (λ (j : Judged). answer_in j.text) judged_streams ≡ map (λ (j : Judged). Some j.answers) judged_streams
unfolding bitsBits.bits_of bitsBits.number bitsBits.all_zero bitsLeaves.bits_at bitsLeaves.zero_at bitsLeaves.end_at bitsSyntax.bind bitsSyntax.done bitsSyntax.seq bitsSyntax.here bitsSyntax.rule bitsSyntax.choose bitsSyntax.rounds bitsSyntax.repeated bitsSyntax.renamed vlcCodes.code_of vlcCodes.begins vlcCodes.row_at vlcCodes.is_cut vlcCodes.code_at vlcCodes.apart_all vlcCodes.is_free vlcCodes.is_within vlcCodes.is_other vlcCodes.is_single vlcCoefficients.signed vlcCoefficients.same_coefficient vlcCoefficients.pairs_zero vlcCoefficients.coefficient_zero vlcCoefficients.first_zero vlcCoefficients.pairs_one vlcCoefficients.coefficient_one vlcTables.increment vlcTables.type_i vlcTables.type_p vlcTables.type_b vlcTables.block_pattern vlcTables.motion vlcTables.dmv vlcTables.dc_luma vlcTables.dc_chroma vlcValues.same_signed vlcValues.same_increment bitsElements.flag_at headElements.marker_at headElements.id_at headElements.some_at headElements.information_at headElements.pair_at headElements.pairs_at headElements.numbers_at headElements.first_index headElements.raster headElements.matrix_at headElements.loaded_at headHeaders.sequence_at headHeaders.chroma_format_at headHeaders.sequence_extension_at headHeaders.group_at headHeaders.kind_at headHeaders.vectors_at headHeaders.picture_at headHeaders.f_codes_at headHeaders.display_at headHeaders.composite_at headHeaders.picture_extension_at headHeaders.matrices_at headHeaders.intra_slice_at headHeaders.slice_at blockBlocks.difference blockBlocks.is_dc blockBlocks.size_at blockBlocks.dc_at blockBlocks.placed blockBlocks.escaped blockBlocks.is_allowed blockBlocks.coefficient_at blockBlocks.code_from blockBlocks.pair_at blockBlocks.pairs_at blockBlocks.opened blockBlocks.first_at blockBlocks.block_at blockDc.size_of blockDc.number_of blockDc.size_code blockDc.dc_text blockFaults.of_code macroFaults.of_code macroFaults.look_at macroFaults.ahead_at macroMacros.added macroMacros.round_at macroMacros.increment_from macroMacros.allowed_at macroMacros.step_at macroMacros.begins_before macroMacros.before_at macroMacros.kind_at macroMacros.has_form macroMacros.is_form macroMacros.told_form_at macroMacros.form_at macroMacros.has_dct macroMacros.dct_at macroMacros.told_quantiser_at macroMacros.quantiser_at macroMacros.told_marker_at macroMacros.marker_at macroMacros.told_pattern_at macroMacros.pattern_at macroMacros.directions_at macroMacros.macro_at macroStates.column macroStates.not_past macroStates.in_order macroStates.skips macroStates.may_skip macroStates.pmv_before macroStates.dc_reset macroStates.dc_behind macroStates.at_start macroStates.after macroVectors.shape_of macroVectors.has_residual macroVectors.component_at macroVectors.dm_at macroVectors.is_half_vector macroVectors.vertical_at macroVectors.vector_at macroVectors.selected_at macroVectors.vectors_at macroVectors.direction_at vectorVectors.with_sign vectorVectors.difference vectorVectors.wrapped vectorVectors.joined vectorVectors.opposite vectorPredictors.resets vectorPredictors.has_vectors vectorPredictors.has_two vectorPredictors.is_halved vectorPredictors.left_by vectorPredictors.entry_after vectorPredictors.predictors_after predMotion.own_source predMotion.opposite_source predMotion.source_of modelFaults.of_head modelFaults.of_code modelFaults.of_block modelFaults.of_macro modelHeaders.whole_header modelHeaders.size_at modelHeaders.sequence_extension_in modelHeaders.picture_in modelHeaders.f_code_at modelHeaders.f_codes_at modelHeaders.picture_extension_in modelHeaders.sequence_in modelHeaders.group_in modelHeaders.matrices_in modelLooking.number_from modelLooking.look modelLooking.looking modelLooking.refuse modelPictures.picture_of modelPictures.events_from predInside.spans predInside.part_inside predInside.all_parts_inside predInside.direction_inside predInside.is_inside macroblockModes.form_of macroblockModes.skipped_mode macroblockModes.opposite_parity_vectors macroblockModes.mode_of planeFields.lines_there modelModes.part_decoded modelModes.direction_decoded modelModes.is_decoded modelModes.all_inside modelModes.references_decoded modelStates.slice_setup macroblockMacroblocks.kind_for macroblockMacroblocks.predictor modelSlices.block_in modelSlices.blocks_from modelSlices.macroblock_at macroblockMacroblocks.dc_after macroblockMacroblocks.after_macroblock modelSlices.macroblock_round modelSlices.macroblocks_at modelSlices.slice_start modelSlices.unit_place modelSlices.slice_at modelStreams.after modelStreams.close modelStreams.no_second_field_due modelStreams.id_at modelStreams.extension_in modelStreams.extension_behind modelStreams.sequence_unit modelStreams.group_unit modelStreams.picture_unit modelStreams.matrix_unit modelStreams.extension_unit modelStreams.read_slice modelStreams.slice_in modelStreams.slice_unit modelStreams.end_unit modelStreams.onward modelStreams.final modelStreams.later_unit modelStreams.known_unit modelStreams.text_end modelStreams.next_unit modelStreams.unit_round modelStreams.units_from modelStreams.stream_from modelStreams.stream_at modelUnits.cut modelUnits.unit_at modelUnits.inside orderDisplay.b_after orderDisplay.from_anchor orderDisplay.Order orderDisplay.without_last_anchor orderDisplay.shown orderDisplay.held orderDisplay.handed orderDisplay.held_after modelWorked.grey modelWorked.grouped modelWorked.predicted modelWorked.b_headers modelWorked.two_fields modelWorked.top_headers modelWorked.bottom_headers modelWorked.wide_frames modelPieces.phase_after modelPieces.begins_piece modelPieces.is_end modelPieces.grouped modelLawful.level_of modelLawful.most_horizontal setNumbers.field_units setNumbers.field_time setNumbers.limits_of modelLawful.level_rule modelLawful.width_rule modelLawful.height_rule modelLawful.frame_rate_rule modelLawful.luma_rule modelLawful.rate_rule modelLawful.buffer_rule modelLawful.numbered modelLawful.horizontal_rule modelLawful.vertical_rule modelLawful.intra_rule modelLawful.frames_of_group modelLawful.display_place modelLawful.place_in_group modelLawful.reference_rule modelLawful.crowd_rule modelLawful.repeat_rule modelLawful.progressive_rule modelLawful.precision_rule modelLawful.picture_breaches modelLawful.breaches modelBuffering.intervals modelBuffering.sizes modelBuffering.before_picture modelBuffering.joined_removals modelBuffering.codes modelBuffering.unsafe_at modelBuffering.unsafe_from modelBuffering.amounts_from modelBuffering.least modelBuffering.greatest modelBuffering.exact_delays_from modelBuffering.other_delays modelBuffering.figures_of vbvAccount.account_of modelVerdicts.film modelVerdicts.early_film modelVerdicts.fields_behind_film modelVerdicts.film_in_groups modelVerdicts.dropped_pair modelVerdicts.filled modelVerdicts.late modelVerdicts.large_row modelVerdicts.three_large modelVerdicts.two_large modelVerdicts.judged_streams macroblockModes.without_motion_type macroblockModes.told_mode
rows_judged = refl

pub judged_rows : All IsJudged judged_streams
judged_rows = all_told judged_streams rows_judged
