-- The definitions at their outside vectors: reading gives what is to stand there, and what reading gives stands.
use Rattle.std.proofs.Common.{◌≡◌, refl, sym, ap, subst, ℕ, zero, suc, ◌-◌, ◌*◌, List, [], ◌∷◌, length, map, filter, Option, Some, None, Result, Ok, Err, All, arith}
use Rattle.m2v_model.specs.declared.fault.FaultKind.{FaultKind}
use Rattle.m2v_model.specs.Units.{Units, cut, Cuts}
use Rattle.m2v_model.specs.Streams.{Sofar, stream_at}
use Rattle.m2v_model.specs.Decoding.{FaultAt, frames_of, pictures, is_dropped}
use Rattle.m2v_model.specs.Worked.{Faulty, faulty, Decodable, decodable_streams, Shows, WorkedRows}
use Rattle.m2v_model.proofs.CutLaws.{cut_cuts}
use Rattle.m2v_model.proofs.StreamLaws.{stream_lawful}
use Rattle.m2v_bits.specs.Bits as bitsBits
use Rattle.m2v_bits.specs.Elements as bitsElements
use Rattle.m2v_bits.specs.Leaves as bitsLeaves
use Rattle.m2v_bits.specs.Syntax as bitsSyntax
use Rattle.m2v_macroblock.specs.m2v_vlc.Codes as vlcCodes
use Rattle.m2v_macroblock.specs.m2v_vlc.Coefficients as vlcCoefficients
use Rattle.m2v_macroblock.specs.m2v_vlc.Tables as vlcTables
use Rattle.m2v_macroblock.specs.m2v_vlc.Values as vlcValues
use Rattle.m2v_macroblock.specs.m2v_head.Elements as headElements
use Rattle.m2v_macroblock.specs.m2v_head.Headers as headHeaders
use Rattle.m2v_macroblock.specs.m2v_block.Blocks as blockBlocks
use Rattle.m2v_macroblock.specs.m2v_block.Dc as blockDc
use Rattle.m2v_macroblock.specs.m2v_block.Faults as blockFaults
use Rattle.m2v_macroblock.specs.m2v_macro.Faults as macroFaults
use Rattle.m2v_macroblock.specs.m2v_macro.Macros as macroMacros
use Rattle.m2v_macroblock.specs.m2v_macro.States as macroStates
use Rattle.m2v_macroblock.specs.m2v_macro.Vectors as macroVectors
use Rattle.m2v_macroblock.specs.m2v_vector.Vectors as vectorVectors
use Rattle.m2v_macroblock.specs.m2v_vector.Predictors as vectorPredictors
use Rattle.m2v_macroblock.specs.m2v_pred.Motion as predMotion
use Rattle.m2v_model.specs.Faults as modelFaults
use Rattle.m2v_model.specs.Headers as modelHeaders
use Rattle.m2v_model.specs.Looking as modelLooking
use Rattle.m2v_macroblock.specs.m2v_pred.Inside as predInside
use Rattle.m2v_order.specs.m2v_plane.Fields as planeFields
use Rattle.m2v_macroblock.specs.Macroblocks as macroblockMacroblocks
use Rattle.m2v_macroblock.specs.Modes as macroblockModes
use Rattle.m2v_model.specs.Modes as modelModes
use Rattle.m2v_model.specs.States as modelStates
use Rattle.m2v_model.specs.Pictures as modelPictures
use Rattle.m2v_model.specs.Slices as modelSlices
use Rattle.m2v_model.specs.Streams as modelStreams
use Rattle.m2v_model.specs.Units as modelUnits
use Rattle.m2v_order.specs.Display as orderDisplay
use Rattle.m2v_model.specs.Outside as modelOutside
use Rattle.m2v_model.specs.FieldStreams as modelFieldStreams
use Rattle.m2v_model.specs.Worked as modelWorked

-- what reading gives: the fault and its place in a text of n bits
abbrev fault_of : ℕ → Result (Sofar × Units) (FaultKind × ℕ) → Option (FaultKind × ℕ)
fault_of n (Ok x) = None
fault_of n (Err f) = Some (f.0, n - f.1)

-- how many frames are shown, and how many pictures there are and are dropped
abbrev Numbers : Type 0
Numbers = ℕ × ℕ × ℕ

abbrev numbers_of : Sofar → Numbers
numbers_of tree = (length (frames_of tree), length (pictures tree), length (filter is_dropped (pictures tree)))

abbrev numbers_in : Decodable → Numbers
numbers_in r = (r.frames, r.pictures, r.dropped)

abbrev shown_of : Result (Sofar × Units) (FaultKind × ℕ) → Option Numbers
shown_of (Ok x) = Some (numbers_of x.0)
shown_of (Err f) = None

abbrev fault_in : List ℕ → Option (FaultKind × ℕ)
fault_in text = fault_of (8 * length text) (stream_at.read (cut 0 text).1)

abbrev shown_in : List ℕ → Option Numbers
shown_in text = shown_of (stream_at.read (cut 0 text).1)

fault_told : (text front : List ℕ) (us : Units) → Cuts text front us → (r : Result (Sofar × Units) (FaultKind × ℕ)) → stream_at.read us ≡ r
    → (place : ℕ) (kind : FaultKind) → fault_of (8 * length text) r ≡ Some (kind, place) → FaultAt text place kind
fault_told text front us cuts (Ok x) e place kind h = absurd cc
fault_told text front us cuts (Err f) e place kind h =
    let pair : (f.0, 8 * length text - f.1) ≡ (kind, place) = cc in
    let same : f.0 ≡ kind = ap (λ (x : FaultKind × ℕ). x.0) pair in
    let bits : place ≡ 8 * length text - f.1 = ap (λ (x : FaultKind × ℕ). x.1) (sym pair) in
    record { front = front; units = us; left = f.1; cuts = cuts; broken = subst (λ (k : FaultKind). stream_at.Broken us (k, f.1)) same (stream_lawful.first us f e); at = bits }

shown_told : (d : Decodable) (front : List ℕ) (us : Units) → Cuts d.text front us → (r : Result (Sofar × Units) (FaultKind × ℕ)) → stream_at.read us ≡ r
    → shown_of r ≡ Some (numbers_in d) → Shows d
shown_told d front us cuts (Ok x) e h =
    let same : numbers_of x.0 ≡ numbers_in d = cc in
    record {
      frames = frames_of x.0;
      decodes = record { tree = x.0; stream = record { front = front; units = us; rest = x.1; cuts = cuts; stands = stream_lawful.found x.0 us x.1 e }; shown = refl };
      frames_are = ap (λ (n : Numbers). n.0) same;
      pictures_are = ap (λ (n : Numbers). n.1) same;
      dropped_are = ap (λ (n : Numbers). n.2) same;
    }
shown_told d front us cuts (Err f) e h = absurd cc

faults_told : (rs : List Faulty) → map (λ (r : Faulty). fault_in r.text) rs ≡ map (λ (r : Faulty). Some (r.kind, r.place)) rs
    → All (λ (r : Faulty). FaultAt r.text r.place r.kind) rs
faults_told [] e k d less = absurd (omega arith)
faults_told (r ∷ rs) e zero d less =
    let first : fault_in r.text ≡ Some (r.kind, r.place) = cc in
    fault_told r.text _ (cut 0 r.text).1 (cut_cuts r.text) (stream_at.read (cut 0 r.text).1) refl r.place r.kind first
faults_told (r ∷ rs) e (suc k) d less =
    let rest : map (λ (r : Faulty). fault_in r.text) rs ≡ map (λ (r : Faulty). Some (r.kind, r.place)) rs = cc in
    faults_told rs rest k d (omega arith)

frames_told : (rs : List Decodable) → map (λ (r : Decodable). shown_in r.text) rs ≡ map (λ (r : Decodable). Some (numbers_in r)) rs
    → All Shows rs
frames_told [] e k d less = absurd (omega arith)
frames_told (r ∷ rs) e zero d less =
    let first : shown_in r.text ≡ Some (numbers_in r) = cc in
    shown_told r _ (cut 0 r.text).1 (cut_cuts r.text) (stream_at.read (cut 0 r.text).1) refl first
frames_told (r ∷ rs) e (suc k) d less =
    let rest : map (λ (r : Decodable). shown_in r.text) rs ≡ map (λ (r : Decodable). Some (numbers_in r)) rs = cc in
    frames_told rs rest k d (omega arith)

-- all that a stream's grammar names is computed
rows_read : (map (λ (r : Faulty). fault_in r.text) faulty ≡ map (λ (r : Faulty). Some (r.kind, r.place)) faulty)
    × (map (λ (r : Decodable). shown_in r.text) decodable_streams ≡ map (λ (r : Decodable). Some (numbers_in r)) decodable_streams)
unfolding bitsBits.bits_of bitsBits.number bitsBits.all_zero bitsLeaves.bits_at bitsLeaves.zero_at bitsLeaves.end_at bitsSyntax.bind bitsSyntax.done bitsSyntax.seq bitsSyntax.here bitsSyntax.rule bitsSyntax.choose bitsSyntax.rounds bitsSyntax.repeated bitsSyntax.renamed vlcCodes.code_of vlcCodes.begins vlcCodes.row_at vlcCodes.is_cut vlcCodes.code_at vlcCodes.apart_all vlcCodes.is_free vlcCodes.is_within vlcCodes.is_other vlcCodes.is_single vlcCoefficients.signed vlcCoefficients.same_coefficient vlcCoefficients.pairs_zero vlcCoefficients.coefficient_zero vlcCoefficients.first_zero vlcCoefficients.pairs_one vlcCoefficients.coefficient_one vlcTables.increment vlcTables.type_i vlcTables.type_p vlcTables.type_b vlcTables.block_pattern vlcTables.motion vlcTables.dmv vlcTables.dc_luma vlcTables.dc_chroma vlcValues.same_signed vlcValues.same_increment bitsElements.flag_at headElements.marker_at headElements.id_at headElements.some_at headElements.information_at headElements.pair_at headElements.pairs_at headElements.numbers_at headElements.first_index headElements.raster headElements.matrix_at headElements.loaded_at headHeaders.sequence_at headHeaders.chroma_format_at headHeaders.sequence_extension_at headHeaders.group_at headHeaders.kind_at headHeaders.vectors_at headHeaders.picture_at headHeaders.f_codes_at headHeaders.display_at headHeaders.composite_at headHeaders.picture_extension_at headHeaders.matrices_at headHeaders.intra_slice_at headHeaders.slice_at blockBlocks.difference blockBlocks.is_dc blockBlocks.size_at blockBlocks.dc_at blockBlocks.placed blockBlocks.escaped blockBlocks.is_allowed blockBlocks.coefficient_at blockBlocks.code_from blockBlocks.pair_at blockBlocks.pairs_at blockBlocks.opened blockBlocks.first_at blockBlocks.block_at blockDc.size_of blockDc.number_of blockDc.size_code blockDc.dc_text blockFaults.of_code macroFaults.of_code macroFaults.look_at macroFaults.ahead_at macroMacros.added macroMacros.round_at macroMacros.increment_from macroMacros.allowed_at macroMacros.step_at macroMacros.begins_before macroMacros.before_at macroMacros.kind_at macroMacros.has_form macroMacros.is_form macroMacros.told_form_at macroMacros.form_at macroMacros.has_dct macroMacros.dct_at macroMacros.told_quantiser_at macroMacros.quantiser_at macroMacros.told_marker_at macroMacros.marker_at macroMacros.told_pattern_at macroMacros.pattern_at macroMacros.directions_at macroMacros.macro_at macroStates.column macroStates.not_past macroStates.in_order macroStates.skips macroStates.may_skip macroStates.pmv_before macroStates.dc_reset macroStates.dc_behind macroStates.at_start macroStates.after macroVectors.shape_of macroVectors.has_residual macroVectors.component_at macroVectors.dm_at macroVectors.is_half_vector macroVectors.vertical_at macroVectors.vector_at macroVectors.selected_at macroVectors.vectors_at macroVectors.direction_at vectorVectors.with_sign vectorVectors.difference vectorVectors.wrapped vectorVectors.joined vectorVectors.opposite vectorPredictors.resets vectorPredictors.has_vectors vectorPredictors.has_two vectorPredictors.is_halved vectorPredictors.left_by vectorPredictors.entry_after vectorPredictors.predictors_after predMotion.own_source predMotion.opposite_source predMotion.source_of modelFaults.of_head modelFaults.of_code modelFaults.of_block modelFaults.of_macro modelHeaders.whole_header modelHeaders.size_at modelHeaders.sequence_extension_in modelHeaders.picture_in modelHeaders.f_code_at modelHeaders.f_codes_at modelHeaders.picture_extension_in modelHeaders.sequence_in modelHeaders.group_in modelHeaders.matrices_in modelLooking.number_from modelLooking.look modelLooking.looking modelLooking.refuse modelPictures.picture_of modelPictures.events_from predInside.spans predInside.part_inside predInside.all_parts_inside predInside.direction_inside predInside.is_inside macroblockModes.form_of macroblockModes.skipped_mode macroblockModes.opposite_parity_vectors macroblockModes.mode_of planeFields.lines_there modelModes.part_decoded modelModes.direction_decoded modelModes.is_decoded modelModes.all_inside modelModes.references_decoded modelStates.slice_setup macroblockMacroblocks.kind_for macroblockMacroblocks.predictor modelSlices.block_in modelSlices.blocks_from modelSlices.macroblock_at macroblockMacroblocks.dc_after macroblockMacroblocks.after_macroblock modelSlices.macroblock_round modelSlices.macroblocks_at modelSlices.slice_start modelSlices.unit_place modelSlices.slice_at modelStreams.after modelStreams.close modelStreams.no_second_field_due modelStreams.id_at modelStreams.extension_in modelStreams.extension_behind modelStreams.sequence_unit modelStreams.group_unit modelStreams.picture_unit modelStreams.matrix_unit modelStreams.extension_unit modelStreams.read_slice modelStreams.slice_in modelStreams.slice_unit modelStreams.end_unit modelStreams.onward modelStreams.final modelStreams.later_unit modelStreams.known_unit modelStreams.text_end modelStreams.next_unit modelStreams.unit_round modelStreams.units_from modelStreams.stream_from modelStreams.stream_at modelUnits.cut modelUnits.unit_at modelUnits.inside orderDisplay.b_after orderDisplay.from_anchor orderDisplay.Order orderDisplay.without_last_anchor orderDisplay.shown orderDisplay.held orderDisplay.handed orderDisplay.held_after modelWorked.grey modelWorked.grouped modelWorked.predicted modelWorked.b_headers modelWorked.two_fields modelWorked.top_headers modelWorked.bottom_headers modelWorked.wide_frames modelFieldStreams.interlaced_head modelFieldStreams.whole_frame modelFieldStreams.top_intra modelFieldStreams.bottom_intra modelFieldStreams.top_forward modelFieldStreams.bottom_forward modelFieldStreams.two_halves modelFieldStreams.halves_stream modelFieldStreams.dual_prime modelFieldStreams.far_vector modelFieldStreams.three_columns modelFieldStreams.skipped_behind_field modelFieldStreams.skipped_behind_intra modelFieldStreams.skipped_in_intra modelOutside.interlaced modelOutside.other_tables faulty decodable_streams macroblockModes.without_motion_type macroblockModes.told_mode
rows_read = (refl, refl)

pub worked_rows : WorkedRows
worked_rows = record { faults = faults_told faulty rows_read.0; shown = frames_told decodable_streams rows_read.1 }
