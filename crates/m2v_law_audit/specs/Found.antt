-- What the pieces of a sequence tell, as lists: its breaches in turn, and the removals that are told.
use Rattle.std.specs.Prelude.{ℕ, ◌+◌, ◌*◌, Bool, not, nat_le, if◌then◌else◌, List, [], ◌∷◌, ◌++◌, map, filter, length, slice_get, Option, Some, None, Ok, Err}
use Rattle.std.specs.List.{flat_map}
use Rattle.std.specs.Option.{option_to_list}
use Rattle.m2v_model.specs.m2v_macroblock.m2v_head.declared.sequence.SequenceInfo.{SequenceInfo}
use Rattle.m2v_model.specs.m2v_macroblock.m2v_head.declared.sequence.SequenceExtension.{SequenceExtension}
use Rattle.m2v_model.specs.m2v_macroblock.m2v_head.declared.group.GroupInfo.{GroupInfo}
use Rattle.m2v_model.specs.declared.state.Sequence.{Sequence}
use Rattle.m2v_model.specs.declared.notes.PictureNote.{PictureNote}
use Rattle.m2v_model.specs.Lawful.{Breaches, sequence_breaches, horizontal_rule, vertical_rule, intra_rule, crowd_rule, repeat_rule, progressive_rule, precision_rule}
use Rattle.m2v_model.specs.Pieces.{pieces, zeros_last}
use Rattle.m2v_model.specs.PieceNotes.{PieceNotes, notes_of}
use Rattle.m2v_model.specs.ByPieces.{Between, Course, at_start, piece_read}
use Rattle.m2v_model.specs.States.{first_or, is_b}
use Rattle.m2v_audit.specs.m2v_check.declared.coded.CodedPicture.{CodedPicture}
use Rattle.m2v_audit.specs.m2v_check.Breaking.{numbered_of}
use Rattle.m2v_audit.specs.m2v_check.Running.{ends_frame}
use Rattle.m2v_audit.specs.m2v_strict.declared.rule_set.RuleSet.{RuleSet}
use Rattle.m2v_audit.specs.m2v_strict.declared.leading.Leading.{Leading}
use Rattle.m2v_audit.specs.m2v_strict.declared.preceding.Preceding.{Preceding}
use Rattle.m2v_audit.specs.m2v_strict.declared.runs.Runs.{Runs}
use Rattle.m2v_audit.specs.m2v_strict.Remarks.{Remarks, is_warning}
use Rattle.m2v_audit.specs.m2v_strict.SequenceRules.{level_remarks, header_rule, extension_rule, sequence_warnings}
use Rattle.m2v_audit.specs.m2v_strict.GroupRules.{group_remarks, broken_link_warning}
use Rattle.m2v_audit.specs.m2v_strict.PictureRules.{delay_remarks, f_code_rule, full_pel_rule, field_rule, frame_remarks, picture_warnings}
use Rattle.m2v_audit.specs.m2v_strict.TimeRules.{time_warnings}
use Rattle.m2v_audit.specs.m2v_strict.ArrivalRules.{arrival_rule}
use Rattle.m2v_audit.specs.m2v_strict.OrderRules.{sequence_order_rule, group_order_rule, first_type_rule, end_remarks}
use Rattle.m2v_audit.specs.m2v_strict.SetRules.{set_remarks, set_group_remarks, set_picture_remarks}
use Rattle.m2v_audit.specs.declared.headers.PieceHeader.{PieceHeader}
use Rattle.m2v_audit.specs.declared.headers.PieceHeader.TheVariants as headers
use Rattle.m2v_audit.specs.declared.others.Other.{Other}
use Rattle.m2v_audit.specs.declared.places.Misplaced.{Misplaced}
use Rattle.m2v_audit.specs.declared.places.Places.{Places}
use Rattle.m2v_audit.specs.declared.records.Finding.{Finding}
use Rattle.m2v_audit.specs.declared.records.FailureRecord.{FailureRecord}
use Rattle.m2v_audit.specs.declared.remarks.Behind.{Behind}
use Rattle.m2v_audit.specs.declared.report.Rate.{Rate}
use Rattle.m2v_audit.specs.Account.{Account, Told, settled, ended as all_left}
use Rattle.m2v_audit.specs.declared.auditing.Auditing.{Auditing}
use Rattle.m2v_audit.specs.declared.auditing.PieceEnd.{PieceEnd}
use Rattle.m2v_audit.specs.Auditing.{nothing, sequence_of, sequences_of, leading, behind, coded, preceding, counted, with_header, with_headers, with_display, begun, longer, fronted, pictured, cleared, after_piece}
use Rattle.m2v_audit.specs.HeaderRecords.{bit_of, waiting_of}
use Rattle.m2v_audit.specs.Findings.{broken_at, remarked_at, misplaced_at}
use Rattle.m2v_audit.specs.Front.{front_of}
use Rattle.m2v_audit.specs.Others.{others_of, display_of, own_remarks, own_bit, headed_remarks}
use Rattle.m2v_audit.specs.Places.{told_with_frame, told_at_close}
use Rattle.m2v_audit.specs.Times.{fields_of}
use Rattle.m2v_audit.specs.Report.{finding_of, under_of, over_of}
use Rattle.m2v_audit.specs.declared.asked.Asked.{Asked}
use Rattle.m2v_law_audit.specs.Sequences.{first_byte}

-- ---- breaches

-- breaches that stand at a bit and are told of a picture
abbrev pub found_at : ℕ → ℕ → ℕ → Breaches → List Finding
found_at sequence picture bit bs = map (λ b. finding_of sequence (broken_at picture bit b)) bs

-- frames that stand at another place than they say (rule 11)
abbrev pub found_misplaced : ℕ → List (Option Misplaced) → List Finding
found_misplaced sequence ms = flat_map (λ m. map (λ x. finding_of sequence (misplaced_at x)) (option_to_list m)) ms

-- the breaches among what the stricter rules remark, of a header that stands at a bit and is told of a picture; the others are
-- warnings
unfoldable pub remarks_found : ℕ → ℕ → ℕ → Remarks → List Finding
remarks_found sequence picture bit ms = map (λ m. finding_of sequence (remarked_at picture bit m)) (filter (λ m. not (is_warning m.rule)) ms)

-- of a sequence header behind these headers, beside the first one of its sequence, and by its set beside the first one of all
abbrev pub sequence_found : ℕ → RuleSet → Option Sequence → Leading → ℕ → ℕ → Sequence → Sequence → List Finding
sequence_found sequence rules like before picture bit first s =
    let found : Remarks → List Finding = λ ms. remarks_found sequence picture bit ms in
    found (level_remarks s) ++ found (header_rule first s) ++ found (extension_rule first s) ++ found (sequence_order_rule before)
    ++ found (sequence_warnings rules s) ++ found (set_remarks rules like s)

-- of a group header behind these, in a sequence with this header, where one came
abbrev pub group_found : ℕ → RuleSet → Behind → ℕ → ℕ → Option Sequence → GroupInfo → List Finding
group_found sequence rules before picture bit None g = []
group_found sequence rules before picture bit (Some s) g =
    let found : Remarks → List Finding = λ ms. remarks_found sequence picture bit ms in
    found (group_order_rule before.headers) ++ found (group_remarks s.info.frame_rate_code g)
    ++ found (time_warnings s.info.frame_rate_code before.group before.fields g) ++ found (broken_link_warning g)
    ++ found (set_group_remarks rules before.headers.sequence)

-- of a picture behind these, and behind what the pictures before it come to
abbrev pub picture_found : ℕ → RuleSet → Preceding → Bool → Runs → CodedPicture → List Finding
picture_found sequence rules before constant runs p =
    let found : Remarks → List Finding = λ ms. remarks_found sequence p.number (bit_of p.note) ms in
    found (first_type_rule before.headed p) ++ found (delay_remarks constant p) ++ found (arrival_rule before.rate before.picture p) ++ found (f_code_rule p) ++ found (full_pel_rule p.note.info) ++ found (field_rule constant p)
    ++ found (frame_remarks constant p) ++ found (picture_warnings p)
    ++ found (set_picture_remarks rules runs p (fields_of p.sequence p.note))

-- at a header: of a sequence header its rules, at a group header what waits for rule 11, and the rules of it
abbrev pub header_found : Auditing → PieceHeader → Option (SequenceInfo × SequenceExtension) → List Finding
header_found a (headers.Sequence bit) None = []
header_found a (headers.Sequence bit) (Some s) =
    found_at a.report.sequence a.pictures bit (sequence_breaches (sequence_of s ∷ []))
    ++ sequence_found a.report.sequence a.rules a.like (leading a) a.pictures bit (first_or a.first (sequence_of s)) (sequence_of s)
header_found a (headers.Group bit g) s =
    found_misplaced a.report.sequence (told_at_close a.places) ++ group_found a.report.sequence a.rules (behind a) a.pictures bit a.sequence g

-- at headers in turn, as many sequence headers standing before them among those that were noted
unfoldable pub headers_found : Auditing → List (SequenceInfo × SequenceExtension) → ℕ → List PieceHeader → List Finding
headers_found a ss k [] = []
headers_found a ss k (h ∷ hs) = header_found a h (slice_get ss k) ++ headers_found (with_header a h (slice_get ss k)) ss (k + sequences_of h) hs

-- at a picture: the verifier's rules by number, but for 11, and the stricter ones
abbrev pub rules_of : Bool → CodedPicture → Breaches
rules_of constant p =
    let n = numbered_of p in
    (horizontal_rule n ++ vertical_rule n ++ intra_rule n) ++ (crowd_rule n ++ repeat_rule constant n ++ progressive_rule n ++ precision_rule n)

-- then rule 11 of the frames whose place is known by it
abbrev pub places_found : ℕ → Places → CodedPicture → List Finding
places_found sequence o p =
    if ends_frame p.note then found_misplaced sequence (told_with_frame o (waiting_of p) (is_b p.note.info.kind)) else []

abbrev pub coded_found : Auditing → CodedPicture → List Finding
coded_found a p =
    let behind = counted a p in
    (found_at a.report.sequence p.number (bit_of p.note) (rules_of behind.constant p)
    ++ picture_found a.report.sequence a.rules (preceding a p.sequence) behind.constant a.runs p)
    ++ places_found a.report.sequence a.places p

abbrev pub note_found : Auditing → Option Sequence → Option PictureNote → List Finding
note_found a s None = []
note_found a None (Some n) = []
note_found a (Some s) (Some n) = coded_found a (coded a s n)

-- at the sequence display extension of a piece that begins at a byte of the input, behind its headers
abbrev pub display_found : ℕ → List Other → Auditing → List Finding
display_found place others a =
    remarks_found a.report.sequence a.pictures (8 * place) (headed_remarks a.headed a.display (display_of others))

-- at what else stands before the first slice of a picture
abbrev pub others_found : ℕ → ℕ → List Other → List Finding
others_found sequence picture others = flat_map (λ o. remarks_found sequence picture (own_bit o) (own_remarks o)) others

-- at a piece
abbrev pub piece_found : Auditing → ℕ → List ℕ → PieceNotes → List Finding
piece_found a place piece notes =
    let others = others_of place piece in
    let first = begun a.first (longer (length piece) a) place notes in
    let headed = with_headers first notes.sequences 0 (front_of place piece) in
    let front = with_display place others headed in
    headers_found first notes.sequences 0 (front_of place piece) ++ display_found place others headed
    ++ note_found front front.sequence notes.picture ++ others_found front.report.sequence front.pictures others

-- at the end of the sequence: what the stricter rules remark of it, behind these headers, where the last piece ends so
abbrev pub last_found : ℕ → Leading → ℕ → Option PieceEnd → List Finding
last_found sequence before picture None = []
last_found sequence before picture (Some e) = remarks_found sequence picture e.bit (end_remarks before e.closed)

-- where a sequence began, what waits for rule 11, and then that
abbrev pub end_found_by : Option Sequence → Auditing → List Finding
end_found_by None a = []
end_found_by (Some first) a =
    found_misplaced a.report.sequence (told_at_close a.places) ++ last_found a.report.sequence (leading a) a.pictures a.last

abbrev pub end_found : Auditing → List Finding
end_found a = end_found_by a.first a

-- ---- removals

abbrev pub settled_in : Option Account → List Told
settled_in None = []
settled_in (Some x) = settled x

abbrev pub left_in : Option Account → List Told
left_in None = []
left_in (Some x) = all_left x

-- the removals that are told at a piece: those that are settled behind its picture
abbrev pub piece_removals : Auditing → ℕ → List ℕ → PieceNotes → List Told
piece_removals a place piece notes =
    settled_in (pictured (fronted (longer (length piece) a) place piece notes) place (length piece) (zeros_last piece) notes.picture).account

-- the failures of a removal: under before over
abbrev pub failures_of : ℕ → Rate → Told → List FailureRecord
failures_of sequence rate t =
    (if t.1.is_under then under_of sequence rate t.0 t.1 ∷ [] else [])
    ++ (if t.1.is_over then over_of sequence rate t.0 t.1 ∷ [] else [])

-- ---- a whole sequence

-- a list that each piece adds to, and the end of the sequence
abbrev pub along : {T : Type 0} → (Auditing → ℕ → List ℕ → PieceNotes → List T) → (Auditing → List T) → Auditing → ℕ → List ℕ → Course
    → (Auditing → Between → List T) → List T
along here last a at p (Ok read) next =
    let notes = notes_of at p read.0 in
    here a at p notes ++ next (cleared (after_piece a at p notes)) read.1
along here last a at p (Err f) next = last a

unfoldable pub all_along : {T : Type 0} → (Auditing → ℕ → List ℕ → PieceNotes → List T) → (Auditing → List T) → Auditing → Between → ℕ → List (List ℕ) → List T
all_along here last a b at [] = last a
all_along here last a b at (p ∷ ps) = along here last a at p (piece_read b (at + length p) p) (λ a' b'. all_along here last a' b' (at + length p) ps)

-- the breaches that are told from here on
abbrev pub all_found : Auditing → Between → ℕ → List (List ℕ) → List Finding
all_found = all_along piece_found end_found

-- the breaches that are told of a text's sequence, by its number and the byte of the input where the text begins
abbrev pub findings_of : Asked → ℕ → ℕ → List ℕ → List Finding
findings_of asked number start text = all_found (nothing number asked start) at_start (first_byte start text) (pieces text)

-- those of the rules that the verifier looks at, 1 to 15
abbrev pub judged_in : List Finding → List Finding
judged_in fs = filter (λ f. nat_le f.rule 15) fs

-- the removals that are told from here on
abbrev pub all_removals : Auditing → Between → ℕ → List (List ℕ) → List Told
all_removals = all_along piece_removals (λ a. left_in a.account)
