-- What a piece of a sequence adds to its report, and the end of the sequence.
use Rattle.std.proofs.Common.{◌≡◌, ℕ, ◌+◌, ◌*◌, Bool, true, false, List, [], ◌∷◌, ◌++◌, length, Option, Some, None, refl, sym, ap, subst, ◌∙◌}
use Rattle.std.specs.Prelude.{slice_get, if◌then◌else◌}
use Rattle.std.specs.List.{flat_map}
use Rattle.std.proofs.lemmas.List.{append-nil}
use Rattle.m2v_model.specs.m2v_macroblock.m2v_head.declared.sequence.SequenceInfo.{SequenceInfo}
use Rattle.m2v_model.specs.m2v_macroblock.m2v_head.declared.sequence.SequenceExtension.{SequenceExtension}
use Rattle.m2v_model.specs.declared.state.Sequence.{Sequence}
use Rattle.m2v_model.specs.declared.notes.PictureNote.{PictureNote}
use Rattle.m2v_model.specs.States.{first_or, is_b}
use Rattle.m2v_model.specs.Pieces.{zeros_last}
use Rattle.m2v_model.specs.PieceNotes.{PieceNotes}
use Rattle.m2v_model.specs.Lawful.{sequence_breaches}
use Rattle.m2v_audit.specs.m2v_check.declared.coded.CodedPicture.{CodedPicture}
use Rattle.m2v_audit.specs.m2v_check.Running.{ends_frame}
use Rattle.m2v_audit.specs.m2v_strict.ParityRules.{has_parity, shown_with}
use Rattle.m2v_audit.specs.m2v_strict.declared.parity.Parity.{Parity}
use Rattle.m2v_audit.specs.m2v_strict.declared.parity.ShownFrame.{ShownFrame}
use Rattle.m2v_audit.specs.declared.auditing.Auditing.{Auditing}
use Rattle.m2v_audit.specs.declared.headers.PieceHeader.{PieceHeader}
use Rattle.m2v_audit.specs.declared.headers.PieceHeader.TheVariants as headers
use Rattle.m2v_audit.specs.declared.others.Other.{Other}
use Rattle.m2v_audit.specs.declared.places.Places.{Places}
use Rattle.m2v_audit.specs.declared.records.Finding.{Finding}
use Rattle.m2v_audit.specs.declared.records.FailureRecord.{FailureRecord}
use Rattle.m2v_audit.specs.Account.{Account, settled}
use Rattle.m2v_audit.specs.Auditing.{sequence_of, longer, begun, begun_by, leading, behind, with_header, sequences_of, with_headers, coded, preceding, counted, with_told, with_place, frame_at, with_shown, with_coded, with_note, settled_by, with_others, fronted, pictured, with_ending, after_piece, with_waiting, totals_of, finished}
use Rattle.m2v_audit.specs.HeaderRecords.{group_record, waiting_of, picture_record}
use Rattle.m2v_audit.specs.Findings.{with_misplaced}
use Rattle.m2v_audit.specs.Front.{front_of}
use Rattle.m2v_audit.specs.Others.{others_of, display_of, headed_remarks}
use Rattle.m2v_audit.specs.Places.{told_with_frame, told_at_close}
use Rattle.m2v_audit.specs.Report.{Report, with_picture_line}
use Rattle.m2v_law_audit.specs.Parts.{Adds}
use Rattle.m2v_law_audit.specs.Found.{found_misplaced, header_found, headers_found, coded_found, note_found, display_found, others_found, piece_found, last_found, settled_in, left_in, piece_removals, failures_of}
use Rattle.m2v_law_audit.proofs.PartsJoined.{IsOf, adds_on, failures_on, of_then, of_own, adds_none}
use Rattle.m2v_law_audit.proofs.PartsFound.{breaches_add, remarks_add, others_add, sequence_remarks_add, group_remarks_add, misplaced_add, rules_add, picture_remarks_add, removals_add, left_add, shown_adds, last_remarks_add, begin_adds, group_adds, picture_adds, end_adds}

-- ---- the beginning

begun_adds : {n : ℕ} (first : Option Sequence) (a : Auditing) (place : ℕ) (notes : PieceNotes) → IsOf n a.report → Adds a.report (begun first a place notes).report [] []
begun_adds (Some s) a place notes of = adds_none a.report of
begun_adds None a place notes of = by (slice_get notes.sequences 0)
  where
    by : (s : Option (SequenceInfo × SequenceExtension)) → Adds a.report (begun_by a place s notes.picture).report [] []
    by None = adds_none a.report of
    by (Some s) = begin_adds a.report _ _ _ of

-- ---- headers

header_adds : {n : ℕ} (a : Auditing) (h : PieceHeader) (s : Option (SequenceInfo × SequenceExtension)) → IsOf n a.report → Adds a.report (with_header a h s).report (header_found a h s) []
unfolding with_header
header_adds a (headers.Sequence bit) None of = adds_none a.report of
header_adds a (headers.Sequence bit) (Some s) of =
    let rules = breaches_add a.report a.pictures bit (sequence_breaches (sequence_of s ∷ [])) (of_own of) in
    adds_on rules
    (sequence_remarks_add _ a.rules a.like (leading a) a.pictures bit (first_or a.first (sequence_of s)) (sequence_of s) (of_then (of_own of) rules))
header_adds a (headers.Group bit g) s of =
    let first = misplaced_add a.report (told_at_close a.places) (of_own of) in
    let of_first = of_then (of_own of) first in
    let line = group_adds _ (group_record a.report.sequence a.groups bit a.pictures g) of_first in
    adds_on first (adds_on line (group_remarks_add _ a.rules (behind a) a.pictures bit a.sequence g (of_then of_first line)))

headers_add : {n : ℕ} (a : Auditing) (ss : List (SequenceInfo × SequenceExtension)) (k : ℕ) (hs : List PieceHeader) → IsOf n a.report → Adds a.report (with_headers a ss k hs).report (headers_found a ss k hs) []
unfolding with_headers headers_found
headers_add a ss k [] of = adds_none a.report of
headers_add a ss k (h ∷ hs) of =
    let first = header_adds a h (slice_get ss k) of in
    adds_on first (headers_add (with_header a h (slice_get ss k)) ss (k + sequences_of h) hs (of_then of first))

-- ---- a picture

place_adds : {n : ℕ} (b : Bool) (a new other : Auditing) (o : Places) (p : CodedPicture) → IsOf n a.report
    → new.report ≡ with_misplaced a.report (told_with_frame o (waiting_of p) (is_b p.note.info.kind)) → other.report ≡ a.report
    → Adds a.report (if b then new else other).report (if b then found_misplaced n (told_with_frame o (waiting_of p) (is_b p.note.info.kind)) else []) []
place_adds {n} true a new other o p of e f = subst (λ (r : Report). Adds a.report r (found_misplaced n (told_with_frame o (waiting_of p) (is_b p.note.info.kind))) []) (sym e) (misplaced_add a.report _ of)
place_adds false a new other o p of e f = subst (λ (r : Report). Adds a.report r [] []) (sym f) (adds_none a.report of)

-- the frame that is shown by it
fields_add : {n : ℕ} (b : Bool) (r : Report) (o : Parity) (f : ShownFrame) (is : Bool) → IsOf n r
    → Adds r (if b then with_shown r o.last (shown_with o f is) else r) [] []
fields_add true r o f is of = shown_adds r o.last (shown_with o f is) of
fields_add false r o f is of = adds_none r of

coded_adds : {n : ℕ} (a : Auditing) (p : CodedPicture) (place bytes zeros : ℕ) → IsOf n a.report → Adds a.report (with_coded a p place bytes zeros).report (coded_found a p) []
coded_adds {n} a p place bytes zeros of =
    let own : IsOf a.report.sequence a.report = of_own of in
    let c : Auditing = counted a p in
    let told : Auditing = with_told c p bytes zeros in
    let line = picture_adds a.report (picture_record a.report.sequence p bytes zeros) own in
    let rules = rules_add (with_picture_line a.report (picture_record a.report.sequence p bytes zeros)) c.constant p (of_then own line) in
    let of_rules = of_then (of_then own line) rules in
    let before = adds_on line (adds_on rules (picture_remarks_add _ c.rules (preceding c p.sequence) c.constant c.runs p of_rules)) in
    let of_told : IsOf a.report.sequence told.report = of_then own before in
    let placed = adds_on before (place_adds (ends_frame p.note) told _ _ a.places p of_told refl refl) in
    let parity = fields_add (has_parity p) (with_place told p).report (with_place told p).parity (frame_at p) (is_b p.note.info.kind) (of_then own placed) in
    subst (λ (l : List Finding). Adds a.report (with_coded a p place bytes zeros).report l []) (append-nil (coded_found a p)) (adds_on placed parity)

note_adds : {n : ℕ} (a : Auditing) (s : Option Sequence) (p : Option PictureNote) (place bytes ending : ℕ) → IsOf n a.report → Adds a.report (with_note a s p place bytes ending).report (note_found a s p) []
note_adds a s None place bytes ending of = adds_none a.report of
note_adds a None (Some p) place bytes ending of = adds_none a.report of
note_adds a (Some s) (Some p) place bytes ending of = coded_adds a (coded a s p) place bytes ending of

-- ---- removals

settled_add : {n : ℕ} (a : Auditing) (x : Option Account) → IsOf n a.report → Adds a.report (settled_by a x).report [] (flat_map (failures_of n (settled_by a x).rate) (settled_in x))
settled_add a None of = adds_none a.report of
settled_add a (Some x) of = removals_add a.report a.rate (settled x) of

-- ---- a piece

pub piece_adds : {n : ℕ} (a : Auditing) (place : ℕ) (piece : List ℕ) (notes : PieceNotes) → IsOf n a.report
    → Adds a.report (after_piece a place piece notes).report (piece_found a place piece notes) (flat_map (failures_of n (after_piece a place piece notes).rate) (piece_removals a place piece notes))
unfolding after_piece
piece_adds {n} a place piece notes of =
    let b : Auditing = longer (length piece) a in
    let c : Auditing = begun b.first b place notes in
    let os : List Other = others_of place piece in
    let headed : Auditing = with_headers c notes.sequences 0 (front_of place piece) in
    let d : Auditing = fronted b place piece notes in
    let e : Auditing = pictured d place (length piece) (zeros_last piece) notes.picture in
    let begins : Adds a.report c.report [] [] = begun_adds b.first b place notes of in
    let of_c : IsOf n c.report = of_then of begins in
    let heads : Adds c.report headed.report (headers_found c notes.sequences 0 (front_of place piece)) [] = headers_add c notes.sequences 0 (front_of place piece) of_c in
    let shows : Adds headed.report d.report (display_found place os headed) [] =
    remarks_add headed.report headed.pictures (8 * place) (headed_remarks headed.headed headed.display (display_of os)) (of_own (of_then of_c heads)) in
    let of_d : IsOf n d.report = of_then (of_then of_c heads) shows in
    let notes_it : Adds d.report e.report (note_found d d.sequence notes.picture) [] = note_adds d d.sequence notes.picture place (length piece) (zeros_last piece) of_d in
    let last : Auditing = with_others d.pictures os e in
    let others : Adds e.report last.report (others_found d.report.sequence d.pictures os) [] =
    others_add e.report d.pictures os (of_then (of_own of_d) notes_it) in
    let found : Adds a.report last.report (piece_found a place piece notes) [] =
    adds_on begins (adds_on (adds_on (adds_on heads shows) notes_it) others) in
    failures_on found (settled_add (with_ending place piece last) e.account (of_then (of_then of_d notes_it) others))

-- ---- the end

abbrev found_last : ℕ → Auditing → List Finding
found_last n a = found_misplaced n (told_at_close a.places) ++ last_found n (leading a) a.pictures a.last

pub finished_adds : {n : ℕ} (a : Auditing) → IsOf n a.report
    → Adds a.report (finished a).report (found_last n a) (flat_map (failures_of n a.rate) (left_in a.account))
finished_adds {n} a of =
    let waits = misplaced_add a.report (told_at_close a.places) of in
    let shown = shown_adds (with_misplaced a.report (told_at_close a.places)) a.parity.last a.parity.anchor (of_then of waits) in
    let told = adds_on waits shown in
    let left = left_add (with_waiting a) a.rate a.account (of_then of told) in
    let both = failures_on told left in
    let remarks = adds_on both (last_remarks_add _ (leading a) a.pictures a.last (of_then of both)) in
    let last = adds_on remarks (end_adds _ (totals_of a) (of_then of remarks)) in
    let fs = flat_map (failures_of n a.rate) (left_in a.account) in
    let ms = found_last n a in
    subst (λ (l : List FailureRecord). Adds a.report (finished a).report ms l) (append-nil (fs ++ []) ∙ append-nil fs)
    (subst (λ (l : List Finding). Adds a.report (finished a).report l ((fs ++ []) ++ []))
    (append-nil _ ∙ ap (λ (l : List Finding). l ++ last_found n (leading a) a.pictures a.last) (append-nil (found_misplaced n (told_at_close a.places)))) last)
