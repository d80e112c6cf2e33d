-- What is found of what else stands before the first slices of a sequence's pieces; and what a piece tells where that is nothing.
use Rattle.std.proofs.Common.{◌≡◌, ℕ, ◌*◌, Bool, true, false, List, [], ◌∷◌, ◌++◌, length, Option, Some, None, refl, ap, ◌∙◌}
use Rattle.std.specs.Prelude.{if◌then◌else◌}
use Rattle.std.proofs.lemmas.List.{append-nil}
use Rattle.m2v_model.specs.declared.state.Sequence.{Sequence}
use Rattle.m2v_model.specs.declared.notes.PictureNote.{PictureNote}
use Rattle.m2v_model.specs.Pictures.{Events}
use Rattle.m2v_model.specs.PieceNotes.{PieceNotes, notes_of}
use Rattle.m2v_model.specs.ByPieces.{Between}
use Rattle.m2v_audit.specs.m2v_strict.Remarks.{Remarks, is_warning}
use Rattle.m2v_audit.specs.declared.auditing.Auditing.{Auditing}
use Rattle.m2v_audit.specs.declared.others.Other.{Other}
use Rattle.m2v_audit.specs.declared.records.Finding.{Finding}
use Rattle.m2v_audit.specs.declared.report.Broken.{Broken}
use Rattle.m2v_audit.specs.Auditing.{with_headers, with_display, begun, longer}
use Rattle.m2v_audit.specs.Findings.{remarked_at, with_remarks}
use Rattle.m2v_audit.specs.Front.{front_of}
use Rattle.m2v_audit.specs.Others.{others_of, display_of, headed_remarks}
use Rattle.m2v_audit.specs.Report.{Report, with_warning, with_breach, with_finding}
use Rattle.m2v_law_audit.specs.Found.{headers_found, note_found, display_found, others_found, piece_found, all_along}
use Rattle.m2v_law_audit.proofs.AccountReading.{begun_at}
use Rattle.m2v_law_audit.proofs.BreachPieces.{found_in}
use Rattle.m2v_law_audit.proofs.VerdictRules.{none_before, none_behind}

-- of a piece
abbrev pub piece_others : Auditing → ℕ → List ℕ → PieceNotes → List Finding
piece_others a place piece notes =
    let others = others_of place piece in
    let headed = with_headers (begun a.first (longer (length piece) a) place notes) notes.sequences 0 (front_of place piece) in
    let front = with_display place others headed in
    display_found place others headed ++ others_found front.report.sequence front.pictures others

-- of all pieces from here on
abbrev pub all_others : Auditing → Between → ℕ → List (List ℕ) → List Finding
all_others = all_along piece_others (λ a. [])

-- ---- a report stays that of its sequence

finding_keeps : (warns : Bool) (r : Report) (b : Broken) → (if warns then with_warning r b else with_breach r b).sequence ≡ r.sequence
finding_keeps true r b = refl
finding_keeps false r b = refl

remarks_stay : (r : Report) (picture bit : ℕ) (ms : Remarks) → (with_remarks r picture bit ms).sequence ≡ r.sequence
unfolding with_remarks
remarks_stay r picture bit [] = refl
remarks_stay r picture bit (m ∷ ms) =
    remarks_stay (with_finding r (remarked_at picture bit m)) picture bit ms ∙ finding_keeps (is_warning m.rule) r (remarked_at picture bit m)

-- so what a picture tells hangs on no more of it than that, nor on what was kept of sequence display extensions
same_note : (a b : Auditing) (o : Option Sequence) (n : Option PictureNote) → b ≡ record a { report = b.report; display = b.display } → b.report.sequence ≡ a.report.sequence
    → note_found b o n ≡ note_found a o n
same_note a b o None is e = refl
same_note a b None (Some n) is e = refl
same_note a b (Some s) (Some n) is e =
    ap (λ (x : Auditing). note_found x (Some s) (Some n)) is
    ∙ ap (λ (k : ℕ). note_found (record a { report = record a.report { sequence = k }; display = b.display }) (Some s) (Some n)) e

display_note : (place : ℕ) (os : List Other) (a : Auditing) (o : Option Sequence) (n : Option PictureNote)
    → note_found (with_display place os a) o n ≡ note_found a o n
display_note place os a o n =
    same_note a (with_display place os a) o n refl
    (remarks_stay a.report a.pictures (8 * place) (headed_remarks a.headed a.display (display_of os)))

-- ---- a piece

-- between and behind two lists nothing stands
both_alone : (hs ds ns os : List Finding) → ds ++ os ≡ [] → ((hs ++ ds) ++ ns) ++ os ≡ hs ++ ns
both_alone hs ds ns os none =
    (λ i. ((hs ++ none_before ds os none i) ++ ns) ++ none_behind ds os none i)
    ∙ append-nil ((hs ++ []) ++ ns) ∙ ap (λ (l : List Finding). l ++ ns) (append-nil hs)

-- A piece tells what its headers and its picture do.
pub plain_piece : (a : Auditing) (place : ℕ) (p : List ℕ) (es : Events) →
    let notes = notes_of place p es in
    piece_others a place p notes ≡ [] → piece_found a place p notes ≡ found_in (begun_at a place p es) notes.sequences 0 (front_of place p) notes.picture
plain_piece a place p es none =
    let notes = notes_of place p es in
    let os = others_of place p in
    let b = begun_at a place p es in
    let headed = with_headers b notes.sequences 0 (front_of place p) in
    let front = with_display place os headed in
    let hs = headers_found b notes.sequences 0 (front_of place p) in
    both_alone hs (display_found place os headed) (note_found front front.sequence notes.picture) (others_found front.report.sequence front.pictures os) none
    ∙ ap (λ (l : List Finding). hs ++ l) (display_note place os headed headed.sequence notes.picture)
