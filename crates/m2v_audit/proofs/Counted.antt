-- The bytes of a sequence, and what is kept of its sequence display extensions, stay through headers and pictures.
use Rattle.std.proofs.Common.{◌≡◌, ℕ, ◌+◌, Bool, true, false, List, [], ◌∷◌, length, Option, Some, None, refl, ◌∙◌}
use Rattle.std.specs.Prelude.{slice_get, if◌then◌else◌}
use Rattle.m2v_model.specs.m2v_macroblock.m2v_head.declared.sequence.SequenceInfo.{SequenceInfo}
use Rattle.m2v_model.specs.m2v_macroblock.m2v_head.declared.sequence.SequenceExtension.{SequenceExtension}
use Rattle.m2v_model.specs.declared.state.Sequence.{Sequence}
use Rattle.m2v_model.specs.declared.notes.PictureNote.{PictureNote}
use Rattle.m2v_model.specs.Pieces.{zeros_last}
use Rattle.m2v_model.specs.PieceNotes.{PieceNotes}
use Rattle.m2v_strict.specs.m2v_check.declared.coded.CodedPicture.{CodedPicture}
use Rattle.m2v_strict.specs.m2v_check.Running.{ends_frame}
use Rattle.m2v_audit.specs.declared.headers.PieceHeader.{PieceHeader}
use Rattle.m2v_audit.specs.declared.headers.PieceHeader.TheVariants as headers
use Rattle.m2v_audit.specs.declared.others.Other.{Other}
use Rattle.m2v_audit.specs.Account.{Account}
use Rattle.m2v_audit.specs.Front.{front_of}
use Rattle.m2v_audit.specs.Others.{others_of}
use Rattle.m2v_audit.specs.Auditing.{Auditing, longer, begun, begun_by, with_header, sequences_of, with_headers, coded, counted, with_told, with_place, with_note, with_settled, settled_by, fronted, with_others, pictured, with_ending, after_piece}

-- both are as they were
pub record Stays (a b : Auditing) : Type 0 where
  pub bytes : b.bytes ≡ a.bytes
  pub display : b.display ≡ a.display

same : (a : Auditing) → Stays a a
same a = record { bytes = refl; display = refl }

onward : (a b c : Auditing) → Stays a b → Stays b c → Stays a c
onward a b c x y = record { bytes = y.bytes ∙ x.bytes; display = y.display ∙ x.display }

-- ---- headers

one_stays : (a : Auditing) (h : PieceHeader) (s : Option (SequenceInfo × SequenceExtension)) → Stays a (with_header a h s)
unfolding with_header
one_stays a (headers.Sequence bit) None = same a
one_stays a (headers.Sequence bit) (Some s) = record { bytes = refl; display = refl }
one_stays a (headers.Group bit g) s = record { bytes = refl; display = refl }

all_stay : (a : Auditing) (ss : List (SequenceInfo × SequenceExtension)) (k : ℕ) (hs : List PieceHeader) → Stays a (with_headers a ss k hs)
unfolding with_headers
all_stay a ss k [] = same a
all_stay a ss k (h ∷ hs) =
    let next : Auditing = with_header a h (slice_get ss k) in
    onward a next (with_headers next ss (k + sequences_of h) hs) (one_stays a h (slice_get ss k)) (all_stay next ss (k + sequences_of h) hs)

begun_stays : (first : Option Sequence) (a : Auditing) (place : ℕ) (notes : PieceNotes) → Stays a (begun first a place notes)
begun_stays (Some s) a place notes = same a
begun_stays None a place notes = by (slice_get notes.sequences 0)
  where
    by : (s : Option (SequenceInfo × SequenceExtension)) → Stays a (begun_by a place s notes.picture)
    by None = same a
    by (Some s) = record { bytes = refl; display = refl }

-- so of the headers of a piece, and of the sequence that begins with them
pub headed_stays : (a : Auditing) (place : ℕ) (piece : List ℕ) (notes : PieceNotes)
    → Stays a (with_headers (begun a.first a place notes) notes.sequences 0 (front_of place piece))
headed_stays a place piece notes =
    let b : Auditing = begun a.first a place notes in
    onward a b (with_headers b notes.sequences 0 (front_of place piece)) (begun_stays a.first a place notes)
    (all_stay b notes.sequences 0 (front_of place piece))

-- ---- a picture

either_stays : (is_frame : Bool) (a x y : Auditing) → Stays a x → Stays a y → Stays a (if is_frame then x else y)
either_stays true a x y p q = p
either_stays false a x y p q = q

placed_stays : (a : Auditing) (p : CodedPicture) → Stays a (with_place a p)
placed_stays a p = either_stays (ends_frame p.note) a _ _ (record { bytes = refl; display = refl }) (record { bytes = refl; display = refl })

note_stays : (a : Auditing) (s : Option Sequence) (n : Option PictureNote) (place bytes ending : ℕ) → Stays a (with_note a s n place bytes ending)
note_stays a s None place bytes ending = record { bytes = refl; display = refl }
note_stays a None (Some n) place bytes ending = same a
note_stays a (Some s) (Some n) place bytes ending =
    let p : CodedPicture = coded a s n in
    let placed = placed_stays (with_told (counted a p) p bytes ending) p in
    record { bytes = placed.bytes; display = placed.display }

settled_stays : (a : Auditing) (x : Option Account) → Stays a (settled_by a x)
settled_stays a None = same a
settled_stays a (Some x) = record { bytes = refl; display = refl }

-- so of the picture of a piece, what else stands before its first slice, and its end
pub shown_stays : (a : Auditing) (place : ℕ) (piece : List ℕ) (notes : PieceNotes) (os : List Other)
    → Stays a (with_settled (with_ending place piece (with_others a.pictures os (pictured a place (length piece) (zeros_last piece) notes.picture))))
shown_stays a place piece notes os =
    let noted = note_stays a a.sequence notes.picture place (length piece) (zeros_last piece) in
    let last : Auditing = with_ending place piece (with_others a.pictures os (pictured a place (length piece) (zeros_last piece) notes.picture)) in
    let settled = settled_stays last last.account in
    record { bytes = settled.bytes ∙ noted.bytes; display = settled.display ∙ noted.display }

-- ---- a piece

-- The bytes of a sequence are those of its pieces.
pub bytes_after : (a : Auditing) (place : ℕ) (piece : List ℕ) (notes : PieceNotes) → (after_piece a place piece notes).bytes ≡ a.bytes + length piece
unfolding after_piece
bytes_after a place piece notes =
    let b : Auditing = longer (length piece) a in
    (shown_stays (fronted b place piece notes) place piece notes (others_of place piece)).bytes ∙ (headed_stays b place piece notes).bytes
