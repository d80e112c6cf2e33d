-- What is remarked of the arrival of the bits of a sequence's pictures (rule 29), piece by piece.
use Rattle.std.proofs.Common.{◌≡◌, ℕ, ◌+◌, List, [], ◌∷◌, length, Option, Some, None, ap}
use Rattle.std.specs.Prelude.{slice_get}
use Rattle.m2v_model.specs.declared.state.Sequence.{Sequence}
use Rattle.m2v_model.specs.declared.notes.PictureNote.{PictureNote}
use Rattle.m2v_model.specs.PieceNotes.{PieceNotes}
use Rattle.m2v_model.specs.ByPieces.{Between}
use Rattle.m2v_audit.specs.m2v_strict.Remarks.{Remarks}
use Rattle.m2v_audit.specs.m2v_strict.ArrivalRules.{arrival_rule}
use Rattle.m2v_audit.specs.declared.headers.PieceHeader.{PieceHeader}
use Rattle.m2v_audit.specs.declared.auditing.Auditing.{Auditing}
use Rattle.m2v_audit.specs.Auditing.{coded, preceding, sequences_of, with_header, with_headers, longer, fronted}
use Rattle.m2v_law_audit.specs.Found.{all_along}
use Rattle.m2v_law_audit.proofs.EventsFront.{Pair}

-- of a picture behind a sequence header
abbrev pub arrivals_by : Auditing → Option Sequence → Option PictureNote → Remarks
arrivals_by a s None = []
arrivals_by a None (Some n) = []
arrivals_by a (Some s) (Some n) = let before = preceding a s in arrival_rule before.rate before.picture (coded a s n)

-- of a picture behind headers
abbrev pub arrivals_in : Auditing → List Pair → ℕ → List PieceHeader → Option PictureNote → Remarks
arrivals_in a ss k hs n = let front = with_headers a ss k hs in arrivals_by front front.sequence n

pub arrivals_first : (a : Auditing) (h : PieceHeader) (s : Option Pair) (ss : List Pair) (k : ℕ) (hs : List PieceHeader) (n : Option PictureNote) → slice_get ss k ≡ s
    → arrivals_in a ss k (h ∷ hs) n ≡ arrivals_in (with_header a h s) ss (k + sequences_of h) hs n
unfolding with_headers
arrivals_first a h s ss k hs n e = ap (λ (o : Option Pair). arrivals_in (with_header a h o) ss (k + sequences_of h) hs n) e

-- of a piece
abbrev pub piece_arrivals : Auditing → ℕ → List ℕ → PieceNotes → Remarks
piece_arrivals a place piece notes =
    let front = fronted (longer (length piece) a) place piece notes in arrivals_by front front.sequence notes.picture

-- of all pieces from here on
abbrev pub all_arrivals : Auditing → Between → ℕ → List (List ℕ) → Remarks
all_arrivals = all_along piece_arrivals (λ a. [])
