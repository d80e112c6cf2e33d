-- The report of one sequence of an input by itself: what its pieces tell, one after another, and what its end tells.
use Rattle.std.specs.Prelude.{◌≡◌, ℕ, ◌+◌, Bool, List, [], ◌∷◌, ◌++◌, length, None, Ok, Err}
use Rattle.m2v_model.specs.Pieces.{pieces, before_pieces}
use Rattle.m2v_model.specs.PieceNotes.{notes_of}
use Rattle.m2v_model.specs.ByPieces.{Between, Course, at_start, piece_read, end_of}
use Rattle.m2v_audit.specs.declared.auditing.Auditing.{Auditing}
use Rattle.m2v_audit.specs.Auditing.{nothing, cleared, after_piece, ended}
use Rattle.m2v_audit.specs.Audited.{Telling, then_comes, pieces_told, limit_at}
use Rattle.m2v_audit.specs.declared.asked.Asked.{Asked}

-- lines that were told, and what is kept behind them; the lines of a piece are taken away from what is kept
pub record SequenceReport : Type 0 where
  pub lines : List ℕ
  pub kept : Auditing

-- lines, and then those of a report
abbrev pub behind : List ℕ → SequenceReport → SequenceReport
behind lines r = record { lines = lines ++ r.lines; kept = r.kept }

-- the end of the sequence
abbrev pub at_end : Auditing → SequenceReport
at_end a = record { lines = (ended a).report.text; kept = ended a }

-- a piece that begins at a byte of the input, and then what follows it; a piece with a fault tells nothing
abbrev pub by_piece : Auditing → ℕ → List ℕ → Course → (Auditing → Between → SequenceReport) → SequenceReport
by_piece a at p (Ok read) next =
    let told = after_piece a at p (notes_of at p read.0) in
    behind told.report.text (next (cleared told) read.1)
by_piece a at p (Err f) next = at_end a

-- pieces from here on, of which the first begins at a byte of the input, and the end of the sequence
unfoldable pub reported : Auditing → Between → ℕ → List (List ℕ) → SequenceReport
reported a b at [] = at_end a
reported a b at (p ∷ ps) = by_piece a at p (piece_read b (at + length p) p) (λ a' b'. reported a' b' (at + length p) ps)

-- the byte of the input where the first piece of a text begins, which begins at a byte itself
abbrev pub first_byte : ℕ → List ℕ → ℕ
first_byte start text = start + length (before_pieces text)

-- the report of the sequence of this number, whose text begins at a byte of the input, by what is asked for
abbrev pub sequence_report : Asked → ℕ → ℕ → List ℕ → SequenceReport
sequence_report asked number start text = reported (nothing number asked start) at_start (first_byte start text) (pieces text)

-- no piece of these passes a limit, of which the first begins at a byte of the input, nor does their end
abbrev pub PassNone : ℕ → List (List ℕ) → Type 0
PassNone at [] = limit_at at [] ≡ None
PassNone at (p ∷ ps) = (limit_at at (p ∷ ps) ≡ None) × PassNone (at + length p) ps

-- In the report of an input stands, of a text that is a stream without a fault and passes no limit, the report of its
-- sequence, and then what follows it.
abbrev pub StandsIn : Asked → Telling → Bool → List ℕ → Type 0
StandsIn asked x later text =
    let own = sequence_report asked x.totals.sequences x.start text in
    let at = first_byte x.start text in
    pieces_told x later (nothing x.totals.sequences asked x.start) at_start at (pieces text)
    ≡ then_comes own.lines (x.next own.kept (end_of at (pieces text)))
