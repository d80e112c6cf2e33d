-- The report of a sequence that stands further on is that of its text by itself, moved on.
use Rattle.std.proofs.Common.{◌≡◌, ℕ, ◌+◌, ◌-◌, ◌*◌, List, [], ◌∷◌, ◌++◌, length, Ok, Err, Option, Some, None, refl, sym, ap, subst, ◌∙◌, arith}
use Rattle.std.specs.Prelude.{map}
use Rattle.std.specs.List.{flat_map}
use Rattle.std.specs.Option.{option_map}
use Rattle.std.proofs.lemmas.List.{map-append}
use Rattle.std.proofs.lemmas.Grind.{flat_map-append}
use Rattle.m2v_model.specs.declared.state.Sequence.{Sequence}
use Rattle.m2v_model.specs.declared.notes.PictureNote.{PictureNote}
use Rattle.m2v_model.specs.Units.{cut}
use Rattle.m2v_model.specs.Pictures.{Pictures, Events, pictures_in}
use Rattle.m2v_model.specs.Pieces.{zeros_last, pieces, before_pieces}
use Rattle.m2v_model.specs.PieceNotes.{PieceNotes, first_note, notes_of}
use Rattle.m2v_model.specs.Buffering.{code_bits}
use Rattle.m2v_model.specs.ByPieces.{Between, Course, at_start, units_read}
use Rattle.m2v_model.proofs.PieceLaws.{placed, piece_is}
use Rattle.m2v_audit.specs.declared.auditing.Auditing.{Auditing}
use Rattle.m2v_audit.specs.declared.report.Rate.{Rate}
use Rattle.m2v_audit.specs.Account.{Account, ended as all_left}
use Rattle.m2v_audit.specs.Auditing.{nothing, leading, after_piece, totals_of, with_left, finished, ended_by, ended, cleared, is_begun}
use Rattle.m2v_audit.specs.Places.{told_at_close}
use Rattle.m2v_audit.specs.Report.{Report}
use Rattle.m2v_audit.specs.declared.asked.Asked.{Asked}
use Rattle.m2v_law_audit.specs.Sequences.{SequenceReport, behind, at_end, by_piece, reported, sequence_report}
use Rattle.m2v_law_audit.specs.Moved.{Record, record_text, moved, CountAlike, IsMoved}
use Rattle.m2v_law_audit.proofs.MovedReports.{Together, last_remarks_come, shown_come, misplaced_told, removals_told, end_comes, note_on}
use Rattle.m2v_law_audit.proofs.MovedKept.{places_on, account_on, close_told, left_same}
use Rattle.m2v_law_audit.proofs.MovedOthers.{display_both, others_both}
use Rattle.m2v_law_audit.proofs.MovedSteps.{Moves, step_both, beside, longer_both, notes_on, begun_both, front_both, AreFurther, ending_both, settled_both}

-- ---- a piece

piece_both : {n k : ℕ} {a b : Auditing} (place : ℕ) (piece : List ℕ) (notes : PieceNotes) → AreFurther k notes.picture → Moves n k a b
    → Moves n k (after_piece a place piece notes) (after_piece b (place + k) piece (notes_on k notes))
unfolding after_piece
piece_both place piece notes e m =
    settled_both (ending_both place piece (others_both notes.picture place (zeros_last piece) piece e
    (display_both place piece (front_both notes.sequences place piece (begun_both place notes (longer_both (length piece) m))))))

-- what is noted of a piece so many bytes further on
place_further : (k place bits : ℕ) → 8 * (place + k) + bits ≡ 8 * place + bits + 8 * k
place_further k place bits = omega arith

note_further : (k code_end : ℕ) (ps : Pictures) → first_note (code_end + 8 * k) ps ≡ option_map (note_on k) (first_note code_end ps)
note_further k code_end [] = refl
note_further k code_end (p ∷ ps) = refl

notes_further : (k place : ℕ) (piece : List ℕ) (es : Events) → notes_of (place + k) piece es ≡ notes_on k (notes_of place piece es)
unfolding notes_of
notes_further k place piece es =
    ap (λ (p : Option PictureNote). record (notes_of place piece es) { picture = p })
    (ap (λ (bits : ℕ). first_note bits (pictures_in es)) (place_further k place (code_bits piece)) ∙ note_further k (8 * place + code_bits piece) (pictures_in es))

-- a start code has 32 bits
begins_further : (k at bits : ℕ) → at + (bits + 32) + 8 * k - 32 ≡ at + (bits + 32) - 32 + 8 * k
begins_further k at bits = omega arith

are_further : (k place : ℕ) (piece : List ℕ) (es : Events) → AreFurther k (notes_of place piece es).picture
unfolding notes_of
are_further k place piece es = by (pictures_in es)
  where
    by : (ps : Pictures) → AreFurther k (first_note (8 * place + code_bits piece) ps)
    by [] = tt
    by (p ∷ ps) = begins_further k (8 * place) _

read_both : {n k : ℕ} {a b : Auditing} (place : ℕ) (piece : List ℕ) (es : Events) → Moves n k a b
    → Moves n k (after_piece a place piece (notes_of place piece es)) (after_piece b (place + k) piece (notes_of (place + k) piece es))
read_both {n} {k} {a} {b} place piece es m =
    subst (λ (x : PieceNotes). Moves n k (after_piece a place piece (notes_of place piece es)) (after_piece b (place + k) piece x)) (sym (notes_further k place piece es))
    (piece_both place piece (notes_of place piece es) (are_further k place piece es) m)

cleared_both : {n k : ℕ} {a b : Auditing} → Moves n k a b → Moves n k (cleared a) (cleared b)
cleared_both {n} {k} {a} m = step_both (cleared a) (λ x. cleared x) m (λ r t. record {
  report = record { records = []; own = refl; other = refl; tally = t.tally; sequence = t.sequence; pictures = t.pictures };
  rest = refl;
})

-- ---- the end

left_both : {n k : ℕ} {r s : Report} (rate : Rate) (x : Option Account) → Together n k r s → Together n k (with_left r rate x) (with_left s rate (option_map (account_on k) x))
left_both rate None t = t
left_both {n} {k} rate (Some x) t = removals_told rate (all_left x) (all_left (account_on k x)) (left_same k x) t

finished_both : {n k : ℕ} (a : Auditing) (r : Report) → Together n k a.report r → Moves n k (finished a) (finished (beside k r a))
finished_both {n} {k} a r t = record {
  report =
      end_comes (totals_of a)
      (last_remarks_come (leading a) a.pictures a.last
      (left_both a.rate a.account
      (shown_come a.parity.last a.parity.anchor
      (misplaced_told (told_at_close a.places) (told_at_close (places_on k a.places)) (close_told k a.places) t))));
  rest = refl;
}

ended_with : {n k : ℕ} (a : Auditing) (r : Report) (first : Option Sequence) → Together n k a.report r → Moves n k (ended_by first a) (ended_by first (beside k r a))
ended_with a r None t = record { report = t; rest = refl }
ended_with a r (Some first) t = finished_both a r t

ended_both : {n k : ℕ} {a b : Auditing} → Moves n k a b → Moves n k (ended a) (ended b)
unfolding ended
ended_both {n} {k} {a} m = step_both (ended_by a.first a) (λ x. ended_by x.first x) m (λ r t. ended_with a r a.first t)

-- ---- pieces

-- lines of two reports, of which one has the records of the other, moved on; and what is kept behind them
pub record BothTell (n k : ℕ) (x y : SequenceReport) : Type 0 where
  pub records : List Record
  pub own : x.lines ≡ flat_map record_text records
  pub other : y.lines ≡ flat_map record_text (map (moved n k) records)
  pub kept : Moves n k x.kept y.kept

end_tells : {n k : ℕ} {a b : Auditing} → Moves n k a b → BothTell n k (at_end a) (at_end b)
end_tells m =
    let last = ended_both m in
    record { records = last.report.records; own = last.report.own; other = last.report.other; kept = last }

behind_tells : {n k : ℕ} {r s : Report} {x y : SequenceReport} → Together n k r s → BothTell n k x y → BothTell n k (behind r.text x) (behind s.text y)
behind_tells {n} {k} {r} {s} {x} {y} t h = record {
  records = t.records ++ h.records;
  own = rw (t.own, h.own) (sym (flat_map-append record_text t.records h.records));
  other =
      rw (t.other, h.other) (sym (flat_map-append record_text (map (moved n k) t.records) (map (moved n k) h.records)))
      ∙ ap (λ (rs : List Record). flat_map record_text rs) (sym (map-append (moved n k) t.records h.records));
  kept = h.kept;
}

-- from a byte on
abbrev Onward : ℕ → ℕ → ℕ → ℕ → List (List ℕ) → Type 0
Onward n k at to ps = (a b : Auditing) (m : Between) → Moves n k a b → BothTell n k (reported a m at ps) (reported b m to ps)

-- what is read of a piece is the same wherever it ends, but for the place of its fault
one_tells : {n k : ℕ} {a b : Auditing} (at next end to : ℕ) (p : List ℕ) (ps : List (List ℕ)) (read : Course) → Moves n k a b → Onward n k next end ps
    → BothTell n k (by_piece a at p (placed next read) (λ x m. reported x m next ps)) (by_piece b (at + k) p (placed to read) (λ x m. reported x m end ps))
one_tells {n} {k} {a} {b} at next end to p ps (Ok x) m rest =
    let both = read_both at p x.0 m in
    behind_tells both.report (rest (cleared (after_piece a at p (notes_of at p x.0))) (cleared (after_piece b (at + k) p (notes_of (at + k) p x.0))) x.1 (cleared_both both))
one_tells at next end to p ps (Err f) m rest = end_tells m

next_place : (k at bytes : ℕ) → at + k + bytes ≡ at + bytes + k
next_place k at bytes = omega arith

all_tell : {n k : ℕ} (at : ℕ) (ps : List (List ℕ)) → Onward n k at (at + k) ps
unfolding reported
all_tell at [] a b m h = end_tells h
all_tell {n} {k} at (p ∷ ps) a b m h =
    let next = at + length p in
    let read = units_read m (cut 0 p).1 in
    let there : next + k ≡ at + k + length p = sym (next_place k at (length p)) in
    let rest : Onward n k next (at + k + length p) ps = subst (λ (to : ℕ). Onward n k next to ps) there (all_tell next ps) in
    subst (λ (r : Course). BothTell n k (by_piece a at p r (λ x y. reported x y next ps)) (reported b m (at + k) (p ∷ ps))) (sym (piece_is m next p))
    (subst (λ (r : Course). BothTell n k (by_piece a at p (placed next read) (λ x y. reported x y next ps)) (by_piece b (at + k) p r (λ x y. reported x y (at + k + length p) ps))) (sym (piece_is m (at + k + length p) p))
    (one_tells at next (at + k + length p) (at + k + length p) p ps read h rest))

-- ---- a whole sequence

from_none : (m : ℕ) → m ≡ 0 + m
from_none m = omega arith

begin_moves : (asked : Asked) (number start : ℕ) → Moves number start (nothing 0 asked 0) (nothing number asked start)
begin_moves asked number start = record {
  report = record { records = []; own = refl; other = refl; tally = refl; sequence = from_none number; pictures = refl };
  rest = ap (λ (byte : ℕ). record (nothing number asked start) { start = byte }) (from_none start);
}

from_start : (start before : ℕ) → 0 + before + start ≡ start + before
from_start start before = omega arith

pub report_moves : (asked : Asked) (number start : ℕ) (text : List ℕ) → BothTell number start (sequence_report asked 0 0 text) (sequence_report asked number start text)
report_moves asked number start text =
    let before = length (before_pieces text) in
    subst (λ (at : ℕ). BothTell number start (sequence_report asked 0 0 text) (reported (nothing number asked start) at_start at (pieces text))) (from_start start before)
    (all_tell (0 + before) (pieces text) (nothing 0 asked 0) (nothing number asked start) at_start (begin_moves asked number start))

-- what is counted is the same
alike : {n k : ℕ} (a b : Auditing) → Moves n k a b → CountAlike a b
alike a b m = record {
  tally = m.report.tally;
  pictures = ap (λ (x : Auditing). x.pictures) m.rest;
  groups = ap (λ (x : Auditing). x.groups) m.rest;
  frames = ap (λ (x : Auditing). x.frames) m.rest;
  bytes = ap (λ (x : Auditing). x.bytes) m.rest;
  begun = ap (λ (x : Auditing). is_begun x) m.rest;
}

pub is_moved : (asked : Asked) (number start : ℕ) (text : List ℕ) → IsMoved asked number start text
is_moved asked number start text =
    let h = report_moves asked number start text in
    record { records = h.records; alone = h.own; further = h.other; counted = alike _ _ h.kept }
