-- The report of a whole input: a line for each thing that is found, sequence after sequence, and how it ends.
--
-- Text 0 is the input. Behind each text comes what follows its sequence (`text_after`), and behind a fault what is left of the
-- text from there on, so that each is a suffix of the input. Places are counted from the input's first byte. A fault ends its
-- sequence alone, a limit ends the report. How the report ends is told by the first of them.
use Rattle.std.specs.List.{starts_with}
use Rattle.std.specs.Option.{option_or}
use Rattle.std.specs.Prelude.{ℕ, zero, suc, ◌+◌, ◌-◌, ◌^◌, min, nat_lt, Bool, true, false, if◌then◌else◌, ◌*◌, ◌&&◌, nat_eq, List, [], ◌∷◌, ◌++◌, length, Option, Some, None, Ok, Err}
use Rattle.m2v_model.specs.declared.fault.FaultKind.{FaultKind}
use Rattle.m2v_model.specs.Units.{joined}
use Rattle.m2v_model.specs.Pieces.{pieces, before_pieces, Limit, too_long, too_large, limit, most_input}
use Rattle.m2v_model.specs.PieceNotes.{notes_of}
use Rattle.m2v_model.specs.ByPieces.{Between, Course, at_start, piece_read, end_read}
use Rattle.m2v_dec_piece.specs.Following.{text_after}
use Rattle.m2v_dec_piece.specs.Cutting.{code_of}
use Rattle.m2v_audit.specs.declared.words.LimitKind.{LimitKind}
use Rattle.m2v_audit.specs.declared.words.LimitKind.TheVariants as limits
use Rattle.m2v_audit.specs.declared.records.TotalRecord.{TotalRecord}
use Rattle.m2v_audit.specs.declared.outcome.Ending.{Ending}
use Rattle.m2v_audit.specs.declared.outcome.Ending.TheVariants as endings
use Rattle.m2v_audit.specs.declared.outcome.Outcome.{Outcome}
use Rattle.m2v_audit.specs.Lines.{audit_line, columns_lines, skipped_text, fault_line, limit_line, total_line}
use Rattle.m2v_strict.specs.m2v_check.m2v_decode.FaultWords.{fault_word}
use Rattle.m2v_audit.specs.Auditing.{Auditing, nothing, is_begun, cleared, after_piece, stopped, ended}
use Rattle.m2v_audit.specs.declared.asked.Asked.{Asked}
use Rattle.m2v_strict.specs.RuleSets.{name_of}

-- ---- what is counted of all sequences

abbrev pub none_counted : TotalRecord
none_counted = record { sequences = 0; pictures = 0; bytes = 0; breaches = 0; failures = 0; warnings = 0 }

-- more of something; no input has as many of anything as 64 bits can't count
abbrev pub sum_of : ℕ → ℕ → ℕ
sum_of n more = min (n + more) (2 ^ 64 - 1)

-- with a sequence more, which counts where it was begun
abbrev pub counted_with : TotalRecord → Auditing → TotalRecord
counted_with t a = record {
  sequences = sum_of t.sequences (if is_begun a then 1 else 0);
  pictures = sum_of t.pictures a.pictures;
  bytes = sum_of t.bytes a.bytes;
  breaches = sum_of t.breaches a.report.tally.breaches;
  failures = sum_of t.failures a.report.tally.failures;
  warnings = sum_of t.warnings a.report.tally.warnings;
}

-- what comes of no text
abbrev pub none_told : Outcome
none_told = record { totals = none_counted; ending = endings.Whole }

-- what is asked of the texts behind a sequence: the first header of all is that of the first sequence that has begun
abbrev pub asked_behind : Asked → Auditing → Asked
asked_behind asked a = record asked { first = option_or asked.first a.first }

-- ---- a report

-- its bytes, and what comes of it
pub record Audited : Type 0 where
  pub report : List ℕ
  pub outcome : Outcome

-- lines, and then what follows them
abbrev pub then_comes : List ℕ → Audited → Audited
then_comes lines x = record { report = lines ++ x.report; outcome = x.outcome }

-- the last line
abbrev pub totalled : TotalRecord → Ending → Audited
totalled t e = record { report = total_line t; outcome = record { totals = t; ending = e } }

-- ---- where it stops

-- the line that says why a sequence stops
unfoldable pub stopping_line : ℕ → Ending → List ℕ
stopping_line sequence endings.Whole = []
stopping_line sequence (endings.Fault f) = fault_line sequence f.place (fault_word f.kind)
stopping_line sequence (endings.Limit l) = limit_line sequence l

-- it, and what was counted till then; nothing is told of what waits
abbrev pub stopping_text : TotalRecord → Auditing → Ending → List ℕ
stopping_text t a e = stopping_line t.sequences e ++ (stopped a).report.text

-- the first of two endings that isn't that of a whole input
abbrev pub first_ending : Ending → Ending → Ending
first_ending endings.Whole e = e
first_ending (endings.Fault f) e = endings.Fault f
first_ending (endings.Limit l) e = endings.Limit l

-- the limit that is passed by the first of some pieces, which begins at a byte, or by the bytes before it
unfoldable pub limit_at : ℕ → List (List ℕ) → Option Limit
limit_at at [] = if nat_lt most_input at then Some too_long else None
limit_at at (p ∷ ps) = if nat_lt most_input at then Some too_long else limit at 0 p

-- ---- a text, piece by piece

-- What goes along with the pieces of a text: how the report ends by the texts before it, what is counted of their sequences,
-- and the byte where it begins. Then what comes behind its sequence, by what is kept of that and the byte where it ends; and
-- what comes behind a fault of it, by how the report ends then, what is kept, the byte where the next text begins, and what is
-- left of the pieces from there on.
pub record Telling : Type 0 where
  pub so_far : Ending
  pub totals : TotalRecord
  pub start : ℕ
  pub next : Auditing → ℕ → Audited
  pub onward : Ending → Auditing → ℕ → List ℕ → Audited

-- the sequence stops by a limit, and with it the report
unfoldable pub limit_kind : Limit → LimitKind
limit_kind too_long = limits.TooLong
limit_kind too_large = limits.TooLarge

abbrev pub by_limit : Telling → Auditing → Limit → Audited
by_limit x a l =
    let e = endings.Limit (limit_kind l) in
    then_comes (stopping_text x.totals a e) (totalled (counted_with x.totals (stopped a)) (first_ending x.so_far e))

abbrev pub unless_passed : Option Limit → Telling → Auditing → Audited → Audited
unless_passed None x a report = report
unless_passed (Some l) x a report = by_limit x a l

-- It stops by a fault and its place in bits, and the report goes on at a byte, where this is left of the pieces.
abbrev pub by_fault : Telling → Auditing → FaultKind × ℕ → ℕ → List ℕ → Audited
by_fault x a f at left =
    let e = endings.Fault (record { kind = f.0; place = f.1 }) in
    then_comes (stopping_text x.totals a e) (x.onward (first_ending x.so_far e) (stopped a) at left)

-- A fault is told at the first bit of a piece that begins with a sequence header (start code value B3), behind the first piece
-- of the sequence: another sequence begins there, and no end code stands before it.
abbrev pub begins_another : Auditing → ℕ → List ℕ → ℕ → Bool
begins_another a at p place = is_begun a && (nat_eq place (8 * at) && starts_with nat_eq p (code_of 0xB3))

-- The fault of a piece, which begins at a byte, with the pieces behind it. Where another sequence begins with the piece, the
-- report goes on with it, and else behind it.
abbrev pub by_fault_in : Bool → Telling → Auditing → ℕ → List ℕ → List (List ℕ) → FaultKind × ℕ → Audited
by_fault_in true x a at p ps f = by_fault x a f at (p ++ joined ps)
by_fault_in false x a at p ps f = by_fault x a f (at + length p) (joined ps)

-- a piece that begins at a byte was read: its lines come, and then what follows them
abbrev pub piece_told : Telling → Auditing → ℕ → List ℕ → List (List ℕ) → Course → (Auditing → Between → Audited) → Audited
piece_told x a at p ps (Ok read) next =
    let behind = after_piece a at p (notes_of at p read.0) in
    then_comes behind.report.text (next (cleared behind) read.1)
piece_told x a at p ps (Err f) next = by_fault_in (begins_another a at p f.1) x a at p ps f

-- Behind the last piece, which ends at a byte. A text that needs no sequence and has none is skipped, and the report ends.
abbrev pub end_told : Telling → Bool → Auditing → ℕ → Course → Audited
end_told x true a at read = then_comes (skipped_text x.totals.sequences x.start (at - x.start)) (totalled x.totals x.so_far)
end_told x false a at (Ok read) = then_comes (ended a).report.text (x.next (ended a) at)
end_told x false a at (Err f) = by_fault x a f at []

-- The pieces of a text from here on, the first at a byte, and the end of the text. `optional`: no piece came yet, and the
-- text needs no sequence.
unfoldable pub pieces_told : Telling → Bool → Auditing → Between → ℕ → List (List ℕ) → Audited
pieces_told x optional a b at [] = unless_passed (limit_at at []) x a (end_told x optional a at (end_read b at))
pieces_told x optional a b at (p ∷ ps) =
    unless_passed (limit_at at (p ∷ ps)) x a
    (piece_told x a at p ps (piece_read b (at + length p) p) (λ a' b'. pieces_told x false a' b' (at + length p) ps))

-- ---- text after text

-- The texts from here on, of which this is asked, the first at a byte, with how the report ends by those before. The first text
-- of the input needs a sequence, a later one doesn't. Each text is shorter than the one before, but for the empty one behind the
-- fault of an empty input. So a number is as much as is needed that is larger than the length of a later text, and by two than
-- that of the first.
unfoldable pub texts_told : ℕ → Asked → Bool → Ending → TotalRecord → ℕ → List ℕ → Audited
texts_told zero asked later so_far t start text = totalled t so_far
texts_told (suc n) asked later so_far t start text =
    pieces_told
    (record {
      so_far = so_far;
      totals = t;
      start = start;
      next = λ a end. texts_told n (asked_behind asked a) true so_far (counted_with t a) end (text_after text);
      onward = λ ending a at left. texts_told n (asked_behind asked a) true ending (counted_with t a) at (left ++ text_after text);
    })
    later (nothing t.sequences asked start) at_start (start + length (before_pieces text)) (pieces text)

-- ---- the whole

-- the report of an input, by what is asked for
abbrev pub audited : Asked → List ℕ → Audited
audited asked text = then_comes (audit_line (name_of asked.rules) ++ columns_lines) (texts_told (2 + length text) asked false endings.Whole none_counted 0 text)

abbrev pub audit_report : Asked → List ℕ → List ℕ
audit_report asked text = (audited asked text).report

-- what comes of it
abbrev pub audit_outcome : Asked → List ℕ → Outcome
audit_outcome asked text = (audited asked text).outcome
