-- The report of a sequence as records, and the same records of a sequence that stands further on: behind other sequences, and at
-- another place of the input.
use Rattle.std.specs.Prelude.{◌≡◌, ℕ, suc, ◌+◌, ◌*◌, true, List, ◌++◌, length, map}
use Rattle.std.specs.List.{flat_map}
use Rattle.m2v_model.specs.Pieces.{pieces}
use Rattle.m2v_model.specs.ByPieces.{end_of}
use Rattle.m2v_audit.specs.m2v_check.m2v_dec_piece.Following.{text_after}
use Rattle.m2v_audit.specs.declared.auditing.Auditing.{Auditing}
use Rattle.m2v_audit.specs.declared.records.SequenceRecord.{SequenceRecord}
use Rattle.m2v_audit.specs.declared.records.GroupRecord.{GroupRecord}
use Rattle.m2v_audit.specs.declared.records.PictureRecord.{PictureRecord}
use Rattle.m2v_audit.specs.declared.records.HeldRecord.{HeldRecord}
use Rattle.m2v_audit.specs.declared.records.Finding.{Finding}
use Rattle.m2v_audit.specs.declared.records.FailureRecord.{FailureRecord}
use Rattle.m2v_audit.specs.declared.records.CountRecord.{CountRecord}
use Rattle.m2v_audit.specs.declared.records.EndRecord.{EndRecord}
use Rattle.m2v_audit.specs.declared.records.TotalRecord.{TotalRecord}
use Rattle.m2v_audit.specs.declared.outcome.Ending.{Ending}
use Rattle.m2v_audit.specs.declared.outcome.Ending.TheVariants as endings
use Rattle.m2v_audit.specs.Auditing.{is_begun}
use Rattle.m2v_audit.specs.Audited.{asked_behind, then_comes, none_counted, counted_with, texts_told, audited}
use Rattle.m2v_audit.specs.Lines.{audit_line, columns_lines, skipped_line, sequence_line, group_line, picture_line, held_line, breach_line, warning_line, failure_line, count_line, end_line}
use Rattle.m2v_audit.specs.declared.asked.Asked.{Asked}
use Rattle.m2v_audit.specs.m2v_strict.RuleSets.{name_of}
use Rattle.m2v_law_audit.specs.Sequences.{sequence_report, first_byte}

-- a record of a sequence's report
pub data Record : Type 0 where
  of_skipped : (sequence byte bytes : ℕ) → Record
  of_sequence : SequenceRecord → Record
  of_group : GroupRecord → Record
  of_picture : PictureRecord → Record
  of_held : HeldRecord → Record
  of_breach : Finding → Record
  of_warning : Finding → Record
  of_failure : FailureRecord → Record
  of_count : CountRecord → Record
  of_end : EndRecord → Record

-- its line
abbrev pub record_text : Record → List ℕ
record_text (of_skipped sequence byte bytes) = skipped_line sequence byte bytes
record_text (of_sequence s) = sequence_line s
record_text (of_group g) = group_line g
record_text (of_picture p) = picture_line p
record_text (of_held h) = held_line h
record_text (of_breach f) = breach_line f
record_text (of_warning f) = warning_line f
record_text (of_failure f) = failure_line f
record_text (of_count c) = count_line c
record_text (of_end e) = end_line e

-- the same record so many sequences and so many bytes further on
abbrev pub moved : ℕ → ℕ → Record → Record
moved sequences bytes (of_skipped sequence byte skipped) = of_skipped (sequence + sequences) (byte + bytes) skipped
moved sequences bytes (of_sequence s) = of_sequence (record s { sequence = s.sequence + sequences; bit = s.bit + 8 * bytes })
moved sequences bytes (of_group g) = of_group (record g { sequence = g.sequence + sequences; bit = g.bit + 8 * bytes })
moved sequences bytes (of_picture p) = of_picture (record p { sequence = p.sequence + sequences; bit = p.bit + 8 * bytes })
moved sequences bytes (of_held h) = of_held (record h { sequence = h.sequence + sequences })
moved sequences bytes (of_breach f) = of_breach (record f { sequence = f.sequence + sequences; bit = f.bit + 8 * bytes })
moved sequences bytes (of_warning f) = of_warning (record f { sequence = f.sequence + sequences; bit = f.bit + 8 * bytes })
moved sequences bytes (of_failure f) = of_failure (record f { sequence = f.sequence + sequences; bit = f.bit + 8 * bytes })
moved sequences bytes (of_count c) = of_count (record c { sequence = c.sequence + sequences })
moved sequences bytes (of_end e) = of_end (record e { sequence = e.sequence + sequences })

-- of two sequences the same is counted
pub record CountAlike (a b : Auditing) : Type 0 where
  pub tally : b.report.tally ≡ a.report.tally
  pub pictures : b.pictures ≡ a.pictures
  pub groups : b.groups ≡ a.groups
  pub frames : b.frames ≡ a.frames
  pub bytes : b.bytes ≡ a.bytes
  pub begun : is_begun b ≡ is_begun a

-- The report of the sequence of this number, whose text begins at a byte of the input, has the records of that text's report by
-- itself, so many sequences and so many bytes further on; and it counts the same.
pub record IsMoved (asked : Asked) (number start : ℕ) (text : List ℕ) : Type 0 where
  pub records : List Record
  pub alone : (sequence_report asked 0 0 text).lines ≡ flat_map record_text records
  pub further : (sequence_report asked number start text).lines ≡ flat_map record_text (map (moved number start) records)
  pub counted : CountAlike (sequence_report asked 0 0 text).kept (sequence_report asked number start text).kept

-- ---- text after text

-- Behind a report's first lines stands that of the first text's sequence, and then those of the texts that follow it, of which
-- is asked what is asked behind this sequence.
abbrev pub BeginsWith : Asked → List ℕ → Type 0
BeginsWith asked text =
    let own = sequence_report asked 0 0 text in
    let end = end_of (first_byte 0 text) (pieces text) in
    audited asked text
    ≡ then_comes ((audit_line (name_of asked.rules) ++ columns_lines) ++ own.lines)
    (texts_told (1 + length text) (asked_behind asked own.kept) true endings.Whole (counted_with none_counted own.kept) end (text_after text))

-- The same of a later text, which begins at a byte of the input, and of no more than a number of texts behind it, however the
-- report ends by the texts before.
abbrev pub GoesOnWith : ℕ → Asked → TotalRecord → ℕ → List ℕ → Type 0
GoesOnWith n asked t start text =
    let own = sequence_report asked t.sequences start text in
    let end = end_of (first_byte start text) (pieces text) in
    (so_far : Ending)
    → texts_told (suc n) asked true so_far t start text
    ≡ then_comes own.lines (texts_told n (asked_behind asked own.kept) true so_far (counted_with t own.kept) end (text_after text))
