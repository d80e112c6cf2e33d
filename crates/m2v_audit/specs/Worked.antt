-- Worked records and a worked report, whose lines are written out by hand in the laws on them.
use Rattle.std.specs.Prelude.{true, false, [], Some, None}
use Rattle.m2v_vbv.specs.declared.removed.Removed.{Removed}
use Rattle.m2v_vbv.specs.BufferWorked.{under}
use Rattle.m2v_strict.specs.declared.element.Element.TheVariants as elements
use Rattle.m2v_strict.specs.Worked.{extension}
use Rattle.m2v_audit.specs.declared.account.Due.{Due}
use Rattle.m2v_audit.specs.declared.words.RateKind.TheVariants as rates
use Rattle.m2v_audit.specs.declared.words.FailureKind.TheVariants as failures
use Rattle.m2v_audit.specs.declared.records.SequenceRecord.{SequenceRecord}
use Rattle.m2v_audit.specs.declared.records.GroupRecord.{GroupRecord}
use Rattle.m2v_audit.specs.declared.records.Finding.{Finding}
use Rattle.m2v_audit.specs.declared.records.FailureRecord.{FailureRecord}
use Rattle.m2v_audit.specs.declared.records.EndRecord.{EndRecord}
use Rattle.m2v_audit.specs.declared.report.Broken.{Broken}
use Rattle.m2v_audit.specs.declared.report.Rate.{Rate}
use Rattle.m2v_audit.specs.declared.report.SequenceTotals.{SequenceTotals}
use Rattle.m2v_audit.specs.AccountWorked.{due}
use Rattle.m2v_audit.specs.HeaderRecords.{sequence_record, group_record}
use Rattle.m2v_audit.specs.Report.{Report, no_tally, finding_of, end_of, with_finding, with_removal, with_end}
use Rattle.m2v_audit.specs.WorkedPiece.{time_of_group}
use Rattle.m2v_audit.specs.WorkedAuditing.{sequence_info}

-- 720 x 576 at 25 Hz, Main Profile at Main Level, interlaced, of low delay, at 6 Mbit/s at most
abbrev pub television : SequenceRecord
television =
    sequence_record 0 32 (record { info = sequence_info; extension = record extension { low_delay = true } }) rates.Variable

-- the third group of a sequence, with the time 01:02:03 and four pictures, closed
abbrev pub third : GroupRecord
third = group_record 0 2 976 24 time_of_group

-- picture 3 breaks rule 11
abbrev pub misplaced : Broken
misplaced = record { picture = 3; bit = 12345; rule = 11; element = None; have = 7; need = 5 }

-- a width above that of the level
abbrev pub too_wide : Finding
too_wide = finding_of 0 (record misplaced { rule = 2; have = 721; need = 720 })

-- a group whose hour is none
abbrev pub no_hour : Finding
no_hour = record too_wide { rule = 24; element = Some elements.TimeCodeHours; have = 24; need = 23 }

-- a height of 1152 lines
abbrev pub too_high : Finding
too_high = record too_wide { picture = 0; bit = 96; rule = 52; element = Some elements.Height; have = 1152; need = 1088 }

-- a picture for which the decoder waits
abbrev pub too_late : FailureRecord
too_late = record {
  sequence = 1;
  picture = 10;
  bit = 80000;
  kind = failures.Under;
  time = 288000;
  have = 1800;
  need = 3600;
  wait = 12;
}

-- a report of sequence 2, which tells each picture
abbrev pub begun : Report
begun = record { text = []; tally = no_tally; sequence = 2; pictures = true }

-- it has ten pictures, and breaks no rule
abbrev pub ended : EndRecord
ended =
    let counted : Report = record begun { tally = record no_tally { low = Some 4; high = 700; delays = 1; time = 259200 } } in
    end_of counted (record { pictures = 10; frames = 9; groups = 1; bytes = 64000 })

-- in the worked report, at constant rate, picture 4 asks for a bit that isn't there when it is due, and its delay is a tick off;
-- its group header follows another sequence's pictures
abbrev pub cut_off : Broken
cut_off = record misplaced { picture = 4; bit = 19000; rule = 56; element = Some elements.BrokenLink; have = 1; need = 0 }

abbrev pub steady : Rate
steady = record { constant = true; low_delay = false; size = 3303014400 }

abbrev pub lacking : Due
lacking = record (due 4 20000 6) { code_bits = 4; units = 28800; delay = 700 }

abbrev pub removed_late : Removed
removed_late = under 115200 5 6 12 701

abbrev pub totals : SequenceTotals
totals = record { pictures = 5; frames = 4; groups = 1; bytes = 64000 }

abbrev pub worked_report : Report
worked_report = with_end (with_removal (with_finding (with_finding begun misplaced) cut_off) steady lacking removed_late) totals
