-- The breaches of the rules 1 to 15 that the report of a sequence tells are those that the verifier's rules define: each, as often
-- as it comes.
use Rattle.std.specs.Prelude.{◌≡◌, ℕ, Bool, nat_le, if◌then◌else◌, List, map, length, count_by}
use Rattle.m2v_model.specs.Streams.{Sofar}
use Rattle.m2v_model.specs.Lawful.{Breach, Breaches, breach, breaches_of}
use Rattle.m2v_audit.specs.declared.records.Finding.{Finding}
use Rattle.m2v_audit.specs.declared.records.FailureRecord.{FailureRecord}
use Rattle.m2v_audit.specs.declared.asked.Asked.{Asked}
use Rattle.m2v_law_audit.specs.Sequences.{SequenceReport, sequence_report}
use Rattle.m2v_law_audit.specs.Parts.{Tells, more_by}
use Rattle.m2v_law_audit.specs.Found.{judged_in}

-- a finding as the verifier has it, to whom sequence headers (rules 1 to 7) count as picture 0
abbrev pub as_judged : Finding → Breach
as_judged f = breach f.rule (if nat_le f.rule 7 then 0 else f.picture) f.have f.need

-- two lists have the same breaches, each as often, in any order: whatever is asked of a breach, it holds of as many
abbrev pub AreSame : Breaches → Breaches → Type 0
AreSame xs ys = (asks : Breach → Bool) → count_by asks xs ≡ count_by asks ys

-- a report tells these breaches: each as often as it comes, and no others of a rule that the verifier looks at; and it counts all
-- that it tells
pub record TellsBreaches (r : SequenceReport) (bs : Breaches) : Type 0 where
  pub findings : List Finding
  pub failures : List FailureRecord
  pub tells : Tells r.lines findings failures
  pub same : AreSame (map as_judged (judged_in findings)) bs
  pub counted : r.kept.report.tally.breaches ≡ more_by 0 (length findings)

-- those of a stream, whichever sequence of the input it is
abbrev pub TellsAll : List ℕ → Sofar → Type 0
TellsAll text tree = (asked : Asked) (number start : ℕ) → TellsBreaches (sequence_report asked number start text) (breaches_of tree)
