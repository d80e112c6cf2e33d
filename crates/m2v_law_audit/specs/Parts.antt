-- Lines of a report taken apart: those that tell a breach, those that tell a failure of the buffer, and others.
use Rattle.std.specs.Prelude.{◌≡◌, ℕ, ◌+◌, ◌-◌, ◌^◌, min, Bool, true, not, nat_eq, List, [], ◌∷◌, ◌++◌, take, length, codes}
use Rattle.std.specs.List.{flat_map, list_all, AllByRecursion}
use Rattle.m2v_audit.specs.declared.records.Finding.{Finding}
use Rattle.m2v_audit.specs.declared.records.FailureRecord.{FailureRecord}
use Rattle.m2v_audit.specs.Lines.{breach_line, failure_line}
use Rattle.m2v_audit.specs.Report.{Report}

pub data Part : Type 0 where
  breach : Finding → Part
  failure : FailureRecord → Part
  other : List ℕ → Part

abbrev pub text_of : Part → List ℕ
text_of (breach f) = breach_line f
text_of (failure f) = failure_line f
text_of (other line) = line

-- a byte other than a newline
abbrev pub is_within : ℕ → Bool
is_within c = not (nat_eq c 10)

-- one line: a newline stands at its end, and none before
pub record IsLine (line : List ℕ) : Type 0 where
  pub front : List ℕ
  pub whole : line ≡ front ++ codes "\n"
  pub within : list_all is_within front ≡ true

-- one line that tells neither: its kind is another
abbrev pub IsPart : Part → Type 0
IsPart (breach f) = Unit {0}
IsPart (failure f) = Unit {0}
IsPart (other line) = IsLine line × (take 7 line ≡ codes "breach\t" → ⊥) × (take 8 line ≡ codes "failure\t" → ⊥)

abbrev pub breaches_in : List Part → List Finding
breaches_in [] = []
breaches_in (breach f ∷ ps) = f ∷ breaches_in ps
breaches_in (failure f ∷ ps) = breaches_in ps
breaches_in (other line ∷ ps) = breaches_in ps

abbrev pub failures_in : List Part → List FailureRecord
failures_in [] = []
failures_in (breach f ∷ ps) = failures_in ps
failures_in (failure f ∷ ps) = f ∷ failures_in ps
failures_in (other line ∷ ps) = failures_in ps

-- a text of lines tells these breaches and these failures, in turn, and no others
pub record Tells (text : List ℕ) (breaches : List Finding) (failures : List FailureRecord) : Type 0 where
  pub parts : List Part
  pub lines : text ≡ flat_map text_of parts
  pub each : AllByRecursion IsPart parts
  pub are_breaches : breaches_in parts ≡ breaches
  pub are_failures : failures_in parts ≡ failures

-- so many more; no input has as many of anything as 64 bits can't count
abbrev pub more_by : ℕ → ℕ → ℕ
more_by n more = min (n + more) (2 ^ 64 - 1)

-- from one report to another lines came that tell these breaches and failures, and they were counted
pub record Adds (old new : Report) (breaches : List Finding) (failures : List FailureRecord) : Type 0 where
  pub text : List ℕ
  pub grown : new.text ≡ old.text ++ text
  pub tells : Tells text breaches failures
  pub breached : new.tally.breaches ≡ more_by old.tally.breaches (length breaches)
  pub failed : new.tally.failures ≡ more_by old.tally.failures (length failures)
  pub sequence : new.sequence ≡ old.sequence
  pub pictures : new.pictures ≡ old.pictures
