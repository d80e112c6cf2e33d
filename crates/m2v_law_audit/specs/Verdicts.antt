-- What a report says in which no breach of the verifier's rules and no failure is told: at constant rate, that the verifier calls
-- the stream lawful.
use Rattle.std.specs.Prelude.{◌≡◌, ℕ, ◌↔◌, false, List, []}
use Rattle.m2v_model.specs.Streams.{Sofar}
use Rattle.m2v_model.specs.Lawful.{is_variable}
use Rattle.m2v_audit.specs.m2v_check.declared.verdict.Figures.{Figures}
use Rattle.m2v_audit.specs.m2v_check.Meaning.{IsLawful}
use Rattle.m2v_audit.specs.declared.asked.Asked.{Asked}
use Rattle.m2v_law_audit.specs.Sequences.{SequenceReport, sequence_report}
use Rattle.m2v_law_audit.specs.Found.{findings_of, judged_in}
use Rattle.m2v_law_audit.specs.Accounts.{numbered_in}

-- the report of a sequence tells no breach of the rules that the verifier looks at, and counts no failure
abbrev pub FindsNothing : Asked → ℕ → ℕ → List ℕ → Type 0
FindsNothing asked number start text =
    (judged_in (findings_of asked number start text) ≡ []) × ((sequence_report asked number start text).kept.report.tally.failures ≡ 0)

-- it finds nothing of these, and the rate doesn't vary, exactly where the stream is lawful
abbrev pub FindsNothingWhereLawful : List ℕ → Sofar → Type 0
FindsNothingWhereLawful text tree =
    (asked : Asked) (number start : ℕ) →
    (FindsNothing asked number start text × (is_variable (numbered_in tree) ≡ false)) ↔ ((f : Figures) × IsLawful text f)

-- a report that counts no breach of any rule and no failure
abbrev pub IsClean : SequenceReport → Type 0
IsClean r = (r.kept.report.tally.breaches ≡ 0) × (r.kept.report.tally.failures ≡ 0)

-- so where the report of a stream at constant rate is clean, the stream is lawful
abbrev pub LawfulWhereClean : List ℕ → Sofar → Type 0
LawfulWhereClean text tree =
    (asked : Asked) (number start : ℕ) →
    IsClean (sequence_report asked number start text) → is_variable (numbered_in tree) ≡ false → (f : Figures) × IsLawful text f
