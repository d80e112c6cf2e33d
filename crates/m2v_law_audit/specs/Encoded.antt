-- What a report finds of the encoder's stream, and of that of the flat profile, under the rules that every stream has to keep.
use Rattle.std.specs.Prelude.{◌≡◌, ℕ, ◌*◌, ◌↔◌, List, []}
use Rattle.std.specs.List.{AllByRecursion}
use Rattle.m2v_set.specs.declared.settings.Settings.{Settings}
use Rattle.m2v_model.specs.declared.state.Sequence.{Sequence}
use Rattle.m2v_model.specs.States.{width_of, height_of, columns_of, rows_of}
use Rattle.m2v_flat.specs.declared.settings.FlatSettings.{FlatSettings}
use Rattle.m2v_flat.specs.Flat.{Flat}
use Rattle.m2v_flat.specs.Tree.{sequence_of}
use Rattle.m2v_audit.specs.m2v_strict.declared.rule_set.RuleSet.TheVariants as sets
use Rattle.m2v_audit.specs.m2v_strict.SequenceRules.{coded_luma_rule}
use Rattle.m2v_audit.specs.declared.asked.Asked.{Asked}
use Rattle.m2v_audit.specs.declared.records.Finding.{Finding}
use Rattle.m2v_law_shown.specs.m2v_enc_stream.Streams.{Coded}
use Rattle.m2v_law_shown.specs.m2v_enc_stream.Trees.{sequence_by}
use Rattle.m2v_law_audit.specs.Sequences.{sequence_report}
use Rattle.m2v_law_audit.specs.Parts.{Tells}
use Rattle.m2v_law_audit.specs.Found.{findings_of}
use Rattle.m2v_law_audit.specs.Verdicts.{IsClean}

-- the whole macroblocks of a second are no more than the level has luma samples for (rule 16), by a sequence header
abbrev pub KeepsCodedLuma : Sequence → Type 0
KeepsCodedLuma s = coded_luma_rule s ≡ []

-- its frames are whole macroblocks, those of an interlaced sequence in pairs of rows
pub record IsWhole (s : Sequence) : Type 0 where
  pub width : 16 * columns_of s ≡ width_of s
  pub height : 16 * rows_of s ≡ height_of s

-- a breach of that rule
abbrev pub IsOfCodedLuma : Finding → Type 0
IsOfCodedLuma f = f.rule ≡ 16

-- The report of a text tells no failure of the buffer, and counts none. Each breach that it tells is of rule 16; it tells and counts
-- none exactly where a sequence header keeps to that rule.
pub record IsFoundClean (s : Sequence) (asked : Asked) (number start : ℕ) (text : List ℕ) : Type 0 where
  pub breaches : AllByRecursion IsOfCodedLuma (findings_of asked number start text)
  pub none : (findings_of asked number start text ≡ []) ↔ KeepsCodedLuma s
  pub tells : Tells (sequence_report asked number start text).lines (findings_of asked number start text) []
  pub failures : (sequence_report asked number start text).kept.report.tally.failures ≡ 0
  pub clean : IsClean (sequence_report asked number start text) ↔ KeepsCodedLuma s

-- so of the stream of raw frames by its sequence header, whichever sequence of the input it is and wherever it stands
abbrev pub FoundClean : Settings → List (List ℕ) → Type 0
FoundClean s frames =
    (asked : Asked) (number start : ℕ) → asked.rules ≡ sets.Main
    → IsFoundClean (sequence_by s) asked number start (Coded s frames)

-- so of the stream of the flat profile
abbrev pub FlatFoundClean : FlatSettings → List (List ℕ) → Type 0
FlatFoundClean s frames =
    (asked : Asked) (number start : ℕ) → asked.rules ≡ sets.Main
    → IsFoundClean (sequence_of s) asked number start (Flat s frames)
