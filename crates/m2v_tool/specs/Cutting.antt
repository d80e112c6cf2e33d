-- What `cut` does: its words, which outcome comes, what stands in input and output then, and what is answered to a text.
use Rattle.std.specs.Prelude.{ℕ, ◌≡◌, ◌≤◌, List, [], ◌∷◌, Option, Result, Ok, Err, codes, option_map}
use Rattle.clap.specs.Walk.{Row, Text}
use Rattle.clap.specs.Simple.{App}
use Rattle.m2v_port.specs.Ends.{Change, Tells}
use Rattle.m2v_port.specs.Port.{Grows}
use Rattle.m2v_set.specs.declared.unfit.Unfit.{Unfit}
use Rattle.m2v_cut.specs.m2v_decode.Answers.{OfText}
use Rattle.m2v_cut.specs.m2v_law_group.Groups.{cut_text}
use Rattle.m2v_cut.specs.m2v_law_group.Chosen.{CutDecodes}
use Rattle.m2v_cut.specs.declared.answer.CutSummary.{CutSummary}
use Rattle.m2v_cut.specs.declared.answer.CutError.{CutError}
use Rattle.m2v_cut.specs.Answers.{IsCutOut, Fails, answer_to}
use Rattle.m2v_tool.specs.declared.cut.CutWords.{CutWords}
use Rattle.m2v_tool.specs.declared.cut.CutOutcome.{CutOutcome}
use Rattle.m2v_tool.specs.declared.cut.CutOutcome.TheVariants.{Done, NoneAsked, Stopped}
use Rattle.m2v_tool.specs.Simple.{simple, number_word, required, taken}
use Rattle.m2v_tool.specs.Endings.{Ending, with_figures, Told, Success, line_of, unfit_ending}
use Rattle.m2v_tool.specs.Stops.{cutting_stopped}
pub use Rattle.m2v_tool.specs.Stops.{no_group, not_cuttable}
use Rattle.m2v_tool.specs.Runs.{Run, Yields, RefusedBy, NoneFailed, Succeeds}

-- ---- words

-- the words behind `cut`: FROM COUNT
abbrev pub cut_app : App
cut_app = simple (codes "cut") (number_word (codes "FROM") ∷ number_word (codes "COUNT") ∷ [])

-- their numbers
unfoldable pub cut_of : List Row → CutWords
cut_of rows = record { from = required (codes "FROM") rows; count = required (codes "COUNT") rows }

-- what they mean, where `clap` takes them
unfoldable pub cut_meant : List Text → Option CutWords
cut_meant words = option_map cut_of (taken cut_app words)

-- ---- outcomes

-- rule 9: at least one group is asked for
abbrev pub none_asked : Unfit
none_asked = record { rule = 9; have = 0; need = 1 }

-- When each outcome of `cut` comes, and what stands then.
unfoldable pub CutComes : CutWords → Change → Change → CutOutcome → Type 0
CutComes w left held (Done s) =
    (1 ≤ w.count) × OfText left (λ text. IsCutOut text w.from w.count held s)
CutComes w left held NoneAsked = (w.count ≡ 0) × left.Unchanged × held.Unchanged
CutComes w left held (Stopped e) = (1 ≤ w.count) × Fails w.from w.count left held e

-- ---- statuses and lines

-- of a cut with these numbers
unfoldable pub cut_out_ending : CutSummary → Ending
cut_out_ending s = with_figures 0 ((codes "groups ", s.groups) ∷ (codes " bytes ", s.bytes) ∷ [])

-- of each outcome
unfoldable pub cut_ending : CutOutcome → Ending
cut_ending (Done s) = cut_out_ending s
cut_ending NoneAsked = unfit_ending none_asked
cut_ending (Stopped e) = cutting_stopped e

-- ---- answers

-- What `cut` answers to a text by its one answer: status 0 with the cut on output and its line on report, or 8 where the
-- report's count rose then; or the status and the line of the refusal.
pub data CutAnswer (r : Run) (w : CutWords) (text : List ℕ) : Result CutSummary CutError → Type 0 where
  ok : {s : CutSummary} → r.status ≡ 0 → Grows r.output.old (cut_text text w.from w.count) r.output.new
      → Grows r.report.old (line_of (cut_out_ending s)) r.report.new → CutAnswer r w text (Ok s)
  unreported : {s : CutSummary} → r.status ≡ 8 → r.report.Failed
      → Grows r.output.old (cut_text text w.from w.count) r.output.new → CutAnswer r w text (Ok s)
  refused : {e : CutError} → Told (cutting_stopped e) r.status r.report → CutAnswer r w text (Err e)

-- Some groups were asked for, and cut out of the text of the input.
pub record CutDone (w : CutWords) (left held : Change) (s : CutSummary) : Type 0 where
  pub some : 1 ≤ w.count
  pub cut : OfText left (λ text. IsCutOut text w.from w.count held s)

-- What is answered to `cut`: with status 0 the groups were cut out; no group is asked for, and nothing else is looked at; a text is answered by its one answer;
-- a group that is there and stands alone, under the limits, is cut out; and what the text of the cut decodes to.
pub record CutKeeps (w : CutWords) (r : Run) : Type 0 where
  pub done : r.status ≡ 0 → Success (CutDone w r.input r.output) cut_out_ending r.report
  pub unfit : w.count ≡ 0 → RefusedBy 3 r
  pub answer : 1 ≤ w.count
      → Tells r.input (λ text. Yields r (CutAnswer r w text (answer_to text w.from w.count)))
  pub cut : 1 ≤ w.count → Tells r.input (λ text. (s : CutSummary)
      → answer_to text w.from w.count ≡ Ok s → NoneFailed r → Succeeds r)
  pub decodes : Tells r.input (λ text. CutDecodes text w.from w.count)
