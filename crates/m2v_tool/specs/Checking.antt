-- What `check` does: which outcome comes, and what is answered to a text by its verdict or its first fault.
use Rattle.std.specs.Prelude.{ℕ, ◌≡◌, ◌⊎◌, List, [], ◌∷◌, codes}
use Rattle.m2v_port.specs.Ends.{Change, Tells}
use Rattle.m2v_vbv.specs.declared.fault.AccountFault.{AccountFault}
use Rattle.m2v_vbv.specs.declared.fault.AccountFault.TheVariants.{Under, Over}
use Rattle.m2v_model.specs.Pieces.{Limit, too_long}
use Rattle.m2v_model.specs.Decoding.{FaultAt}
use Rattle.m2v_dec_piece.specs.declared.answer.Fault.{Fault}
use Rattle.m2v_cut.specs.m2v_decode.Answers.{OfText}
use Rattle.m2v_cut.specs.m2v_decode.Complete.{IsUnderLimits, IsReached, IsLate, IsPast, error_of}
use Rattle.m2v_make.specs.m2v_check.declared.verdict.Figures.{Figures}
use Rattle.m2v_make.specs.m2v_check.declared.verdict.Verdict.{Verdict}
use Rattle.m2v_make.specs.m2v_check.declared.verdict.Verdict.TheVariants as verdicts
use Rattle.m2v_make.specs.m2v_check.Meaning.{IsLawful, IsVariable, Means}
use Rattle.m2v_make.specs.m2v_check.Answers.{IsJudged, IsOver, Fails}
use Rattle.m2v_tool.specs.declared.check.CheckOutcome.{CheckOutcome}
use Rattle.m2v_tool.specs.declared.check.CheckOutcome.TheVariants.{Judged, Stopped}
use Rattle.m2v_tool.specs.Endings.{Ending, with_figures, Told, Success, stream_fault, ending_past}
use Rattle.m2v_tool.specs.Stops.{decoding_stopped}
use Rattle.m2v_tool.specs.Runs.{Run, Yields, NoneFailed, Succeeds}

-- When each outcome of `check` comes: a verdict where the text has this one and no piece of it passes a limit.
unfoldable pub CheckComes : Change → CheckOutcome → Type 0
CheckComes left (Judged v) = OfText left (λ text. IsJudged text v)
CheckComes left (Stopped e) = Fails left e

-- ---- statuses and lines

-- of a stream that breaks no rule and that the buffer bears
unfoldable pub lawful_ending : Figures → Ending
lawful_ending f = with_figures 0
    ((codes "lawful frames ", f.frames) ∷ (codes " pictures ", f.pictures)
    ∷ (codes " bytes ", f.bytes) ∷ (codes " low ", f.low) ∷ (codes " high ", f.high)
    ∷ (codes " delays ", f.delays) ∷ [])

-- of one that breaks no rule and whose rate is variable
unfoldable pub variable_ending : Figures → Ending
variable_ending f = with_figures 0
    ((codes "variable frames ", f.frames) ∷ (codes " pictures ", f.pictures)
    ∷ (codes " bytes ", f.bytes) ∷ [])

-- of one whose account fails so
unfoldable pub account_ending : AccountFault → Ending
account_ending (Under picture have need) = with_figures 11
    ((codes "buffer under picture ", picture) ∷ (codes " have ", have) ∷ (codes " need ", need)
    ∷ [])
account_ending (Over picture have size) = with_figures 11
    ((codes "buffer over picture ", picture) ∷ (codes " have ", have) ∷ (codes " need ", size)
    ∷ [])

-- of a verdict
unfoldable pub verdict_ending : Verdict → Ending
verdict_ending (verdicts.Lawful f) = lawful_ending f
verdict_ending (verdicts.Variable f) = variable_ending f
verdict_ending (verdicts.Unlawful rule picture have need) = with_figures 10
    ((codes "unlawful rule ", rule) ∷ (codes " picture ", picture) ∷ (codes " have ", have)
    ∷ (codes " need ", need) ∷ [])
verdict_ending (verdicts.Buffer fault) = account_ending fault

-- of each outcome
unfoldable pub check_ending : CheckOutcome → Ending
check_ending (Judged v) = verdict_ending v
check_ending (Stopped e) = decoding_stopped e

-- ---- answers

-- What `check` answers to a text with a verdict or a first fault: its status and its line, where this is reached; or those of
-- a limit that a piece of the text passes.
pub data Says (r : Run) (text : List ℕ) (Reached : Type 0) (e : Ending) : Type 0 where
  told : Reached → Told e r.status r.report → Says r text Reached e
  past : (l : Limit) → (IsUnderLimits text → ⊥) → IsOver text (error_of l)
      → Told (ending_past l) r.status r.report → Says r text Reached e

-- The text of the input has this verdict, and passes no limit.
abbrev pub CheckDone : Change → Verdict → Type 0
CheckDone left v = OfText left (λ text. IsJudged text v)

-- It is lawful, or its rate is variable, and this is told.
abbrev pub HasPassed : Run → Type 0
HasPassed r =
    Success (λ f. CheckDone r.input (verdicts.Lawful f)) lawful_ending r.report
    ⊎ Success (λ f. CheckDone r.input (verdicts.Variable f)) variable_ending r.report

-- What is answered to `check`: with status 0 the stream is lawful, or its rate is variable; a stream gets its verdict, and a text that is none its first fault, or in place of either a
-- limit that it passes; one that passes a limit before a fault gets that limit; one of more bytes than an input may have,
-- with no sequence header before the last of these, is too long; and one under the limits that breaks no rule, and that
-- the buffer bears or whose rate is variable, passes.
pub record CheckKeeps (r : Run) : Type 0 where
  pub done : r.status ≡ 0 → HasPassed r
  pub judged : Tells r.input (λ text.
      (v : Verdict) → Means text v
      → Yields r (Says r text (IsUnderLimits text) (verdict_ending v)))
  pub faulty : Tells r.input (λ text.
      (f : Fault) → FaultAt text f.place f.kind
      → Yields r (Says r text (IsReached text f) (stream_fault f)))
  pub over : Tells r.input (λ text.
      (l : Limit) → IsPast text l → Yields r (Told (ending_past l) r.status r.report))
  pub late : Tells r.input (λ text.
      IsLate text → Yields r (Told (ending_past too_long) r.status r.report))
  pub lawful : Tells r.input (λ text.
      (f : Figures) → IsLawful text f → IsUnderLimits text → NoneFailed r → Succeeds r)
  pub variable : Tells r.input (λ text.
      (f : Figures) → IsVariable text f → IsUnderLimits text → NoneFailed r → Succeeds r)
