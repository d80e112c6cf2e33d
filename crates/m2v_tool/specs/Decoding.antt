-- What `decode` does: its words, which outcome comes, what stands in input and output then, and what is answered to a text
-- by its decoding or its first fault.
use Rattle.std.specs.Prelude.{ℕ, ◌≡◌, List, [], ◌∷◌, Option, Ok, Err, codes, option_map}
use Rattle.clap.specs.Walk.{Text}
use Rattle.clap.specs.Simple.{App}
use Rattle.m2v_port.specs.Ends.{Change, Tells}
use Rattle.m2v_port.specs.Port.{Grows}
use Rattle.m2v_plane.specs.Raw.{raw}
use Rattle.m2v_set.specs.declared.unfit.Unfit.{Unfit}
use Rattle.m2v_set.specs.Rules.{Condition, at_least, at_most, judged}
use Rattle.m2v_model.specs.Pieces.{pieces, Limit, too_long}
use Rattle.m2v_model.specs.Decoding.{Decodes, FaultAt}
use Rattle.m2v_dec_piece.specs.declared.answer.Fault.{Fault}
use Rattle.m2v_cut.specs.m2v_decode.declared.answer.Decoded.{Decoded}
use Rattle.m2v_cut.specs.m2v_decode.Answers.{OfText, IsDecoded, IsFaulty, IsOver, Fails, AllFit, start_of}
use Rattle.m2v_cut.specs.m2v_decode.Complete.{IsUnderLimits, IsLate, IsPast, counted, error_of}
use Rattle.m2v_tool.specs.declared.decode.DecodeOutcome.{DecodeOutcome}
use Rattle.m2v_tool.specs.declared.decode.DecodeOutcome.TheVariants.{Shown, Unfit as NotFit, Stopped}
use Rattle.m2v_tool.specs.Simple.{simple, number_option, number_or, taken}
use Rattle.m2v_tool.specs.Endings.{Ending, with_figures, Told, Success, line_of, unfit_ending, stream_fault, ending_past}
use Rattle.m2v_tool.specs.Stops.{decoding_stopped}
use Rattle.m2v_tool.specs.Runs.{Run, Yields, RefusedBy, NoneFailed, Succeeds}

-- ---- words

-- the option behind `decode`: how many workers decode
abbrev pub decode_app : App
decode_app = simple (codes "decode") (number_option (codes "workers") ∷ [])

-- what the words behind `decode` mean, where `clap` takes them: so many workers, and where no number is given 1
unfoldable pub decode_meant : List Text → Option ℕ
decode_meant words = option_map (number_or (codes "workers") 1) (taken decode_app words)

-- ---- workers

-- rule 6 on workers, as with `encode`: 1 to 16 of them
unfoldable pub workers_rules : ℕ → List Condition
workers_rules workers = at_least 6 workers 1 ∷ at_most 6 workers 16 ∷ []

-- so many workers pass
abbrev pub WorkersPass : ℕ → Type 0
WorkersPass workers = judged (workers_rules workers) ≡ Ok tt

-- they don't: the first condition that fails
abbrev pub WorkersFail : ℕ → Unfit → Type 0
WorkersFail workers u = judged (workers_rules workers) ≡ Err u

-- ---- outcomes

-- When each outcome of `decode` comes, and what stands then: a stream is decoded, or decoding stops, in the same way by
-- each number of workers that passes.
unfoldable pub DecodeComes : ℕ → Change → Change → DecodeOutcome → Type 0
DecodeComes workers left held (Shown d) =
    WorkersPass workers × OfText left (λ text. IsDecoded text held d)
DecodeComes workers left held (NotFit u) =
    WorkersFail workers u × left.Unchanged × held.Unchanged
DecodeComes workers left held (Stopped e) = WorkersPass workers × Fails left held e

-- ---- statuses and lines

-- the ending of a stream with these numbers, and that of each outcome
unfoldable pub shown_ending : Decoded → Ending
shown_ending d = with_figures 0
    ((codes "frames ", d.frames) ∷ (codes " pictures ", d.pictures)
    ∷ (codes " dropped ", d.dropped) ∷ [])

unfoldable pub decode_ending : DecodeOutcome → Ending
decode_ending (Shown d) = shown_ending d
decode_ending (NotFit u) = unfit_ending u
decode_ending (Stopped e) = decoding_stopped e

-- ---- answers

-- Refused by this limit: its status, with the frames due before on output and its line on report.
pub record Past (r : Run) (text : List ℕ) (l : Limit) : Type 0 where
  pub status : r.status ≡ (ending_past l).status
  pub over : IsOver text r.output (error_of l)
  pub told : Told (ending_past l) r.status r.report

-- What `decode` answers to a text that decodes: where no piece passes a limit status 0 with its frames on output and its
-- line on report, or 8 where the report's count rose then; else a limit.
pub data Showed (r : Run) {text : List ℕ} {frames : List (List ℕ)} (d : Decodes text frames)
    : Type 0 where
  shown : r.status ≡ 0 → AllFit (start_of text) (pieces text)
      → Grows r.output.old (raw frames) r.output.new
      → Grows r.report.old (line_of (shown_ending (counted d))) r.report.new → Showed r d
  unreported : r.status ≡ 8 → r.report.Failed → AllFit (start_of text) (pieces text)
      → Grows r.output.old (raw frames) r.output.new
      → Told (shown_ending (counted d)) r.status r.report → Showed r d
  past : (l : Limit) → (IsUnderLimits text → ⊥) → Past r text l → Showed r d

-- What it answers to a text with this first fault: status 9 with the frames due before on output and the fault's line on
-- report, or a limit that is passed before it.
pub data Refused (r : Run) (text : List ℕ) (f : Fault) : Type 0 where
  fault : r.status ≡ 9 → IsFaulty text r.output f → Told (stream_fault f) r.status r.report
      → Refused r text f
  past : (l : Limit) → (IsUnderLimits text → ⊥) → Past r text l → Refused r text f

-- What is answered to a stream by workers that pass: one that decodes is decoded to its frames, or refused where it passes a limit; one
-- that doesn't decode is refused by its first fault, or by a limit before it; one that passes a limit before a fault is
-- refused by that limit; one of more bytes than an input may have, with no sequence header before the last of these, is too
-- long; and one under the limits that decodes is decoded.
pub record StreamKeeps (r : Run) : Type 0 where
  pub shown : Tells r.input (λ text.
      (frames : List (List ℕ)) (d : Decodes text frames) → Yields r (Showed r d))
  pub faulty : Tells r.input (λ text.
      (f : Fault) → FaultAt text f.place f.kind → Yields r (Refused r text f))
  pub over : Tells r.input (λ text. (l : Limit) → IsPast text l → Yields r (Past r text l))
  pub late : Tells r.input (λ text. IsLate text → Yields r (Past r text too_long))
  pub decoded : Tells r.input (λ text. (frames : List (List ℕ)) → Decodes text frames
      → IsUnderLimits text → NoneFailed r → Succeeds r)

-- The number of workers passes, and the text of the input was decoded, with these numbers.
pub record DecodeDone (workers : ℕ) (left held : Change) (d : Decoded) : Type 0 where
  pub passes : WorkersPass workers
  pub decoded : OfText left (λ text. IsDecoded text held d)

-- What is answered to `decode`: with status 0 the stream was decoded; a number of workers that doesn't pass is refused, and
-- nothing else is looked at; with each one that passes a stream is answered in the same way.
pub record DecodeKeeps (workers : ℕ) (r : Run) : Type 0 where
  pub done : r.status ≡ 0 → Success (DecodeDone workers r.input r.output) shown_ending r.report
  pub unfit : (WorkersPass workers → ⊥) → RefusedBy 3 r
  pub stream : WorkersPass workers → StreamKeeps r
