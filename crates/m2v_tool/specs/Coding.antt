-- What `flat` does: which outcome comes, what stands in input and output then, and what is answered to an input.
use Rattle.std.specs.Prelude.{ℕ, ◌≡◌, ◌*◌, ◌<◌, length}
use Rattle.m2v_port.specs.Ends.{Change, Tells}
use Rattle.m2v_plane.specs.Raw.{frame_bytes}
use Rattle.m2v_flat.specs.declared.answer.Summary.{Summary}
use Rattle.m2v_flat.specs.declared.answer.EncodeError.{EncodeError}
use Rattle.m2v_flat.specs.Answers.{FlatCoded, FlatStops, most_frames}
use Rattle.m2v_flat.specs.Flat.{Flat}
use Rattle.m2v_flat.specs.Recon.{FlatRecon}
use Rattle.m2v_model.specs.Lawful.{Lawful}
use Rattle.m2v_make.specs.m2v_law_shown.Laws.{DecodesTo}
use Rattle.m2v_tool.specs.declared.flat.FlatWords.{FlatWords}
use Rattle.m2v_tool.specs.declared.flat.FlatOutcome.{FlatOutcome}
use Rattle.m2v_tool.specs.declared.flat.FlatOutcome.TheVariants.{Coded, Unfit, Stopped}
use Rattle.m2v_tool.specs.Endings.{Ending, Success, coded_ending, unfit_ending}
use Rattle.m2v_tool.specs.Stops.{coding_stopped}
use Rattle.m2v_tool.specs.Words.{settings_of, WordsPass, WordsFail}
use Rattle.m2v_tool.specs.Inputs.{AreFrames, EndInside}
use Rattle.m2v_tool.specs.Runs.{Run, Yields, RefusedBy, NoneFailed, Succeeds}

-- The settings pass, the input was coded, and what output has grown by decodes and is lawful.
pub record FlatDone (w : FlatWords) (left held : Change) (summary : Summary) : Type 0 where
  pub passes : WordsPass w
  pub coded : FlatCoded (settings_of w) left held summary
  pub back : DecodesTo (Flat (settings_of w) coded.frames) (FlatRecon (settings_of w) coded.frames)
  pub lawful : Lawful (Flat (settings_of w) coded.frames)

-- The settings pass, and coding stopped.
pub record FlatStopped (w : FlatWords) (left held : Change) (e : EncodeError) : Type 0 where
  pub passes : WordsPass w
  pub stops : FlatStops (settings_of w) left held e

-- When each outcome of `flat` comes, and what stands then.
unfoldable pub FlatComes : FlatWords → Change → Change → FlatOutcome → Type 0
FlatComes w left held (Coded s) = FlatDone w left held s
FlatComes w left held (Unfit u) = WordsFail w u × left.Unchanged × held.Unchanged
FlatComes w left held (Stopped e) = FlatStopped w left held e

-- the ending of each outcome
unfoldable pub flat_ending : FlatOutcome → Ending
flat_ending (Coded s) = coded_ending s.frames s.pictures s.bytes s.stuffing
flat_ending (Unfit u) = unfit_ending u
flat_ending (Stopped e) = coding_stopped e

-- the bytes of a frame of the size that words name
abbrev pub size_of : FlatWords → ℕ
size_of w = frame_bytes (settings_of w).dims

-- The status that `flat` gives by its words and the number of input's bytes: the first cause in the order settings,
-- input.
pub data FlatAnswer (r : Run) (w : FlatWords) (bytes : ℕ) : Type 0 where
  unfit : (WordsPass w → ⊥) → r.status ≡ 3 → FlatAnswer r w bytes
  ok : WordsPass w → AreFrames (size_of w) bytes → r.status ≡ 0 → FlatAnswer r w bytes
  unreported : WordsPass w → AreFrames (size_of w) bytes → r.report.Failed → r.status ≡ 8
      → FlatAnswer r w bytes
  short : WordsPass w → EndInside (size_of w) bytes → r.status ≡ 4 → FlatAnswer r w bytes
  none : WordsPass w → bytes ≡ 0 → r.status ≡ 5 → FlatAnswer r w bytes
  many : WordsPass w → most_frames * size_of w < bytes → r.status ≡ 6 → FlatAnswer r w bytes

-- the ending of frames that were coded
abbrev pub flat_coded_ending : Summary → Ending
flat_coded_ending s = flat_ending (Coded s)

-- What is answered to `flat`: with status 0 the input was coded; settings that don't pass are refused, and nothing else is
-- looked at; the status is the one that the settings and the input's bytes give; and whole frames with settings that pass
-- are coded.
pub record FlatKeeps (w : FlatWords) (r : Run) : Type 0 where
  pub done : r.status ≡ 0 → Success (FlatDone w r.input r.output) flat_coded_ending r.report
  pub unfit : (WordsPass w → ⊥) → RefusedBy 3 r
  pub answer : Tells r.input (λ bytes. Yields r (FlatAnswer r w (length bytes)))
  pub coded : Tells r.input (λ bytes.
      WordsPass w → AreFrames (size_of w) (length bytes) → NoneFailed r → Succeeds r)
