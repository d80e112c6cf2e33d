-- What `encode` does: which outcome comes, what stands in input, output and recon then, and what is answered to an input.
use Rattle.std.specs.Prelude.{ℕ, ◌≡◌, ◌*◌, ◌<◌, None, length}
use Rattle.m2v_port.specs.Ends.{Tells}
use Rattle.m2v_port.specs.declared.error.PortError.{PortError}
use Rattle.m2v_plane.specs.Raw.{frame_bytes}
use Rattle.m2v_set.specs.Numbers.{dims_of}
use Rattle.m2v_set.specs.Rules.{Passes, FirstUnfit}
use Rattle.m2v_make.specs.m2v_encode.declared.answer.Summary.{Summary}
use Rattle.m2v_make.specs.m2v_encode.declared.answer.EncodeError.{EncodeError}
use Rattle.m2v_make.specs.m2v_encode.Answers.{AllCoded, Stops, most_frames}
use Rattle.m2v_tool.specs.declared.encode.EncodeOutcome.{EncodeOutcome}
use Rattle.m2v_tool.specs.declared.encode.EncodeOutcome.TheVariants.{Coded, Unfit as NotFit, Unopened, Stopped}
use Rattle.m2v_tool.specs.Endings.{Ending, Success, coded_ending, unopened_ending, unfit_ending}
use Rattle.m2v_tool.specs.Stops.{encoding_stopped}
use Rattle.m2v_tool.specs.EncodeWords.{Meant}
use Rattle.m2v_tool.specs.Runs.{Run, Work, work_of, Yields, RefusedBy, NoneFailed, Succeeds}
use Rattle.m2v_tool.specs.Places.{recon_by, Stands, Shut}
use Rattle.m2v_tool.specs.Inputs.{AreFrames, EndInside}

-- ---- outcomes

-- The settings pass, and the input was coded; recon, where a name is given, is open under it and has grown by what the
-- stream decodes to.
pub record EncodeDone (m : Meant) (k : Work) (summary : Summary) : Type 0 where
  pub passes : Passes m.settings
  pub coded : AllCoded m.settings k.input k.output (recon_by m.recon k.recon) summary
  pub stands : Stands m.recon k

-- The settings pass, and coding stopped.
pub record EncodeStopped (m : Meant) (k : Work) (e : EncodeError) : Type 0 where
  pub passes : Passes m.settings
  pub stops : Stops m.settings k.input k.output (recon_by m.recon k.recon) e
  pub stands : Stands m.recon k

-- The settings pass, and recon wasn't opened.
pub record EncodeShut (m : Meant) (k : Work) (e : PortError) : Type 0 where
  pub passes : Passes m.settings
  pub named : (m.recon ≡ None) → ⊥
  pub shut : Shut e k

-- When each outcome of `encode` comes, and what stands then.
unfoldable pub EncodeComes : Meant → Work → EncodeOutcome → Type 0
EncodeComes m k (Coded s) = EncodeDone m k s
EncodeComes m k (NotFit u) =
    FirstUnfit m.settings u × k.input.Unchanged × k.output.Unchanged × k.recon.Unchanged
EncodeComes m k (Unopened e) = EncodeShut m k e
EncodeComes m k (Stopped e) = EncodeStopped m k e

-- ---- statuses and lines

-- of a stream with these numbers
unfoldable pub encoded_ending : Summary → Ending
encoded_ending s = coded_ending s.frames s.pictures s.bytes s.stuffing

-- of each outcome
unfoldable pub encode_ending : EncodeOutcome → Ending
encode_ending (Coded s) = encoded_ending s
encode_ending (NotFit u) = unfit_ending u
encode_ending (Unopened e) = unopened_ending e
encode_ending (Stopped e) = encoding_stopped e

-- ---- answers

-- the bytes of a frame
abbrev pub frame_size : Meant → ℕ
frame_size m = frame_bytes (dims_of m.settings)

-- The status that `encode` gives by its words and the number of input's bytes: the first cause in the order settings,
-- opening of recon, input. In its place may come 8 where the count of recon rose.
pub data EncodeAnswer (r : Run) (m : Meant) (bytes : ℕ) : Type 0 where
  unfit : (Passes m.settings → ⊥) → r.status ≡ 3 → EncodeAnswer r m bytes
  ok : Passes m.settings → AreFrames (frame_size m) bytes → r.status ≡ 0 → EncodeAnswer r m bytes
  unreported : Passes m.settings → AreFrames (frame_size m) bytes → r.report.Failed
      → r.status ≡ 8 → EncodeAnswer r m bytes
  short : Passes m.settings → EndInside (frame_size m) bytes → r.status ≡ 4
      → EncodeAnswer r m bytes
  none : Passes m.settings → bytes ≡ 0 → r.status ≡ 5 → EncodeAnswer r m bytes
  many : Passes m.settings → most_frames * frame_size m < bytes → r.status ≡ 6
      → EncodeAnswer r m bytes
  recon : Passes m.settings → r.recon.Failed → r.status ≡ 8 → EncodeAnswer r m bytes

-- What is answered to `encode`: with status 0 the input was coded; settings that don't pass are refused, and nothing else is
-- looked at; the status is the one that the settings and the input's bytes give; and whole frames with settings that pass
-- are coded.
pub record EncodeKeeps (m : Meant) (r : Run) : Type 0 where
  pub done : r.status ≡ 0 → Success (EncodeDone m (work_of r)) encoded_ending r.report
  pub unfit : (Passes m.settings → ⊥) → RefusedBy 3 r
  pub answer : Tells r.input (λ bytes. Yields r (EncodeAnswer r m (length bytes)))
  pub coded : Tells r.input (λ bytes. Passes m.settings → AreFrames (frame_size m) (length bytes)
      → NoneFailed r → (r.recon.Failed → ⊥) → Succeeds r)
