-- What `pack` and `unpack` do: their words, which outcome comes, what stands in input and output then, and what is answered.
use Rattle.std.specs.Prelude.{ℕ, ◌≡◌, ◌*◌, ◌<◌, ◌≤◌, List, [], ◌∷◌, ◌++◌, length, Option, Some, Ok, Err, codes, option_map}
use Rattle.clap.specs.Walk.{Row, Text}
use Rattle.clap.specs.Simple.{App}
use Rattle.m2v_port.specs.Ends.{Change, Tells}
use Rattle.m2v_port.specs.Port.{Grows}
use Rattle.m2v_plane.specs.Raw.{raw}
use Rattle.m2v_set.specs.Rules.{judged}
use Rattle.m2v_y4m.specs.declared.header.Y4mHeader.{Y4mHeader}
use Rattle.m2v_y4m.specs.declared.answer.PackSummary.{PackSummary}
use Rattle.m2v_y4m.specs.declared.answer.Y4mFault.{Y4mFault}
use Rattle.m2v_y4m.specs.Rules.{header_rules, Passes}
use Rattle.m2v_y4m.specs.Header.{opening}
use Rattle.m2v_y4m.specs.Frames.{size_of, AreWhole, Y4m, EndsShort, Begins}
use Rattle.m2v_y4m.specs.Answers.{most_frames, Packed, PackStops, Unpacked as AllUnpacked, UnpackStops, Gives, IsAnswered}
use Rattle.m2v_tool.specs.declared.pack.PackOutcome.{PackOutcome}
use Rattle.m2v_tool.specs.declared.pack.PackOutcome.TheVariants as packs
use Rattle.m2v_tool.specs.declared.unpack.UnpackOutcome.{UnpackOutcome}
use Rattle.m2v_tool.specs.declared.unpack.UnpackOutcome.TheVariants as unpacks
use Rattle.m2v_tool.specs.Simple.{simple, number_word, flag_option, required, flag, taken}
use Rattle.m2v_tool.specs.Endings.{Ending, with_figures, Told, Success, line_of, unfit_ending, short_frame, too_many_frames}
use Rattle.m2v_tool.specs.Stops.{packing_stopped, unpacking_stopped}
use Rattle.m2v_tool.specs.Inputs.{AreFew, EndInside}
unfoldable pub use Rattle.m2v_tool.specs.Endings.{y4m_fault}
use Rattle.m2v_tool.specs.Runs.{Run, Yields, RefusedBy, NoneFailed, Succeeds}

-- ---- words

-- the words behind `pack`: W H CODE, and the flag --top
abbrev pub pack_app : App
pack_app = simple (codes "pack")
    (number_word (codes "W") ∷ number_word (codes "H") ∷ number_word (codes "CODE")
    ∷ flag_option (codes "top") ∷ [])

-- the header that they are
unfoldable pub header_of : List Row → Y4mHeader
header_of rows = record {
  width = required (codes "W") rows;
  height = required (codes "H") rows;
  rate_code = required (codes "CODE") rows;
  top = flag (codes "top") rows;
}

-- what they mean, where `clap` takes them
unfoldable pub pack_meant : List Text → Option Y4mHeader
pack_meant words = option_map header_of (taken pack_app words)

-- ---- statuses and lines

-- of frames that were packed or unpacked
unfoldable pub packed_ending : PackSummary → Ending
packed_ending s = with_figures 0 ((codes "frames ", s.frames) ∷ (codes " bytes ", s.bytes) ∷ [])

-- of each outcome
unfoldable pub pack_ending : PackOutcome → Ending
pack_ending (packs.Packed s) = packed_ending s
pack_ending (packs.Unfit u) = unfit_ending u
pack_ending (packs.Stopped e) = packing_stopped e

unfoldable pub unpack_ending : UnpackOutcome → Ending
unpack_ending (unpacks.Unpacked s) = packed_ending s
unpack_ending (unpacks.Stopped e) = unpacking_stopped e

-- ---- pack

-- When each outcome of `pack` comes, and what stands then.
unfoldable pub PackComes : Y4mHeader → Change → Change → PackOutcome → Type 0
PackComes h left held (packs.Packed s) = Passes h × Packed h left held s
PackComes h left held (packs.Unfit u) =
    (judged (header_rules h) ≡ Err u) × left.Unchanged × held.Unchanged
PackComes h left held (packs.Stopped e) = Passes h × PackStops h left held e

-- The status that `pack` gives by its words and the number of input's bytes.
pub data PackAnswer (r : Run) (h : Y4mHeader) (bytes : ℕ) : Type 0 where
  unfit : (Passes h → ⊥) → r.status ≡ 3 → PackAnswer r h bytes
  ok : Passes h → AreFew (size_of h) bytes → r.status ≡ 0 → PackAnswer r h bytes
  unreported : Passes h → AreFew (size_of h) bytes → r.report.Failed → r.status ≡ 8
      → PackAnswer r h bytes
  short : Passes h → EndInside (size_of h) bytes → r.status ≡ 4 → PackAnswer r h bytes
  many : Passes h → most_frames * size_of h < bytes → r.status ≡ 6 → PackAnswer r h bytes

-- The numbers pass, and the frames of the input were packed.
pub record PackDone (h : Y4mHeader) (left held : Change) (s : PackSummary) : Type 0 where
  pub passes : Passes h
  pub packed : Packed h left held s

-- What is answered to `pack`: with status 0 the input was packed; numbers that don't pass are refused, and nothing else is looked at; the status is the one
-- that the words and the input's bytes give; and whole frames with numbers that pass are packed.
pub record PackKeeps (h : Y4mHeader) (r : Run) : Type 0 where
  pub done : r.status ≡ 0 → Success (PackDone h r.input r.output) packed_ending r.report
  pub unfit : (Passes h → ⊥) → RefusedBy 3 r
  pub answer : Tells r.input (λ bytes. Yields r (PackAnswer r h (length bytes)))
  pub packed : Tells r.input (λ bytes.
      Passes h → AreFew (size_of h) (length bytes) → NoneFailed r → Succeeds r)

-- ---- unpack

-- When each outcome of `unpack` comes, and what stands then.
unfoldable pub UnpackComes : Change → Change → UnpackOutcome → Type 0
UnpackComes left held (unpacks.Unpacked s) =
    AllUnpacked left held s × Tells left (IsAnswered left held (Ok s))
UnpackComes left held (unpacks.Stopped e) =
    UnpackStops left held e × Tells left (IsAnswered left held (Err e))

-- the numbers of frames
abbrev pub numbers_of : List (List ℕ) → PackSummary
numbers_of frames = record { frames = length frames; bytes = length (raw frames) }

-- What `unpack` answers to a text of frames: status 0 with these on output and its line on report, or 8 where the report's
-- count rose then.
pub data UnpackDone (r : Run) (frames : List (List ℕ)) : Type 0 where
  ok : r.status ≡ 0 → Grows r.output.old (raw frames) r.output.new
      → Grows r.report.old (line_of (packed_ending (numbers_of frames))) r.report.new
      → UnpackDone r frames
  unreported : r.status ≡ 8 → r.report.Failed → Grows r.output.old (raw frames) r.output.new
      → UnpackDone r frames

-- this ending is told
abbrev pub Says : Run → Ending → Type 0
Says r e = Yields r (Told e r.status r.report)

-- What is answered to `unpack`: with status 0 the text was unpacked; a text of frames is unpacked; one that ends inside a frame, has too many frames or has a
-- fault is refused by that; and a text of frames is unpacked where nothing failed.
pub record UnpackKeeps (r : Run) : Type 0 where
  pub done : r.status ≡ 0 → Success (AllUnpacked r.input r.output) packed_ending r.report
  pub frames : Tells r.input (λ text. (h : Y4mHeader) (frames : List (List ℕ)) → Y4m text h frames
      → length frames ≤ most_frames → Yields r (UnpackDone r frames))
  pub short : Tells r.input (λ text. (h : Y4mHeader) (frames : List (List ℕ)) (extra : ℕ)
      → EndsShort text h frames extra → length frames < most_frames → Says r (short_frame extra))
  pub many : Tells r.input (λ text. (h : Y4mHeader) (frames : List (List ℕ)) (next : ℕ)
      → Gives text h (raw frames ++ next ∷ []) → AreWhole h frames
      → length frames ≡ most_frames → Says r too_many_frames)
  pub header : Tells r.input (λ text. (f : Y4mFault) → opening text ≡ Err f → Says r (y4m_fault f))
  pub fault : Tells r.input (λ text. (h : Y4mHeader) (frames : List (List ℕ)) (f : Y4mFault)
      → AreWhole h frames → Begins text h (record { raw = raw frames; fault = Some f })
      → length frames ≤ most_frames → Says r (y4m_fault f))
  pub unpacked : Tells r.input (λ text. (h : Y4mHeader) (frames : List (List ℕ)) → Y4m text h frames
      → length frames ≤ most_frames → NoneFailed r → Succeeds r)
