-- What `encode-y4m` does: which outcome comes, what stands in input, output and recon then, and what is answered to a text.
use Rattle.std.specs.Prelude.{ℕ, ◌≡◌, ◌*◌, ◌<◌, ◌≤◌, All, List, [], ◌∷◌, ◌++◌, length, Option, Some, None, IfSome, Err}
use Rattle.m2v_port.specs.Ends.{Change, Tells}
use Rattle.m2v_port.specs.Port.{Rose, IsAtEnd}
use Rattle.m2v_plane.specs.Raw.{raw}
use Rattle.m2v_set.specs.Rules.{Passes}
use Rattle.m2v_make.specs.m2v_encode.declared.answer.Summary.{Summary}
use Rattle.m2v_make.specs.m2v_encode.Answers.{FailedInside, most_frames}
use Rattle.m2v_y4m.specs.declared.answer.Y4mFault.{Y4mFault}
use Rattle.m2v_y4m.specs.declared.header.Y4mHeader.{Y4mHeader}
use Rattle.m2v_y4m.specs.Rules.{IsHeader}
use Rattle.m2v_y4m.specs.Header.{opening}
use Rattle.m2v_y4m.specs.Frames.{Coming, Begins}
use Rattle.m2v_y4m.specs.Sources.{Standing, left_of, mark, told_left, most_ahead, TookText}
use Rattle.m2v_y4m.specs.Answers.{OpenStops}
use Rattle.m2v_tool.specs.declared.encode.EncodeOutcome.{EncodeOutcome}
use Rattle.m2v_tool.specs.declared.encode_y4m.Y4mOutcome.{Y4mOutcome}
use Rattle.m2v_tool.specs.declared.encode_y4m.Y4mOutcome.TheVariants.{Unread, Encoded, Broken}
use Rattle.m2v_tool.specs.Endings.{Ending, Told, Success, y4m_fault}
use Rattle.m2v_tool.specs.Stops.{unread_ending}
use Rattle.m2v_tool.specs.EncodeWords.{Meant}
use Rattle.m2v_tool.specs.Y4mWords.{with_header}
use Rattle.m2v_tool.specs.Inputs.{AreFrames, EndInside}
use Rattle.m2v_tool.specs.Places.{recon_by, Stands}
use Rattle.m2v_tool.specs.Encoding.{EncodeComes, EncodeDone, encode_ending, encoded_ending, frame_size}
use Rattle.m2v_tool.specs.Packing.{Says}
use Rattle.m2v_tool.specs.Runs.{Run, Work, work_of, Yields, NoneFailed, Succeeds}

-- ---- what was read

-- The header line was read; what was left behind it as raw bytes and the mark of a fault, and what is left of that now: what
-- comes, by where reading stands, of the bytes that were read ahead and of those that input still has. It is nothing only
-- where input has nothing left.
pub record Behind (input : Change) : Type 0 where
  pub header : Y4mHeader
  pub within : IsHeader header
  pub old : Option (List ℕ)
  pub new : Option (List ℕ)
  pub text : Tells input (λ text.
      (coming : Coming) × Begins text header coming × (old ≡ Some (left_of coming)))
  pub now : Standing
  pub ahead : length now.unread ≤ most_ahead
  pub left : new ≡ told_left now input.new
  pub end : IsAtEnd new → IsAtEnd input.new

-- what was done to the frames behind the header line: they failed where input did, and count as they were where of input
-- nothing was taken but the header line and what was read ahead
abbrev pub frames_change : (input : Change) → Behind input → Change
frames_change input b = record {
  old = b.old;
  new = b.new;
  Failed = input.Failed;
  Unchanged = TookText input.old [] b.now input.new;
}

-- what was done, where these frames are the input
abbrev pub frames_work : (k : Work) → Behind k.input → Work
frames_work k b = record {
  input = frames_change k.input b;
  output = k.output;
  recon = k.recon;
  place = k.place;
}

-- ---- outcomes

-- The header line was read, and with its numbers in the settings `encode` gave this outcome for the frames behind it.
pub record TextEncoded (m : Meant) (k : Work) (o : EncodeOutcome) : Type 0 where
  pub behind : Behind k.input
  pub comes : EncodeComes (with_header behind.header m) (frames_work k behind) o

-- The header line was read, and with its numbers in the settings the frames behind it were coded, to the end of input.
pub record TextDone (m : Meant) (k : Work) (summary : Summary) : Type 0 where
  pub behind : Behind k.input
  pub end : IsAtEnd k.input.new
  pub done : EncodeDone (with_header behind.header m) (frames_work k behind) summary

-- The settings with the header's numbers pass, and coding stopped at the text's first fault, behind these raw bytes.
pub record TextBroken (m : Meant) (k : Work) (fault : Y4mFault) : Type 0 where
  pub behind : Behind k.input
  pub passes : Passes (with_header behind.header m).settings
  pub inside : FailedInside (with_header behind.header m).settings
      (frames_change k.input behind) k.output (recon_by m.recon k.recon)
  pub stands : Stands m.recon k
  pub first : Tells k.input (λ text. All (λ b. b < 256) text → Begins text behind.header
      (record { raw = raw inside.frames ++ inside.part; fault = Some fault }))

-- When each outcome of `encode-y4m` comes, and what stands then.
unfoldable pub Y4mComes : Meant → Work → Y4mOutcome → Type 0
Y4mComes m k (Unread e) = OpenStops k.input e × k.output.Unchanged × k.recon.Unchanged
Y4mComes m k (Encoded o) = TextEncoded m k o
Y4mComes m k (Broken fault) = TextBroken m k fault

-- What comes of the frames behind the header line, by the settings that have its numbers; where the text is broken, nothing
-- is left but the mark of its fault.
pub record BrokenOff (m : Meant) (k : Work) (fault : Y4mFault) : Type 0 where
  pub passes : Passes m.settings
  pub inside : FailedInside m.settings k.input k.output (recon_by m.recon k.recon)
  pub stands : Stands m.recon k
  pub left : IfSome k.input.new (λ rest. rest ≡ mark fault ∷ [])

unfoldable pub FramesCome : Meant → Work → Y4mOutcome → Type 0
FramesCome m k (Unread e) = ⊥
FramesCome m k (Encoded o) = EncodeComes m k o
FramesCome m k (Broken fault) = BrokenOff m k fault

-- What was read of the frames behind a header line; they failed where the source behind them did.
abbrev pub read_behind : {S : Type 0} → (S → Option (List ℕ)) → (S → ℕ) → Standing → S → Standing → S → Change
read_behind left faults at before now after = record {
  old = told_left at (left before);
  new = told_left now (left after);
  Failed = Rose (faults before) (faults after);
  Unchanged = (now ≡ at) × (left after ≡ left before);
}

-- ---- statuses and lines

-- of each outcome
unfoldable pub y4m_ending : Y4mOutcome → Ending
y4m_ending (Unread e) = unread_ending e
y4m_ending (Encoded o) = encode_ending o
y4m_ending (Broken fault) = y4m_fault fault

-- ---- answers

-- The status that `encode-y4m` gives by its words with the header's numbers and by what comes behind the header: the first
-- cause in the order settings, opening of recon, frames. In its place may come 8 where the count of recon rose.
pub data Y4mAnswer (r : Run) (m : Meant) (c : Coming) : Type 0 where
  unfit : (Passes m.settings → ⊥) → r.status ≡ 3 → Y4mAnswer r m c
  ok : Passes m.settings → c.fault ≡ None → AreFrames (frame_size m) (length c.raw)
      → r.status ≡ 0 → Y4mAnswer r m c
  unreported : Passes m.settings → c.fault ≡ None → AreFrames (frame_size m) (length c.raw)
      → r.report.Failed → r.status ≡ 8 → Y4mAnswer r m c
  short : Passes m.settings → c.fault ≡ None → EndInside (frame_size m) (length c.raw)
      → r.status ≡ 4 → Y4mAnswer r m c
  none : Passes m.settings → c.fault ≡ None → length c.raw ≡ 0 → r.status ≡ 5 → Y4mAnswer r m c
  many : Passes m.settings → most_frames * frame_size m < length c.raw → r.status ≡ 6
      → Y4mAnswer r m c
  broken : (fault : Y4mFault) → Passes m.settings → c.fault ≡ Some fault
      → length c.raw ≤ most_frames * frame_size m → Told (y4m_fault fault) r.status r.report
      → Y4mAnswer r m c
  recon : Passes m.settings → r.recon.Failed → r.status ≡ 8 → Y4mAnswer r m c

-- What is answered to `encode-y4m`. With status 0 the frames of the text were coded. A text whose header line is broken is refused by that, and nothing is written; so is one
-- of whose numbers the settings don't pass. The status is the one that the settings and the text give. And a text of
-- frames with settings that pass is coded.
pub record Y4mKeeps (m : Meant) (r : Run) : Type 0 where
  pub done : r.status ≡ 0 → Success (TextDone m (work_of r)) encoded_ending r.report
  pub header : Tells r.input (λ text. (fault : Y4mFault) → opening text ≡ Err fault
      → Says r (y4m_fault fault) × r.output.Unchanged × r.recon.Unchanged)
  pub unfit : Tells r.input (λ text. (h : Y4mHeader) (c : Coming) → Begins text h c
      → (Passes (with_header h m).settings → ⊥)
      → Yields r (r.status ≡ 3) × r.output.Unchanged × r.recon.Unchanged)
  pub answer : Tells r.input (λ text. All (λ b. b < 256) text → (h : Y4mHeader) (c : Coming)
      → Begins text h c → Yields r (Y4mAnswer r (with_header h m) c))
  pub coded : Tells r.input (λ text. All (λ b. b < 256) text → (h : Y4mHeader) (c : Coming)
      → Begins text h c → Passes (with_header h m).settings → c.fault ≡ None
      → AreFrames (frame_size (with_header h m)) (length c.raw)
      → NoneFailed r → (r.recon.Failed → ⊥) → Succeeds r)
