-- What coding a raw input answers, and what stands then in input and output.
use Rattle.std.specs.Prelude.{ℕ, ◌≡◌, ◌<◌, ◌≤◌, All, List, [], ◌∷◌, ◌++◌, length}
use Rattle.m2v_port.specs.Ends.{Change}
use Rattle.m2v_port.specs.Port.{Moves, IsAtEnd, Grows, GrowsByPrefix}
use Rattle.m2v_plane.specs.declared.dims.Dims.{Dims}
use Rattle.m2v_plane.specs.Sizes.{IsSize}
use Rattle.m2v_plane.specs.Raw.{frame_bytes, raw}
use Rattle.m2v_set.specs.Numbers.{flat_dims}
use Rattle.m2v_set.specs.Rules.{FlatPasses}
use Rattle.m2v_flat.specs.declared.settings.FlatSettings.{FlatSettings}
use Rattle.m2v_flat.specs.declared.answer.Summary.{Summary}
use Rattle.m2v_flat.specs.declared.answer.EncodeError.{EncodeError}
use Rattle.m2v_flat.specs.declared.answer.EncodeError.TheVariants.{Read, Write, ShortFrame, NoFrames, TooManyFrames, Memory}
use Rattle.m2v_flat.specs.Flat.{Flat, FlatBegun}

-- settings that passed the part of the published test that the flat profile takes, with the size of their frames
pub record HasPassed (s : FlatSettings) : Type 0 where
  pub passes : FlatPasses s.dims.width s.dims.height s.rate_code s.quantiser
  pub dims : s.dims ≡ flat_dims s.dims.width s.dims.height
  pub size : IsSize s.dims

-- the most frames of a raw input
abbrev pub most_frames : ℕ
most_frames = 999999

-- each of these has the bytes of a frame
abbrev pub AreWhole : Dims → List (List ℕ) → Type 0
AreWhole d frames = All (λ frame. length frame ≡ frame_bytes d) frames

-- The input was whole frames, one at least, and the whole stream was written; these are its numbers.
pub record FlatCoded (s : FlatSettings) (left held : Change) (summary : Summary) : Type 0 where
  pub frames : List (List ℕ)
  pub some : 1 ≤ length frames
  pub most : length frames ≤ most_frames
  pub whole : AreWhole s.dims frames
  pub moved : Moves left.old (raw frames) left.new
  pub end : IsAtEnd left.new
  pub grown : Grows held.old (Flat s frames) held.new
  pub numbers : summary ≡ record { frames = length frames; pictures = length frames; bytes = length (Flat s frames); stuffing = 0 }

-- Some whole frames were read and then a part of the next, and output has grown by the frames' bytes without the end
-- code. Where no frame was read, output is as it was, its count too.
pub record FlatUnended (s : FlatSettings) (left held : Change) (frames : List (List ℕ)) (part : List ℕ) : Type 0 where
  pub most : length frames ≤ most_frames
  pub whole : AreWhole s.dims frames
  pub moved : Moves left.old (raw frames ++ part) left.new
  pub grown : Grows held.old (FlatBegun s frames) held.new
  pub unwritten : length frames ≡ 0 → held.Unchanged

-- Some whole frames were read and perhaps a part of the next, and output has grown by a prefix of what success would
-- have given for these frames.
pub record CutOff (s : FlatSettings) (left held : Change) : Type 0 where
  pub frames : List (List ℕ)
  pub part : List ℕ
  pub most : length frames ≤ most_frames
  pub whole : AreWhole s.dims frames
  pub less : length part < frame_bytes s.dims
  pub moved : Moves left.old (raw frames ++ part) left.new
  pub grown : GrowsByPrefix held.old (Flat s frames) held.new
  pub unwritten : length frames ≡ 0 → held.Unchanged

-- The input ended inside a frame, of which these many bytes are there.
pub record EndedShort (s : FlatSettings) (left held : Change) (extra : ℕ) : Type 0 where
  pub frames : List (List ℕ)
  pub part : List ℕ
  pub begun : FlatUnended s left held frames part
  pub fewer : length frames < most_frames
  pub count : length part ≡ extra
  pub some : 0 < extra
  pub less : extra < frame_bytes s.dims
  pub end : IsAtEnd left.new

-- The input was empty.
pub record WasEmpty (left held : Change) : Type 0 where
  pub moved : Moves left.old [] left.new
  pub end : IsAtEnd left.new
  pub same : held.Unchanged

-- A byte followed the last frame that an input may have.
pub record WentOn (s : FlatSettings) (left held : Change) : Type 0 where
  pub frames : List (List ℕ)
  pub next : ℕ
  pub begun : FlatUnended s left held frames (next ∷ [])
  pub all : length frames ≡ most_frames

-- The input failed inside a frame, or before one.
pub record FailedInside (s : FlatSettings) (left held : Change) : Type 0 where
  pub frames : List (List ℕ)
  pub part : List ℕ
  pub begun : FlatUnended s left held frames part
  pub less : length part < frame_bytes s.dims

-- When each error comes, and what stands then.
unfoldable pub FlatStops : FlatSettings → Change → Change → EncodeError → Type 0
FlatStops s left held Read = left.Failed × FailedInside s left held
FlatStops s left held Write = held.Failed × CutOff s left held
FlatStops s left held (ShortFrame extra) = EndedShort s left held extra
FlatStops s left held NoFrames = WasEmpty left held
FlatStops s left held TooManyFrames = WentOn s left held
FlatStops s left held Memory = CutOff s left held
