-- What giving all frames of a text answers, and what was given and written then.
use Rattle.std.specs.Prelude.{ℕ, ◌≡◌, ◌⊎◌, ◌<◌, ◌≤◌, List, [], ◌∷◌, ◌++◌, length}
use Rattle.m2v_port.specs.Ends.{Change}
use Rattle.m2v_port.specs.Port.{IsAtEnd, Grows, GrowsByPrefix}
use Rattle.m2v_plane.specs.Raw.{raw}
use Rattle.m2v_y4m.specs.declared.answer.Y4mFault.{Y4mFault}
use Rattle.m2v_y4m.specs.declared.answer.UnpackError.{UnpackError}
use Rattle.m2v_y4m.specs.declared.answer.UnpackError.TheVariants as errors
use Rattle.m2v_y4m.specs.declared.header.Y4mHeader.{Y4mHeader}
use Rattle.m2v_y4m.specs.Frames.{AreWhole, size_of}
use Rattle.m2v_y4m.specs.Sources.{Spot, ReadOn}
use Rattle.m2v_y4m.specs.Answers.{most_frames}
use Rattle.m2v_y4m.specs.Reading.{Gave, comes_at, IsOver, IsBroken, GivenSoFar}

-- all frames were given, and written
pub record AllGiven (h : Y4mHeader) (number : ℕ) (old new : Spot) (left held : Change) : Type 0 where
  pub given : GivenSoFar h number old new held
  pub over : IsOver (comes_at new)
  pub end : IsAtEnd left.new

-- some frames were given and written, and then a part of the next was given
pub record GivenBefore (h : Y4mHeader) (frames : List (List ℕ)) (part : List ℕ) (old new : Spot) (held : Change) : Type 0 where
  pub whole : AreWhole h frames
  pub read : ReadOn old (raw frames ++ part) new
  pub grown : Grows held.old (raw frames) held.new

-- reading failed then, inside the next frame
pub record GivenLost (h : Y4mHeader) (old new : Spot) (held : Change) : Type 0 where
  pub frames : List (List ℕ)
  pub part : List ℕ
  pub most : length frames ≤ most_frames
  pub less : length part < size_of h
  pub before : GivenBefore h frames part old new held

-- some frames were given, and of the last one a prefix was written
pub record GivenCut (h : Y4mHeader) (old new : Spot) (held : Change) : Type 0 where
  pub frames : List (List ℕ)
  pub most : length frames ≤ most_frames
  pub whole : AreWhole h frames
  pub read : ReadOn old (raw frames) new
  pub grown : GrowsByPrefix held.old (raw frames) held.new
  pub lacks : length grown.rest ≤ size_of h

pub record GivenShort (h : Y4mHeader) (old new : Spot) (held : Change) (extra : ℕ) : Type 0 where
  pub frames : List (List ℕ)
  pub part : List ℕ
  pub before : GivenBefore h frames part old new held
  pub over : IsOver (comes_at new)
  pub fewer : length frames < most_frames
  pub count : length part ≡ extra
  pub some : 0 < extra
  pub less : extra < size_of h

pub record GivenMore (h : Y4mHeader) (old new : Spot) (held : Change) : Type 0 where
  pub frames : List (List ℕ)
  pub next : ℕ
  pub before : GivenBefore h frames (next ∷ []) old new held
  pub all : length frames ≡ most_frames

pub record GivenBroken (h : Y4mHeader) (old new : Spot) (held : Change) (fault : Y4mFault) : Type 0 where
  pub frames : List (List ℕ)
  pub part : List ℕ
  pub whole : AreWhole h frames
  pub gave : Gave (comes_at old) (raw frames ++ part) (comes_at new)
  pub grown : Grows held.old (raw frames) held.new
  pub broken : IsBroken fault (comes_at new)
  pub most : length frames ≤ most_frames
  pub less : length part < size_of h

-- when each error comes
unfoldable pub GivingStops : Y4mHeader → Spot → Spot → Change → Change → UnpackError → Type 0
GivingStops h old new left held errors.Read = left.Failed × GivenLost h old new held
GivingStops h old new left held errors.Write = held.Failed × GivenCut h old new held
GivingStops h old new left held (errors.ShortFrame extra) = IsAtEnd left.new × GivenShort h old new held extra
GivingStops h old new left held errors.TooManyFrames = GivenMore h old new held
GivingStops h old new left held (errors.Y4m fault) = GivenBroken h old new held fault
GivingStops h old new left held errors.Memory = GivenLost h old new held ⊎ GivenCut h old new held
