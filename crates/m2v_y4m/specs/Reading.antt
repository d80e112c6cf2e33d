-- Reading a YUV4MPEG2 text: what is read ahead, and what a step does.
use Rattle.std.specs.Prelude.{ℕ, ◌≡◌, ◌⊎◌, ◌<◌, ◌≤◌, List, [], ◌++◌, length, drop, Option, Some, None, IfSome, option_map, Ok, Err}
use Rattle.m2v_port.specs.Port.{Moves, IsAtEnd, Grows, GrowsByPrefix}
use Rattle.m2v_port.specs.Ends.{Change}
use Rattle.m2v_plane.specs.Raw.{raw}
use Rattle.m2v_y4m.specs.declared.answer.Y4mFault.{Y4mFault}
use Rattle.m2v_y4m.specs.declared.answer.UnpackError.{UnpackError}
use Rattle.m2v_y4m.specs.declared.answer.UnpackError.TheVariants as errors
use Rattle.m2v_y4m.specs.declared.header.Y4mHeader.{Y4mHeader}
use Rattle.m2v_y4m.specs.declared.words.Seen.{Seen}
use Rattle.m2v_y4m.specs.declared.answer.Y4mKind.{Y4mKind}
use Rattle.m2v_y4m.specs.Texts.{onward}
use Rattle.m2v_y4m.specs.Header.{fault_at}
use Rattle.m2v_y4m.specs.Frames.{Coming, nothing, broken, frame_line, size_of, AreWhole}
use Rattle.m2v_y4m.specs.Sources.{Standing, Spot, ReadOn, comes_of}

-- what is held grew by so many bytes that went from the front of what was left
pub record Refilled (n : ℕ) (held : List ℕ) (left : Option (List ℕ)) (held_then : List ℕ) (left_then : Option (List ℕ)) : Type 0 where
  pub bytes : List ℕ
  pub count : length bytes ≡ n
  pub moved : Moves left bytes left_then
  pub grown : held_then ≡ held ++ bytes

-- the parameters that were read are within their bounds
pub record IsSeen (s : Seen) : Type 0 where
  pub width : IfSome s.width (λ n. (1 ≤ n) × (n ≤ 1920))
  pub height : IfSome s.height (λ n. (1 ≤ n) × (n ≤ 1152))
  pub rate : IfSome s.rate (λ code. (1 ≤ code) × (code ≤ 8))

-- what was read is held still, behind what was held before
pub record Held (held : List ℕ) (left : Option (List ℕ)) (held_then : List ℕ) (left_then : Option (List ℕ)) : Type 0 where
  pub bytes : List ℕ
  pub moved : Moves left bytes left_then
  pub grown : held_then ≡ held ++ bytes

-- bytes went from the front of the raw bytes to come, where these are told
pub record Gave (old : Option Coming) (bytes : List ℕ) (new : Option Coming) : Type 0 where
  pub was : old ≡ option_map (λ c. record { raw = bytes ++ c.raw; fault = c.fault }) new

-- Inside a frame, which isn't broken.
pub record IsInside (s : Standing) : Type 0 where
  pub some : 1 ≤ s.rest
  pub unbroken : s.fault ≡ None

-- the frame line that was read ahead was taken
pub record TookLine (s t : Standing) : Type 0 where
  pub n : ℕ
  pub fits : n ≤ length s.unread
  pub is : frame_line s.unread ≡ Ok n
  pub after : t ≡ record s { unread = drop n s.unread; line = s.place; place = onward s.place n; rest = size_of s.header }

-- what was read ahead is no frame line
pub record BrokeLine (s t : Standing) : Type 0 where
  pub kind : Y4mKind
  pub is : frame_line s.unread ≡ Err kind
  pub after : t ≡ record s { fault = Some (fault_at kind s.place) }

-- ---- frame by frame

-- what comes of the text from a spot on, where its source tells it
abbrev pub comes_at : Spot → Option Coming
comes_at p = comes_of p.at p.left

-- fewer than so many raw bytes were given
pub record ReadFewer (old : Spot) (bound : ℕ) (new : Spot) : Type 0 where
  pub part : List ℕ
  pub fewer : length part < bound
  pub read : ReadOn old part new

-- the same of the text that is there
pub record GaveFewer (old : Option Coming) (bound : ℕ) (new : Option Coming) : Type 0 where
  pub part : List ℕ
  pub fewer : length part < bound
  pub gave : Gave old part new

-- nothing comes any more, where that is told
abbrev pub IsOver : Option Coming → Type 0
IsOver c = IfSome c (λ c. c ≡ nothing)

-- nothing comes but this fault
abbrev pub IsBroken : Y4mFault → Option Coming → Type 0
IsBroken fault c = IfSome c (λ c. c ≡ broken fault)

-- So many frames were given, and written.
pub record GivenSoFar (header : Y4mHeader) (number : ℕ) (old new : Spot) (held : Change) : Type 0 where
  pub frames : List (List ℕ)
  pub count : length frames ≡ number
  pub whole : AreWhole header frames
  pub read : ReadOn old (raw frames) new
  pub grown : Grows held.old (raw frames) held.new

-- the next frame was given, and written
pub record FrameGiven (size : ℕ) (old new : Spot) (held : Change) : Type 0 where
  pub frame : List ℕ
  pub whole : length frame ≡ size
  pub read : ReadOn old frame new
  pub grown : Grows held.old frame held.new

-- the next frame was given, and a prefix of it written
pub record FrameCut (size : ℕ) (old new : Spot) (held : Change) : Type 0 where
  pub frame : List ℕ
  pub whole : length frame ≡ size
  pub read : ReadOn old frame new
  pub grown : GrowsByPrefix held.old frame held.new

-- no frame was left
pub record NoFrame (old new : Spot) (held : Change) : Type 0 where
  pub read : ReadOn old [] new
  pub over : IsOver (comes_at new)
  pub same : held.new ≡ held.old

-- the text ended inside the next frame
pub record FrameShort (size : ℕ) (old new : Spot) (held : Change) (extra : ℕ) : Type 0 where
  pub part : List ℕ
  pub read : ReadOn old part new
  pub over : IsOver (comes_at new)
  pub count : length part ≡ extra
  pub some : 0 < extra
  pub less : extra < size
  pub same : held.new ≡ held.old

-- reading the next frame failed
pub record FrameLost (size : ℕ) (old new : Spot) (held : Change) : Type 0 where
  pub read : ReadFewer old size new
  pub same : held.new ≡ held.old

-- the text broke before the next frame
pub record FrameBroken (size : ℕ) (fault : Y4mFault) (old new : Spot) (held : Change) : Type 0 where
  pub gave : GaveFewer (comes_at old) size (comes_at new)
  pub broken : IsBroken fault (comes_at new)
  pub same : held.new ≡ held.old

-- why a next frame wasn't unpacked
unfoldable pub FrameStops : ℕ → Change → Spot → Spot → Change → UnpackError → Type 0
FrameStops size left old new held errors.Read = left.Failed × FrameLost size old new held
FrameStops size left old new held errors.Write = held.Failed × FrameCut size old new held
FrameStops size left old new held (errors.ShortFrame extra) = IsAtEnd left.new × FrameShort size old new held extra
FrameStops size left old new held errors.TooManyFrames = ⊥
FrameStops size left old new held (errors.Y4m fault) = FrameBroken size fault old new held
FrameStops size left old new held errors.Memory = FrameLost size old new held ⊎ FrameCut size old new held

-- why so many raw bytes weren't read
unfoldable pub ReadStops : ℕ → Change → Spot → Spot → UnpackError → Type 0
ReadStops size left old new errors.Read = left.Failed × ReadFewer old size new
ReadStops size left old new (errors.Y4m fault) = IsBroken fault (comes_at new) × GaveFewer (comes_at old) size (comes_at new)
ReadStops size left old new errors.Memory = ReadFewer old size new
ReadStops size left old new _ = ⊥
