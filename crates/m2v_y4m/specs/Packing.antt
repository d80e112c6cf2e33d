-- The steps of packing: what the next frame does.
use Rattle.std.specs.Prelude.{ℕ, ◌≡◌, ◌⊎◌, ◌+◌, ◌<◌, List, [], length, take, codes}
use Rattle.m2v_port.specs.Ends.{Change}
use Rattle.m2v_port.specs.Port.{Moves, MovesFewer, IsAtEnd, Grows, GrowsByPrefix}
use Rattle.m2v_plane.specs.Raw.{raw}
use Rattle.m2v_y4m.specs.declared.answer.EncodeFault.{EncodeFault}
use Rattle.m2v_y4m.specs.declared.answer.EncodeFault.TheVariants.{Read, Write, ShortFrame, TooManyFrames, Memory}
use Rattle.m2v_y4m.specs.declared.header.Y4mHeader.{Y4mHeader}
use Rattle.m2v_y4m.specs.Frames.{AreWhole, size_of}
use Rattle.m2v_y4m.specs.Writing.{frame_text, y4m_text}

-- room for a frame behind its line, which stands there
pub record IsRoom (h : Y4mHeader) (text : List ℕ) : Type 0 where
  pub line : take 6 text ≡ codes "FRAME\n"
  pub room : length text ≡ 6 + size_of h

-- So many frames were read and their text written.
pub record SoFar (h : Y4mHeader) (number : ℕ) (left held : Change) : Type 0 where
  pub frames : List (List ℕ)
  pub count : length frames ≡ number
  pub whole : AreWhole h frames
  pub moved : Moves left.old (raw frames) left.new
  pub grown : Grows held.old (y4m_text h frames) held.new

-- the next frame was read, and written behind its line
pub record FramePacked (size : ℕ) (left held : Change) : Type 0 where
  pub frame : List ℕ
  pub whole : length frame ≡ size
  pub moved : Moves left.old frame left.new
  pub grown : Grows held.old (frame_text frame) held.new

-- the next frame was read, and a prefix of it written behind its line
pub record FrameCut (size : ℕ) (left held : Change) : Type 0 where
  pub frame : List ℕ
  pub whole : length frame ≡ size
  pub moved : Moves left.old frame left.new
  pub grown : GrowsByPrefix held.old (frame_text frame) held.new

-- no frame was left
pub record NoFrame (left held : Change) : Type 0 where
  pub moved : Moves left.old [] left.new
  pub end : IsAtEnd left.new
  pub same : held.new ≡ held.old

-- the input ended inside the next frame
pub record FrameShort (size : ℕ) (left held : Change) (extra : ℕ) : Type 0 where
  pub moved : MovesFewer left.old size left.new
  pub count : length moved.part ≡ extra
  pub some : 0 < extra
  pub end : IsAtEnd left.new
  pub same : held.new ≡ held.old

-- reading the next frame failed
pub record FrameLost (size : ℕ) (left held : Change) : Type 0 where
  pub moved : MovesFewer left.old size left.new
  pub same : held.new ≡ held.old

-- why a next frame wasn't packed
unfoldable pub FrameStops : ℕ → Change → Change → EncodeFault → Type 0
FrameStops size left held Read = left.Failed × FrameLost size left held
FrameStops size left held Write = held.Failed × FrameCut size left held
FrameStops size left held (ShortFrame extra) = FrameShort size left held extra
FrameStops size left held TooManyFrames = ⊥
FrameStops size left held Memory = FrameLost size left held ⊎ FrameCut size left held

-- why so many bytes weren't read
unfoldable pub ReadStops : ℕ → Change → EncodeFault → Type 0
ReadStops size left Read = left.Failed × MovesFewer left.old size left.new
ReadStops size left Memory = MovesFewer left.old size left.new
ReadStops size left _ = ⊥
