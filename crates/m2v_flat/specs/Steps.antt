-- The steps of coding a raw input: what stands after some frames, and what the next one does.
use Rattle.std.specs.Prelude.{ℕ, ◌≡◌, ◌+◌, ◌<◌, ◌⊎◌, List, [], length, vec_len}
use Rattle.m2v_bits.specs.Bits.{packed, start_code}
use Rattle.m2v_port.specs.Ends.{Change}
use Rattle.m2v_port.specs.Port.{Moves, MovesFewer, IsAtEnd, Grows, GrowsByPrefix}
use Rattle.m2v_plane.specs.Raw.{frame_bytes, raw}
use Rattle.m2v_flat.specs.declared.settings.FlatSettings.{FlatSettings}
use Rattle.m2v_flat.specs.declared.answer.EncodeError.{EncodeError}
use Rattle.m2v_flat.specs.declared.answer.EncodeError.TheVariants.{Read, Write, ShortFrame, NoFrames, TooManyFrames, Memory}
use Rattle.m2v_flat.specs.declared.profile.Coder.{Coder}
use Rattle.m2v_flat.specs.Answers.{HasPassed, AreWhole}
use Rattle.m2v_flat.specs.Flat.{FlatBegun, FlatFrame}

-- the bits that there is room for: a picture of 36 rows of 45 macroblocks, the headers before it and an end code
abbrev pub room_bits : ℕ
room_bits = 262272

-- a coder has room for a frame's bytes, its samples and its bits
pub record IsReady (c : Coder) : Type 0 where
  pub passed : HasPassed c.settings
  pub raw : vec_len c.raw ≡ frame_bytes c.settings.dims
  pub frame : c.frame.dims ≡ c.settings.dims
  pub room : c.out.room + length c.out.written ≡ room_bits

-- So many frames were read and their bytes written, so many of these.
pub record SoFar (s : FlatSettings) (number bytes : ℕ) (left held : Change) : Type 0 where
  pub frames : List (List ℕ)
  pub count : length frames ≡ number
  pub whole : AreWhole s.dims frames
  pub moved : Moves left.old (raw frames) left.new
  pub grown : Grows held.old (FlatBegun s frames) held.new
  pub size : bytes ≡ length (FlatBegun s frames)
  pub unwritten : number ≡ 0 → held.Unchanged

-- a step wrote nothing
pub record Unwritten (held : Change) : Type 0 where
  pub same : held.Unchanged
  pub stays : held.new ≡ held.old

-- the next frame was read, and its bytes written
pub record NextCoded (s : FlatSettings) (number bytes : ℕ) (left held : Change) : Type 0 where
  pub frame : List ℕ
  pub whole : length frame ≡ frame_bytes s.dims
  pub moved : Moves left.old frame left.new
  pub grown : Grows held.old (FlatFrame s number frame) held.new
  pub size : bytes ≡ length (FlatFrame s number frame)

-- the next frame was read, and a prefix of its bytes written
pub record NextCut (s : FlatSettings) (number : ℕ) (left held : Change) : Type 0 where
  pub frame : List ℕ
  pub whole : length frame ≡ frame_bytes s.dims
  pub moved : Moves left.old frame left.new
  pub grown : GrowsByPrefix held.old (FlatFrame s number frame) held.new

-- no frame was left
pub record NextNone (left held : Change) : Type 0 where
  pub moved : Moves left.old [] left.new
  pub end : IsAtEnd left.new
  pub unwritten : Unwritten held

-- the input ended inside the next frame
pub record NextShort (s : FlatSettings) (left held : Change) (extra : ℕ) : Type 0 where
  pub part : List ℕ
  pub moved : Moves left.old part left.new
  pub count : length part ≡ extra
  pub some : 0 < extra
  pub less : extra < frame_bytes s.dims
  pub end : IsAtEnd left.new
  pub unwritten : Unwritten held

-- reading the next frame failed
pub record NextLost (s : FlatSettings) (left held : Change) : Type 0 where
  pub moved : MovesFewer left.old (frame_bytes s.dims) left.new
  pub unwritten : Unwritten held

-- why a next frame wasn't coded
unfoldable pub NextStops : FlatSettings → ℕ → Change → Change → EncodeError → Type 0
NextStops s number left held Read = left.Failed × NextLost s left held
NextStops s number left held Write = held.Failed × NextCut s number left held
NextStops s number left held (ShortFrame extra) = NextShort s left held extra
NextStops s number left held NoFrames = ⊥
NextStops s number left held TooManyFrames = ⊥
NextStops s number left held Memory = NextLost s left held ⊎ NextCut s number left held

-- why the stream of so many frames wasn't ended
unfoldable pub EndStops : ℕ → Change → EncodeError → Type 0
EndStops number held Read = ⊥
EndStops number held Write = held.Failed × (0 < number) × GrowsByPrefix held.old (packed (start_code 0xB7)) held.new
EndStops number held (ShortFrame extra) = ⊥
EndStops number held NoFrames = (number ≡ 0) × Unwritten held
EndStops number held TooManyFrames = ⊥
EndStops number held Memory = (0 < number) × GrowsByPrefix held.old (packed (start_code 0xB7)) held.new

-- a call stopped with this error: its endpoint failed, for which the first error stands, or memory ran out
abbrev pub StoppedBy : EncodeError → Change → EncodeError → Type 0
StoppedBy failed end e = ((e ≡ failed) × end.Failed) ⊎ (e ≡ Memory)

-- so many bytes weren't read
pub record ReadStops (size : ℕ) (left : Change) (e : EncodeError) : Type 0 where
  pub why : StoppedBy Read left e
  pub moved : MovesFewer left.old size left.new

-- some bytes weren't written whole
pub record PutStops (bytes : List ℕ) (held : Change) (e : EncodeError) : Type 0 where
  pub why : StoppedBy Write held e
  pub grown : GrowsByPrefix held.old bytes held.new
