-- What packing and unpacking answer, and what stands then in input and output.
use Rattle.std.specs.Prelude.{ℕ, ◌≡◌, ◌⊎◌, ◌<◌, ◌≤◌, List, [], ◌∷◌, ◌++◌, length, Some, Result, Ok, Err}
use Rattle.m2v_port.specs.Ends.{Change, Tells}
use Rattle.m2v_port.specs.Port.{Moves, IsAtEnd, Grows, GrowsByPrefix}
use Rattle.m2v_plane.specs.Raw.{raw}
use Rattle.m2v_y4m.specs.declared.answer.PackSummary.{PackSummary}
use Rattle.m2v_y4m.specs.declared.answer.Y4mFault.{Y4mFault}
use Rattle.m2v_y4m.specs.declared.answer.Y4mError.{Y4mError}
use Rattle.m2v_y4m.specs.declared.answer.Y4mError.TheVariants as opening_errors
use Rattle.m2v_y4m.specs.declared.answer.EncodeFault.{EncodeFault}
use Rattle.m2v_y4m.specs.declared.answer.EncodeFault.TheVariants.{Read, Write, ShortFrame, TooManyFrames, Memory}
use Rattle.m2v_y4m.specs.declared.answer.UnpackError.{UnpackError}
use Rattle.m2v_y4m.specs.declared.answer.UnpackError.TheVariants as errors
use Rattle.m2v_y4m.specs.declared.header.Y4mHeader.{Y4mHeader}
use Rattle.m2v_y4m.specs.Header.{opening}
use Rattle.m2v_y4m.specs.Frames.{Coming, Begins, AreWhole, size_of, Y4m, EndsShort}
use Rattle.m2v_y4m.specs.Writing.{y4m_text}
use Rattle.m2v_y4m.specs.Sources.{Standing, Took, TookText}

-- the most frames of raw video
abbrev pub most_frames : ℕ
most_frames = 999999

-- ---- opening

-- when each error of opening comes, and what was taken of the input then
unfoldable pub OpenStops : Change → Y4mError → Type 0
OpenStops left opening_errors.Read = left.Failed × Took left.old left.new
OpenStops left (opening_errors.Y4m fault) = Tells left (λ text. opening text ≡ Err fault) × Took left.old left.new
OpenStops left opening_errors.Memory = Took left.old left.new

-- ---- pack

-- The input was whole frames, and their one text was written; these are its numbers.
pub record Packed (h : Y4mHeader) (left held : Change) (summary : PackSummary) : Type 0 where
  pub frames : List (List ℕ)
  pub most : length frames ≤ most_frames
  pub whole : AreWhole h frames
  pub moved : Moves left.old (raw frames) left.new
  pub end : IsAtEnd left.new
  pub grown : Grows held.old (y4m_text h frames) held.new
  pub numbers : summary ≡ record { frames = length frames; bytes = length (y4m_text h frames) }

-- Some whole frames were read and then a part of the next, and the text of the frames was written.
pub record PackedBefore (h : Y4mHeader) (left held : Change) (frames : List (List ℕ)) (part : List ℕ) : Type 0 where
  pub most : length frames ≤ most_frames
  pub whole : AreWhole h frames
  pub moved : Moves left.old (raw frames ++ part) left.new
  pub grown : Grows held.old (y4m_text h frames) held.new

-- Some whole frames were read and perhaps a part of the next, and a prefix of the frames' text was written.
pub record PackedPart (h : Y4mHeader) (left held : Change) : Type 0 where
  pub frames : List (List ℕ)
  pub part : List ℕ
  pub most : length frames ≤ most_frames
  pub whole : AreWhole h frames
  pub less : length part < size_of h
  pub moved : Moves left.old (raw frames ++ part) left.new
  pub grown : GrowsByPrefix held.old (y4m_text h frames) held.new

-- The input ended inside a frame, of which these many bytes are there.
pub record PackEndedShort (h : Y4mHeader) (left held : Change) (extra : ℕ) : Type 0 where
  pub frames : List (List ℕ)
  pub part : List ℕ
  pub before : PackedBefore h left held frames part
  pub fewer : length frames < most_frames
  pub count : length part ≡ extra
  pub some : 0 < extra
  pub less : extra < size_of h
  pub end : IsAtEnd left.new

-- A byte followed the last frame that raw video may have.
pub record PackWentOn (h : Y4mHeader) (left held : Change) : Type 0 where
  pub frames : List (List ℕ)
  pub next : ℕ
  pub before : PackedBefore h left held frames (next ∷ [])
  pub all : length frames ≡ most_frames

-- When each error comes, and what stands then.
unfoldable pub PackStops : Y4mHeader → Change → Change → EncodeFault → Type 0
PackStops h left held Read = left.Failed × PackedPart h left held
PackStops h left held Write = held.Failed × PackedPart h left held
PackStops h left held (ShortFrame extra) = PackEndedShort h left held extra
PackStops h left held TooManyFrames = PackWentOn h left held
PackStops h left held Memory = PackedPart h left held

-- What stands where packing ended, with success or without.
abbrev pub PackEnds : Y4mHeader → Change → Change → Result PackSummary EncodeFault → Type 0
PackEnds h left held (Ok summary) = Packed h left held summary
PackEnds h left held (Err e) = PackStops h left held e

-- ---- unpack

-- A text of this header gives these raw bytes first.
pub record Gives (text : List ℕ) (header : Y4mHeader) (bytes : List ℕ) : Type 0 where
  pub coming : Coming
  pub rest : List ℕ
  pub begins : Begins text header coming
  pub is : coming.raw ≡ bytes ++ rest

-- The input was a text of this header and these frames, and the frames were written; these are its numbers.
pub record Unpacked (left held : Change) (summary : PackSummary) : Type 0 where
  pub header : Y4mHeader
  pub frames : List (List ℕ)
  pub size : 1 ≤ size_of header
  pub most : length frames ≤ most_frames
  pub whole : AreWhole header frames
  pub text : Tells left (λ text. Y4m text header frames)
  pub end : IsAtEnd left.new
  pub grown : Grows held.old (raw frames) held.new
  pub numbers : summary ≡ record { frames = length frames; bytes = length (raw frames) }

-- The header line of the text was read, and then these whole frames and perhaps a part of the next: so much and no more was
-- taken of the input, but for what was read ahead. They come first of any text that begins so, and of the one that the
-- input told.
pub record FramesRead (left : Change) (at : Standing) (frames : List (List ℕ)) (part : List ℕ) : Type 0 where
  pub most : length frames ≤ most_frames
  pub whole : AreWhole at.header frames
  pub less : length part < size_of at.header
  pub took : TookText left.old (raw frames ++ part) at left.new
  pub text : Tells left (λ text. Gives text at.header (raw frames ++ part))

-- Reading failed or memory ran out: in the header line, and nothing was written; or behind it, and all frames that were read
-- whole were written.
pub data UnpackLost (left held : Change) : Type 0 where
  unopened : Took left.old left.new → held.Unchanged → UnpackLost left held
  opened : (at : Standing) (frames : List (List ℕ)) (part : List ℕ) → FramesRead left at frames part
      → Grows held.old (raw frames) held.new → UnpackLost left held

-- Writing failed, or memory ran out in it: of the last frame that was read perhaps not all was written.
pub record UnpackCut (left held : Change) : Type 0 where
  pub at : Standing
  pub frames : List (List ℕ)
  pub read : FramesRead left at frames []
  pub grown : GrowsByPrefix held.old (raw frames) held.new
  pub lacks : length grown.rest ≤ size_of at.header

-- The text ended inside a frame, of which these many bytes are there; those before it were written.
pub record UnpackEndedShort (left held : Change) (extra : ℕ) : Type 0 where
  pub header : Y4mHeader
  pub frames : List (List ℕ)
  pub fewer : length frames < most_frames
  pub whole : AreWhole header frames
  pub text : Tells left (λ text. EndsShort text header frames extra)
  pub end : IsAtEnd left.new
  pub grown : Grows held.old (raw frames) held.new

-- A byte of a frame followed the last frame that raw video may have.
pub record UnpackWentOn (left held : Change) : Type 0 where
  pub at : Standing
  pub frames : List (List ℕ)
  pub next : ℕ
  pub all : length frames ≡ most_frames
  pub whole : AreWhole at.header frames
  pub took : TookText left.old (raw frames ++ next ∷ []) at left.new
  pub text : Tells left (λ text. Gives text at.header (raw frames ++ next ∷ []))
  pub grown : Grows held.old (raw frames) held.new

-- The text is broken in its header line, and nothing was written; or behind these frames, and they were written.
pub data UnpackBroken (left held : Change) (fault : Y4mFault) : Type 0 where
  in_header : Tells left (λ text. opening text ≡ Err fault) → Took left.old left.new → held.Unchanged → UnpackBroken left held fault
  behind : (header : Y4mHeader) (frames : List (List ℕ)) → length frames ≤ most_frames → AreWhole header frames
      → Tells left (λ text. Begins text header (record { raw = raw frames; fault = Some fault }))
      → Grows held.old (raw frames) held.new → UnpackBroken left held fault

-- When each error comes, and what stands then.
unfoldable pub UnpackStops : Change → Change → UnpackError → Type 0
UnpackStops left held errors.Read = left.Failed × UnpackLost left held
UnpackStops left held errors.Write = held.Failed × UnpackCut left held
UnpackStops left held (errors.ShortFrame extra) = UnpackEndedShort left held extra
UnpackStops left held errors.TooManyFrames = UnpackWentOn left held
UnpackStops left held (errors.Y4m fault) = UnpackBroken left held fault
UnpackStops left held errors.Memory = UnpackLost left held ⊎ UnpackCut left held

-- ---- nothing else comes

-- Memory ran out, or an endpoint failed.
unfoldable pub Hindered : Change → Change → UnpackError → Type 0
Hindered left held errors.Read = left.Failed
Hindered left held errors.Write = held.Failed
Hindered left held (errors.ShortFrame extra) = ⊥
Hindered left held errors.TooManyFrames = ⊥
Hindered left held (errors.Y4m fault) = ⊥
Hindered left held errors.Memory = Unit {0}

-- the answer to a text of these frames
abbrev pub FramesAnswered : Change → Change → List (List ℕ) → Result PackSummary UnpackError → Type 0
FramesAnswered left held frames (Ok summary) =
    Grows held.old (raw frames) held.new × (summary ≡ record { frames = length frames; bytes = length (raw frames) })
FramesAnswered left held frames (Err e) = Hindered left held e

-- this error is the answer
abbrev pub ErrorAnswered : Change → Change → UnpackError → Result PackSummary UnpackError → Type 0
ErrorAnswered left held error (Ok summary) = ⊥
ErrorAnswered left held error (Err e) = (e ≡ error) ⊎ Hindered left held e

-- What is answered to a text, whatever it is: its frames, the part of a frame that it ends in, the last frame that may come,
-- or its first fault.
pub record IsAnswered (left held : Change) (result : Result PackSummary UnpackError) (text : List ℕ) : Type 0 where
  pub frames : (header : Y4mHeader) (frames : List (List ℕ)) → Y4m text header frames → length frames ≤ most_frames
      → FramesAnswered left held frames result
  pub short : (header : Y4mHeader) (frames : List (List ℕ)) (extra : ℕ) → EndsShort text header frames extra → length frames < most_frames
      → ErrorAnswered left held (errors.ShortFrame extra) result
  pub many : (header : Y4mHeader) (frames : List (List ℕ)) (next : ℕ) → Gives text header (raw frames ++ next ∷ []) → AreWhole header frames
      → length frames ≡ most_frames → ErrorAnswered left held errors.TooManyFrames result
  pub header : (fault : Y4mFault) → opening text ≡ Err fault → ErrorAnswered left held (errors.Y4m fault) result
  pub fault : (header : Y4mHeader) (frames : List (List ℕ)) (fault : Y4mFault) → AreWhole header frames
      → Begins text header (record { raw = raw frames; fault = Some fault }) → length frames ≤ most_frames
      → ErrorAnswered left held (errors.Y4m fault) result
