-- What coding a raw input answers, and what stands then in input, output and recon.
use Rattle.std.specs.Prelude.{ℕ, ◌≡◌, ◌<◌, ◌≤◌, ◌/◌, All, List, ◌⊎◌, [], ◌∷◌, ◌++◌, length}
use Rattle.m2v_port.specs.Ends.{Change}
use Rattle.m2v_port.specs.Port.{Moves, IsAtEnd, Grows, GrowsByPrefix}
use Rattle.m2v_plane.specs.Raw.{frame_bytes, raw}
use Rattle.m2v_set.specs.declared.settings.Settings.{Settings}
use Rattle.m2v_set.specs.Numbers.{dims_of}
use Rattle.m2v_law_shown.specs.m2v_enc_stream.Streams.{coded_all, Coded, Recon, CodedBegun, ReconBegun}
use Rattle.m2v_law_shown.specs.Headline.{Headline}
use Rattle.m2v_encode.specs.declared.answer.Summary.{Summary}
use Rattle.m2v_encode.specs.declared.answer.EncodeError.{EncodeError}
use Rattle.m2v_encode.specs.declared.answer.EncodeError.TheVariants.{Read, Write, ShortFrame, NoFrames, TooManyFrames, Memory}

-- the most frames of a raw input
abbrev pub most_frames : ℕ
most_frames = 999999

-- each of these has the bytes of a frame
abbrev pub AreWhole : Settings → List (List ℕ) → Type 0
AreWhole s frames = All (λ frame. length frame ≡ frame_bytes (dims_of s)) frames

-- the numbers of a stream: frames, pictures, bytes, and the zero bytes behind pictures among them
abbrev pub numbers_of : Settings → List (List ℕ) → Summary
numbers_of s frames = record {
  frames = length frames;
  pictures = (coded_all s frames).pictures;
  bytes = length (Coded s frames);
  stuffing = (coded_all s frames).zeros / 8;
}

-- The input was whole frames, one at least; the whole stream was written, and recon has the frames that it decodes to. The
-- stream is lawful, and keeps the decoder's buffer.
pub record AllCoded (s : Settings) (left held recon : Change) (summary : Summary) : Type 0 where
  pub frames : List (List ℕ)
  pub some : 1 ≤ length frames
  pub most : length frames ≤ most_frames
  pub whole : AreWhole s frames
  pub moved : Moves left.old (raw frames) left.new
  pub end : IsAtEnd left.new
  pub grown : Grows held.old (Coded s frames) held.new
  pub shown : Grows recon.old (raw (Recon s frames)) recon.new
  pub numbers : summary ≡ numbers_of s frames
  pub headline : Headline s frames

-- Some whole frames were read and then a part of the next; output and recon have grown by the groups whose next I frame
-- was read whole. Where no frame was read they are as they were, their counts too.
pub record Unended (s : Settings) (left held recon : Change) (frames : List (List ℕ)) (part : List ℕ) : Type 0 where
  pub most : length frames ≤ most_frames
  pub whole : AreWhole s frames
  pub moved : Moves left.old (raw frames ++ part) left.new
  pub grown : Grows held.old (CodedBegun s frames) held.new
  pub shown : Grows recon.old (raw (ReconBegun s frames)) recon.new
  pub unwritten : length frames ≡ 0 → held.Unchanged × recon.Unchanged

-- Some whole frames were read and perhaps a part of the next; output and recon have each grown by a prefix of what success
-- would have given for these frames.
pub record CutOff (s : Settings) (left held recon : Change) : Type 0 where
  pub frames : List (List ℕ)
  pub part : List ℕ
  pub most : length frames ≤ most_frames
  pub whole : AreWhole s frames
  pub less : length part < frame_bytes (dims_of s)
  pub moved : Moves left.old (raw frames ++ part) left.new
  pub grown : GrowsByPrefix held.old (Coded s frames) held.new
  pub shown : GrowsByPrefix recon.old (raw (Recon s frames)) recon.new
  pub unwritten : length frames ≡ 0 → held.Unchanged × recon.Unchanged

-- The input ended inside a frame, of which these many bytes are there.
pub record EndedShort (s : Settings) (left held recon : Change) (extra : ℕ) : Type 0 where
  pub frames : List (List ℕ)
  pub part : List ℕ
  pub begun : Unended s left held recon frames part
  pub bytes : All (λ b. b < 256) part
  pub fewer : length frames < most_frames
  pub count : length part ≡ extra
  pub some : 0 < extra
  pub less : extra < frame_bytes (dims_of s)
  pub end : IsAtEnd left.new

-- The input was empty.
pub record WasEmpty (left held recon : Change) : Type 0 where
  pub moved : Moves left.old [] left.new
  pub end : IsAtEnd left.new
  pub same : held.Unchanged × recon.Unchanged

-- A byte followed the last frame that an input may have.
pub record WentOn (s : Settings) (left held recon : Change) : Type 0 where
  pub frames : List (List ℕ)
  pub next : ℕ
  pub begun : Unended s left held recon frames (next ∷ [])
  pub byte : next < 256
  pub all : length frames ≡ most_frames

-- The input failed inside a frame, or before one.
pub record FailedInside (s : Settings) (left held recon : Change) : Type 0 where
  pub frames : List (List ℕ)
  pub part : List ℕ
  pub begun : Unended s left held recon frames part
  pub less : length part < frame_bytes (dims_of s)

-- When each error comes, and what stands then.
unfoldable pub Stops : Settings → Change → Change → Change → EncodeError → Type 0
Stops s left held recon Read = left.Failed × FailedInside s left held recon
Stops s left held recon Write = (held.Failed ⊎ recon.Failed) × CutOff s left held recon
Stops s left held recon (ShortFrame extra) = EndedShort s left held recon extra
Stops s left held recon NoFrames = WasEmpty left held recon
Stops s left held recon TooManyFrames = WentOn s left held recon
Stops s left held recon Memory = CutOff s left held recon
