-- Decoding under way: what stands between two pieces.
use Rattle.std.specs.Prelude.{◌≡◌, ℕ, ◌+◌, ◌<◌, ◌≤◌, Bool, true, false, List, [], ◌++◌, length, map, Option, Some, None, Err}
use Rattle.m2v_port.specs.Ends.{Change}
use Rattle.m2v_port.specs.Port.{Moves, Grows, GrowsByPrefix}
use Rattle.m2v_plane.specs.Samples.{Samples}
use Rattle.m2v_plane.specs.Raw.{raw, crop}
use Rattle.m2v_model.specs.Pictures.{Events, pictures_in}
use Rattle.m2v_model.specs.Pieces.{most_input}
use Rattle.m2v_model.specs.ByPieces.{end_read}
use Rattle.m2v_dec_piece.specs.declared.answer.DecodeError.{DecodeError}
use Rattle.m2v_dec_piece.specs.declared.answer.DecodeError.TheVariants as errors
use Rattle.m2v_dec_piece.specs.Cutting.{Cutting, left_of, start_of as start_of_rest}
use Rattle.m2v_decode.specs.Decoding.{Decoding, between, due_of, dropped_in, Agrees, ShowsFrames, Finished}
use Rattle.m2v_decode.specs.declared.answer.Decoded.{Decoded}
use Rattle.m2v_decode.specs.Answers.{PiecesRead, place_behind}

-- frames as raw video
abbrev pub raw_of : List Samples → List ℕ
raw_of frames = raw (map crop frames)

-- a cutter that has read nothing
abbrev pub before_all : Cutting
before_all = record { place = 0; unread = []; begun = false; ended = false; failed = false }

-- why bytes weren't written whole: output failed or memory ran out, and a prefix of them stands
abbrev pub Cuts : List ℕ → Change → DecodeError → Type 0
Cuts bytes held errors.Read = ⊥
Cuts bytes held errors.Write = held.Failed × GrowsByPrefix held.old bytes held.new
Cuts bytes held (errors.Stream f) = ⊥
Cuts bytes held errors.TooLong = ⊥
Cuts bytes held errors.PictureTooLarge = ⊥
Cuts bytes held errors.Memory = GrowsByPrefix held.old bytes held.new

-- frames were handed out: all else stays
pub record Stays (old new : Decoding) : Type 0 where
  pub between_is : between new ≡ between old
  pub anchor : old.ended ≡ false → new.anchor ≡ old.anchor
  pub ended : new.ended ≡ old.ended
  pub failed : new.failed ≡ old.failed
  pub pictures : new.pictures ≡ old.pictures
  pub dropped : new.dropped ≡ old.dropped

-- the frames that were due were handed out
pub record HasPut (old new : Decoding) : Type 0 where
  pub none : due_of new ≡ []
  pub stays : Stays old new
  pub open stays use *
  pub shown : new.shown ≡ old.shown + length (due_of old)

-- the first pieces of the text were read, which lie in its first bytes, and the frames due from them written
pub record Reached (taken : ℕ) (text : List ℕ) (start : ℕ) (others : List (List ℕ)) (frames : List Samples) (d : Decoding) : Type 0 where
  pub events : Events
  pub begun : PiecesRead text events (between d) others
  pub place : start ≡ place_behind begun
  pub within : 0 < length begun.first → start ≤ taken
  pub shows : (low : Bool) → Agrees low d.state.first → ShowsFrames low None [] (pictures_in events) d.anchor frames
  pub counted : d.pictures ≡ length (pictures_in events)
  pub dropped : d.dropped ≡ dropped_in (pictures_in events)

-- the frames that a decoder handed out were written, and none of them is due
pub record Written (held held_then : Option (List ℕ)) (d : Decoding) : Type 0 where
  pub frames : List Samples
  pub grown : Grows held (raw_of frames) held_then
  pub shown : d.shown ≡ length frames
  pub none : d.ready ≡ []
  pub going : d.ended ≡ false
  pub sound : d.failed ≡ false

-- bytes were read and frames written
pub record Progress (left held : Change) (c : Cutting) (d : Decoding) : Type 0 where
  pub bytes : List ℕ
  pub moved : Moves left.old bytes left.new
  pub written : Written held.old held.new d
  pub open written use *
  pub taken : (rest : List ℕ) → left.new ≡ Some rest → c.place + length c.unread ≤ length bytes
  pub told : (rest : List ℕ) → left.new ≡ Some rest → Reached (length bytes) (bytes ++ rest) (start_of_rest c rest) (left_of c rest) frames d

-- all pieces were read
pub record IsDone (left held : Change) (c : Cutting) (d : Decoding) : Type 0 where
  pub bytes : List ℕ
  pub moved : Moves left.old bytes left.new
  pub written : Written held.old held.new d
  pub open written use *
  pub over : c.ended ≡ true
  pub most : c.place ≤ most_input
  pub told : (rest : List ℕ) → left.new ≡ Some rest → Reached (length bytes) (bytes ++ rest) c.place [] frames d

-- the end of the text was read, and the frames due then written
pub record Ends (old : Decoding) (end : ℕ) (d : Decoded) (held : Change) : Type 0 where
  pub new : Decoding
  pub finished : Finished old end new
  pub grown : Grows held.old (raw_of (due_of new)) held.new
  pub numbers : d ≡ record { frames = old.shown + length (due_of new); pictures = old.pictures; dropped = old.dropped }

-- why not
abbrev pub EndFails : Decoding → ℕ → Change → DecodeError → Type 0
EndFails old end held errors.Read = ⊥
EndFails old end held errors.Write = held.Failed × ((new : Decoding) × Finished old end new × GrowsByPrefix held.old (raw_of (due_of new)) held.new)
EndFails old end held (errors.Stream f) = (end_read (between old) end ≡ Err (f.kind, f.place)) × (held.new ≡ held.old)
EndFails old end held errors.TooLong = ⊥
EndFails old end held errors.PictureTooLarge = ⊥
EndFails old end held errors.Memory = (new : Decoding) × Finished old end new × GrowsByPrefix held.old (raw_of (due_of new)) held.new
