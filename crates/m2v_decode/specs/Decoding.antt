-- What contracts see of a decoder, and what a piece does to it.
use Rattle.std.specs.Prelude.{◌≡◌, ℕ, ◌+◌, ◌≤◌, ◌⊎◌, Bool, true, false, List, [], ◌∷◌, ◌++◌, length, map, filter, Option, Some, None, option_to_list, Ok, Err, if◌then◌else◌}
use Rattle.m2v_plane.specs.Samples.{Samples}
use Rattle.m2v_order.specs.Display.{Holder, is_kept, handed, held_after}
use Rattle.m2v_model.specs.declared.state.Sequence.{Sequence}
use Rattle.m2v_model.specs.declared.notes.Notes.{Notes}
use Rattle.m2v_model.specs.Pictures.{Picture, Pictures, Events, pictures_in, frames_in}
use Rattle.m2v_model.specs.PieceNotes.{noted, notes_of}
use Rattle.m2v_model.specs.Decoding.{is_dropped}
use Rattle.m2v_model.specs.declared.state.State.{State}
use Rattle.m2v_model.specs.States.{at_first}
use Rattle.m2v_model.specs.ByPieces.{Between, piece_read, end_read}
use Rattle.m2v_dec_rows.specs.m2v_dec_picture.Frames.{Frames, none_at_hand, store_of}
use Rattle.m2v_dec_piece.specs.declared.answer.DecodeError.{DecodeError}
use Rattle.m2v_dec_piece.specs.declared.answer.DecodeError.TheVariants as errors
pub use Rattle.m2v_dec_rows.specs.Opened.{whole_of}

-- the headers in force and the frames at hand between two pieces; the anchor that waits to be shown, the frames that are
-- due before the end and weren't handed out, and whether the end has come; how many pictures were decoded or dropped, how
-- many of them dropped, and how many frames handed out; whether no piece may be decoded any more: a call answered an error,
-- or headers alone were read, and whether it is that
pub record Decoding : Type 0 where
  pub state : State
  pub frames : Frames
  pub anchor : Option Samples
  pub ready : List Samples
  pub ended : Bool
  pub failed : Bool
  pub skims : Bool
  pub pictures : ℕ
  pub dropped : ℕ
  pub shown : ℕ

-- what the definitions say stands between two pieces
abbrev pub between : Decoding → Between
between d = record { state = d.state; store = store_of d.frames }

-- before the first piece
abbrev pub at_start : Decoding
at_start = record { state = at_first; frames = none_at_hand; anchor = None; ready = []; ended = false; failed = false; skims = false; pictures = 0; dropped = 0; shown = 0 }

-- the headers of a piece may be read alone: no call answered an error
abbrev pub CanSkim : Decoding → Type 0
CanSkim d = (d.failed ≡ false) ⊎ (d.skims ≡ true)

-- the frames that are due: behind the end the last anchor too
abbrev pub due_of : Decoding → List Samples
due_of d = d.ready ++ (if d.ended then option_to_list d.anchor else [])

-- pictures as a display queue takes them: the frames of those that aren't dropped, with their types
abbrev pub frame_of : Picture × ℕ → Samples × ℕ
frame_of p = ((p.0).frame, p.1)

abbrev pub decoded_of : Pictures → List (Samples × ℕ)
decoded_of ps = map frame_of (filter (is_kept is_dropped) (frames_in ps))

-- how many pictures are dropped
abbrev pub dropped_in : Pictures → ℕ
dropped_in ps = length (filter is_dropped ps)

-- low_delay is that of the first sequence extension, once there is one
abbrev pub Agrees : Bool → Option Sequence → Type 0
Agrees low None = Unit {0}
Agrees low (Some s) = low ≡ s.extension.low_delay

abbrev pub queue_of : Bool → Option Samples → Holder Samples
queue_of low anchor = record { low_delay = low; anchor = anchor }

-- pictures were decoded, each frame shown or held as display order asks
pub record ShowsFrames (low : Bool) (anchor : Option Samples) (ready : List Samples) (ps : Pictures) (anchor_then : Option Samples) (ready_then : List Samples) : Type 0 where
  pub ready_is : ready_then ≡ ready ++ handed (queue_of low anchor) (decoded_of ps)
  pub anchor_is : anchor_then ≡ (held_after (queue_of low anchor) (decoded_of ps)).anchor

-- a piece that begins at a byte was taken into the decoder, and its pictures counted and shown or held
pub record Onward (old : Decoding) (place : ℕ) (whole : List ℕ) (new : Decoding) : Type 0 where
  pub events : Events
  pub read : piece_read (between old) (place + length whole) whole ≡ Ok (events, between new)
  pub first : (low : Bool) → Agrees low new.state.first → Agrees low old.state.first
  pub shows : (low : Bool) → Agrees low new.state.first → ShowsFrames low old.anchor old.ready (pictures_in events) new.anchor new.ready
  pub counted : new.pictures ≡ old.pictures + length (pictures_in events)
  pub dropped : new.dropped ≡ old.dropped + dropped_in (pictures_in events)
  pub few : length (pictures_in events) ≤ length whole
  pub shown : new.shown ≡ old.shown
  pub going : new.ended ≡ false
  pub sound : new.failed ≡ false

-- a piece that begins at a byte was read, and its pictures decoded or dropped: the same, with what is noted of it
pub record Advanced (old : Decoding) (place : ℕ) (whole : List ℕ) (notes : Notes) (new : Decoding) : Type 0 where
  pub onward : Onward old place whole new
  pub open onward use *
  pub notes_are : noted notes ≡ notes_of place whole events

-- why a piece that begins at a byte wasn't: its first fault; want of memory is the one free answer
abbrev pub Refuses : Decoding → ℕ → List ℕ → DecodeError → Type 0
Refuses old place whole (errors.Stream f) = piece_read (between old) (place + length whole) whole ≡ Err (f.kind, f.place)
Refuses old place whole errors.Memory = Unit {0}
Refuses old place whole errors.Read = ⊥
Refuses old place whole errors.Write = ⊥
Refuses old place whole errors.TooLong = ⊥
Refuses old place whole errors.PictureTooLarge = ⊥

-- a frame was handed out
pub record HandsOut (old : Decoding) (frame : Samples) (new : Decoding) : Type 0 where
  pub due : due_of old ≡ frame ∷ due_of new
  pub state : new.state ≡ old.state
  pub frames : new.frames ≡ old.frames
  pub anchor : old.ended ≡ false → new.anchor ≡ old.anchor
  pub ended : new.ended ≡ old.ended
  pub failed : new.failed ≡ old.failed
  pub pictures : new.pictures ≡ old.pictures
  pub dropped : new.dropped ≡ old.dropped
  pub shown : new.shown ≡ old.shown + 1

-- the end of the text was read
pub record Finished (old : Decoding) (end : ℕ) (new : Decoding) : Type 0 where
  pub read : end_read (between old) end ≡ Ok ([], between new)
  pub first : new.state.first ≡ old.state.first
  pub anchor : new.anchor ≡ old.anchor
  pub ready : new.ready ≡ old.ready
  pub ended : new.ended ≡ true
  pub failed : new.failed ≡ false
  pub pictures : new.pictures ≡ old.pictures
  pub dropped : new.dropped ≡ old.dropped
  pub shown : new.shown ≡ old.shown
