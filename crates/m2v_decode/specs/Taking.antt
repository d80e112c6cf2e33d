-- A decoder at work takes in a picture whose rows were read elsewhere.
use Rattle.std.specs.Prelude.{◌≡◌, ◌+◌, true, false, ◌++◌, Option, Some, None, IsSome, if◌then◌else◌}
use Rattle.m2v_plane.specs.Sizes.{IsSize}
use Rattle.m2v_plane.specs.Samples.{Samples}
use Rattle.m2v_order.specs.Display.{Holder, handed, held_after}
use Rattle.m2v_model.specs.declared.state.Sequence.{Sequence}
use Rattle.m2v_model.specs.declared.state.State.{State}
use Rattle.m2v_model.specs.States.{dims_of, is_frame_end, first_or}
use Rattle.m2v_model.specs.Decoding.{low_delay_of}
use Rattle.m2v_dec_rows.specs.m2v_dec_picture.Frames.{store_of, HaveSize}
use Rattle.m2v_dec_rows.specs.declared.opened.Opened.{Opened}
use Rattle.m2v_decode.specs.declared.course.Course.{Course}
use Rattle.m2v_decode.specs.Decoding.{queue_of}
use Rattle.m2v_decode.specs.Course.{IsFresh, frame_list}
use Rattle.m2v_decode.specs.Rebuilt.{open_of, frames_behind}

-- a picture can be taken in behind headers: it stands behind a sequence header, the frames at hand have its size, and
-- where it is a second field its first one is there
pub record CanTake (c : Course) (o : Opened) (after : State) : Type 0 where
  pub first : Sequence
  pub sequence : Sequence
  pub first_is : after.first ≡ Some first
  pub in_force : after.sequence ≡ Some sequence
  pub same : first_or c.state.first first ≡ first
  pub size : IsSize o.dims
  pub dims : dims_of sequence ≡ o.dims
  pub frames : HaveSize o.dims c.gallery
  pub closed : c.gallery.reading ≡ None
  pub waits : o.context.second ≡ true → IsSome c.gallery.current
  pub fresh : IsFresh c.state.first c.queue.anchor
  pub low : c.queue.low_delay ≡ low_delay_of c.state.first

-- the frames on their way to the display, behind headers
abbrev pub queue_behind : Course → State → Holder Samples
queue_behind c after = queue_of (low_delay_of after.first) c.queue.anchor

-- the frame that the picture ends
abbrev pub frame_ended : Opened → Samples → Option Samples
frame_ended o frame = if is_frame_end (open_of o) then Some frame else None

-- a picture with this frame was taken in: it is counted, and its frame shown at once or held
pub record TookIn (old : Course) (o : Opened) (after : State) (frame : Samples) (new : Course) : Type 0 where
  pub state : new.state ≡ record after { headers_only = false }
  pub store : store_of new.gallery ≡ frames_behind o frame (store_of old.gallery)
  pub reading : new.gallery.reading ≡ None
  pub sizes : HaveSize o.dims new.gallery
  pub ready : new.ready.items ≡ old.ready.items ++ handed (queue_behind old after) (frame_list (frame_ended o frame) o.note.info.kind)
  pub queue : new.queue ≡ held_after (queue_behind old after) (frame_list (frame_ended o frame) o.note.info.kind)
  pub pictures : new.pictures ≡ old.pictures + 1
  pub dropped : new.dropped ≡ old.dropped + (if o.note.dropped then 1 else 0)
  pub shown : new.shown ≡ old.shown
