-- What is told of a stream, part by part: its sequence headers, group headers and decoded pictures.
use Rattle.std.specs.Prelude.{ℕ, Bool, not, nat_eq, if◌then◌else◌, List, [], ◌∷◌, ◌++◌, map, filter, Option, Some, None}
use Rattle.m2v_macroblock.specs.m2v_head.declared.group.GroupInfo.{GroupInfo}
use Rattle.m2v_macroblock.specs.m2v_head.declared.picture.PictureInfo.{PictureInfo}
use Rattle.m2v_macroblock.specs.m2v_head.declared.picture.PictureExtension.{PictureExtension}
use Rattle.m2v_order.specs.m2v_plane.Samples.{Samples, blank}
use Rattle.m2v_order.specs.m2v_plane.Fields.{fields_of, sample_from, or_none}
use Rattle.m2v_macroblock.specs.Predictions.{View}
use Rattle.m2v_model.specs.declared.state.Sequence.{Sequence}
use Rattle.m2v_model.specs.declared.state.Open.{Open}
use Rattle.m2v_model.specs.declared.state.State.{State}
use Rattle.m2v_model.specs.States.{dims_of, is_b, is_frame_end, crowded_by, opened, slice_setup}
use Rattle.m2v_model.specs.Slices.{Slice, slice_start}
use Rattle.m2v_model.specs.Samples.{References, put_in_frame, all_painted}
use Rattle.m2v_model.specs.Streams.{Part, sequence, group, picture, matrices, slice, unread_slice, skipped_unit, ending, over}
use Rattle.m2v_model.specs.Streams.{after as state_after}

-- ---- frames at hand

-- the anchor before the last one, the last one, and the frame of the picture that is open or of the first field that
-- waits; and what the picture that is open is predicted from
pub record Store : Type 0 where
  pub older : Option Samples
  pub newer : Option Samples
  pub current : Option Samples
  pub references : References

-- all samples of a frame, or of none: nothing is read of a frame that isn't there
abbrev pub frame_of : Option Samples → View
frame_of frame = sample_from (fields_of (or_none frame))

abbrev pub no_view : View
no_view = frame_of None

abbrev pub no_references : References
no_references = record { forward = no_view; backward = no_view }

abbrev pub no_frames : Store
no_frames = record { older = None; newer = None; current = None; references = no_references }

-- the reference of a second P field of a structure: for its own parity the last anchor, for the other parity the first
-- field of its own frame
abbrev pub second_field_of : ℕ → Store → View
second_field_of structure store =
    if nat_eq structure 1
    then sample_from (record { top = or_none store.newer; bottom = or_none store.current })
    else sample_from (record { top = or_none store.current; bottom = or_none store.newer })

-- what a picture is predicted from: P pictures from the last anchor, second P fields from the first field of their frame
-- too; B pictures from the last two anchors (clause 7.6.2.1)
unfoldable pub references_by : ℕ → Bool → ℕ → Store → References
references_by kind second_field structure store =
    if is_b kind then record { forward = frame_of store.older; backward = frame_of store.newer }
    else if second_field then record { forward = second_field_of structure store; backward = no_view }
    else record { forward = frame_of store.newer; backward = no_view }

abbrev pub references_of : Open → Store → References
references_of p store = references_by p.info.kind p.second_field p.extension.structure store

-- the frame with a slice of a row
unfoldable pub slice_painted : State → Sequence → Open → References → ℕ → Slice → Samples → Samples
slice_painted st s p refs row x frame =
    all_painted put_in_frame (slice_setup st s p) refs (slice_start (slice_setup st s p).context row p.covered x.info.quantiser) x.macroblocks frame

-- ---- pictures

-- a picture that was decoded, or dropped
pub record Picture : Type 0 where
  pub info : PictureInfo
  pub extension : PictureExtension
  -- a frame picture, or a first field
  pub begins_frame : Bool
  -- a frame picture, or a second field
  pub ends_frame : Bool
  pub dropped : Bool
  -- how many large macroblocks its first row has that has more than two, or 0
  pub crowded_row : ℕ
  -- its frame, a first field's with the lines of that field alone; none of a dropped picture
  pub frame : Samples

abbrev pub Pictures : Type 0
Pictures = List Picture

-- a picture, with the frame behind it
unfoldable pub picture_of : Open → Store → Picture
picture_of p store = record {
  info = p.info;
  extension = p.extension;
  begins_frame = not p.second_field;
  ends_frame = is_frame_end p;
  dropped = p.dropped;
  crowded_row = crowded_by p;
  frame = or_none store.current;
}

-- what is told of a stream, in order
pub data Event : Type 0 where
  sequence_header : Sequence → Event
  group_header : GroupInfo → Event
  coded_picture : Picture → Event

abbrev pub Events : Type 0
Events = List Event

abbrev pub pictures_in : Events → Pictures
pictures_in [] = []
pictures_in (sequence_header s ∷ es) = pictures_in es
pictures_in (group_header g ∷ es) = pictures_in es
pictures_in (coded_picture p ∷ es) = p ∷ pictures_in es

-- the picture that is open is told where it ends
abbrev pub closed : Option Open → Store → Events
closed None store = []
closed (Some p) store = coded_picture (picture_of p store) ∷ []

-- the frames that a picture leaves: an anchor takes the place of the one before, and a first field waits
abbrev pub frames_left : Open → Store → Store
frames_left p store =
    if is_frame_end p
    then (if is_b p.info.kind then record store { current = None } else record store { older = store.newer; newer = store.current; current = None })
    else store

-- the picture that is open ends
abbrev pub picture_ended : Option Open → Store → Store
picture_ended None store = store
picture_ended (Some p) store = record (frames_left p store) { references = no_references }

-- the frame of a picture before its first slice: a second field has that of the first one
abbrev pub fresh : Sequence → Open → Option Samples → Option Samples
fresh s p current = if p.second_field then current else Some (blank (dims_of s) (dims_of s).mb_rows)

-- a picture begins; where its slices stay unread it has no frame
abbrev pub picture_begun : Option Sequence → Open → Store → Store
picture_begun None p store = store
picture_begun (Some s) p store =
    if p.slices_unread then record store { current = None }
    else record store { current = fresh s p store.current; references = references_of p store }

abbrev pub on_frame : (Samples → Samples) → Option Samples → Option Samples
on_frame f (Some frame) = Some (f frame)
on_frame f None = None

abbrev pub sliced : State → Option Sequence → Option Open → ℕ → Slice → Store → Store
sliced st (Some s) (Some p) row x store = record store { current = on_frame (slice_painted st s p store.references row x) store.current }
sliced st s p row x store = store

-- what is told at a part
abbrev pub told_by : State → Store → Part → Events
told_by st store (sequence s) = closed st.picture store ++ sequence_header s ∷ []
told_by st store (group g) = closed st.picture store ++ group_header g ∷ []
told_by st store (picture info extension) = closed st.picture store
told_by st store (matrices m) = []
told_by st store (slice row x) = []
told_by st store (unread_slice row u) = []
told_by st store (skipped_unit u) = []
told_by st store ending = closed st.picture store
told_by st store over = closed st.picture store

-- the frames at hand behind a part
abbrev pub store_after : State → Store → Part → Store
store_after st store (sequence s) = picture_ended st.picture store
store_after st store (group g) = picture_ended st.picture store
store_after st store (picture info extension) = picture_begun st.sequence (opened st info extension) (picture_ended st.picture store)
store_after st store (matrices m) = store
store_after st store (slice row x) = sliced st st.sequence st.picture row x store
store_after st store (unread_slice row u) = store
store_after st store (skipped_unit u) = store
store_after st store ending = picture_ended st.picture store
store_after st store over = picture_ended st.picture store

-- what is told of parts, from a state on, and the frames at hand behind them; the last part ends the picture that is open
unfoldable pub events_from : State → Store → List Part → Events
events_from st store [] = []
events_from st store (p ∷ ps) = told_by st store p ++ events_from (state_after st p) (store_after st store p) ps

unfoldable pub store_from : State → Store → List Part → Store
store_from st store [] = store
store_from st store (p ∷ ps) = store_from (state_after st p) (store_after st store p) ps

-- ---- frames

-- the frames of pictures in decoding order, each with the type of its last picture: a first field whose second field
-- isn't among them makes none
abbrev pub is_ending : Picture → Bool
is_ending p = p.ends_frame

abbrev pub typed : Picture → Picture × ℕ
typed p = (p, p.info.kind)

abbrev pub frames_in : Pictures → List (Picture × ℕ)
frames_in ps = map typed (filter is_ending ps)
