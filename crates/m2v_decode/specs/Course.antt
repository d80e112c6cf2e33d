-- A decoder at work in a piece: what a part of the stream does to it.
use Rattle.std.specs.Prelude.{◌≡◌, ℕ, ◌+◌, ◌^◌, ◌≤◌, true, false, ◌||◌, List, [], ◌∷◌, ◌++◌, length, map, Bool, Option, Some, None, IsSome, option_to_list, Result, Ok, Err, if◌then◌else◌}
use Rattle.m2v_plane.specs.declared.dims.Dims.{Dims}
use Rattle.m2v_plane.specs.Sizes.{IsSize}
use Rattle.m2v_plane.specs.Samples.{Samples}
use Rattle.m2v_head.specs.Fits.{PictureFits}
use Rattle.m2v_order.specs.Display.{handed, held_after}
use Rattle.m2v_model.specs.declared.fault.FaultKind.{FaultKind}
use Rattle.m2v_model.specs.declared.stop.Stop.{Stop}
use Rattle.m2v_model.specs.declared.state.Sequence.{Sequence}
use Rattle.m2v_model.specs.declared.state.Open.{Open}
use Rattle.m2v_model.specs.declared.state.FirstField.{FirstField}
use Rattle.m2v_model.specs.declared.state.State.{State}
use Rattle.m2v_model.specs.declared.notes.PictureNote.{PictureNote}
use Rattle.m2v_model.specs.Units.{Units, unit_bits, body}
use Rattle.m2v_model.specs.Slices.{Slice, slice_at, large_in}
use Rattle.m2v_model.specs.Streams.{Part, after}
use Rattle.m2v_model.specs.States.{dims_of, is_b, is_frame_end, drops, slice_setup, after_end}
use Rattle.m2v_model.specs.Pictures.{Store, Events, pictures_in, closed, picture_ended, picture_begun, sliced, told_by, store_after}
use Rattle.m2v_model.specs.Lawful.{sequences_in}
use Rattle.m2v_model.specs.PieceNotes.{PieceNotes, noted, header_pair, has_group, first_note}
use Rattle.m2v_model.specs.Decoding.{low_delay_of}
use Rattle.m2v_model.specs.ByPieces.{Between, units_read}
use Rattle.m2v_dec_rows.specs.m2v_dec_unit.Reads.{IsReadPicture}
use Rattle.m2v_dec_rows.specs.m2v_dec_unit.Among.{AreMatrices}
use Rattle.m2v_dec_rows.specs.m2v_dec_picture.declared.slices.SliceEnd.{SliceEnd}
use Rattle.m2v_dec_rows.specs.m2v_dec_picture.Frames.{Frames, none_at_hand, store_of, reading_of, HasReferences, HaveSize}
use Rattle.m2v_dec_rows.specs.Headers.{IsBetween}
use Rattle.m2v_decode.specs.declared.course.Course.{Course}
use Rattle.m2v_decode.specs.declared.halt.Halt.{Halt}
use Rattle.m2v_decode.specs.declared.halt.Halt.TheVariants.{Fault, Memory}
use Rattle.m2v_decode.specs.Decoding.{Decoding, Agrees, ShowsFrames, decoded_of, dropped_in}

-- what the definitions say of a decoder at work: the headers in force, and the frames at hand
abbrev pub between_of : Course → Between
between_of c = record { state = c.state; store = store_of c.gallery }

-- what contracts see of a decoder
abbrev pub seen_as : Course → Bool → Bool → Bool → Decoding
seen_as c ended failed skims = record {
  state = c.state;
  frames = c.gallery;
  anchor = c.queue.anchor;
  ready = c.ready.items;
  ended = ended;
  failed = failed;
  skims = skims;
  pictures = c.pictures;
  dropped = c.dropped;
  shown = c.shown;
}

-- ---- what is known between two units

-- the picture that is open: one that is dropped is a B picture, and its slices stay unread
pub record IsOpen (p : Open) : Type 0 where
  pub fits : PictureFits p.info × IsReadPicture p.info p.extension
  pub unread : p.slices_unread ≡ p.dropped
  pub dropped : p.dropped ≡ true → is_b p.info.kind ≡ true
  pub covered : p.covered ≤ 2 ^ 16
  pub large : p.large_macroblocks ≤ p.covered

-- its frame is there, and each field that it may be predicted from; one that is dropped has none
pub record HasFrame (p : Open) (f : Frames) : Type 0 where
  pub reading : f.reading ≡ reading_of p
  pub current : p.dropped ≡ false → IsSome f.current
  pub decoded : p.dropped ≡ false → HasReferences p.references f
  pub none : p.dropped ≡ true → f.current ≡ None

-- a picture is open behind a sequence header alone
abbrev pub FitsOpen : Option Open → Option Sequence → Frames → Type 0
FitsOpen None s f = f.reading ≡ None
FitsOpen (Some p) (Some s) f = IsOpen p × HasFrame p f
FitsOpen (Some p) None f = ⊥

-- all frames have the size of the sequence, which doesn't change
abbrev pub HaveSizes : Option Sequence → Option Sequence → Frames → Type 0
HaveSizes (Some first) (Some s) f = IsSize (dims_of s) × (dims_of first ≡ dims_of s) × HaveSize (dims_of s) f
HaveSizes None None f = f ≡ none_at_hand
HaveSizes first s f = ⊥

-- the frame of a first field that waits, and isn't dropped, is there
abbrev pub HasFirstField : State → Option FirstField → Option Samples → Type 0
HasFirstField st None current = Unit {0}
HasFirstField st (Some w) current = drops st w.kind ≡ false → IsSome current

-- the anchors that were counted are there
pub record HasAnchors (st : State) (store : Store) : Type 0 where
  pub newer : 1 ≤ st.anchors → IsSome store.newer
  pub older : 2 ≤ st.anchors → IsSome store.older
  pub first_field : HasFirstField st st.waiting store.current

-- nothing was decoded before the first sequence header
abbrev pub IsFresh : Option Sequence → Option Samples → Type 0
IsFresh None anchor = anchor ≡ None
IsFresh (Some first) anchor = Unit {0}

-- the headers in force and the frames at hand agree
pub record AreSound (st : State) (f : Frames) : Type 0 where
  pub headers_only : st.headers_only ≡ false
  pub matrices : AreMatrices st
  pub sizes : HaveSizes st.first st.sequence f
  pub fits : FitsOpen st.picture st.sequence f
  -- an anchor that is open is counted already
  pub anchors : HasAnchors st (picture_ended st.picture (store_of f))

pub record IsSoundCourse (c : Course) : Type 0 where
  pub frames : AreSound c.state c.gallery
  pub fresh : IsFresh c.state.first c.queue.anchor
  pub low : c.queue.low_delay ≡ low_delay_of c.state.first
  pub counts : c.shown + (length c.ready.items + length (option_to_list c.queue.anchor)) ≤ c.pictures
  pub dropped : c.dropped ≤ c.pictures

-- a decoder between two pieces: what is known of it, where pieces may be decoded, and where headers alone were read
pub record IsSoundDecoder (c : Course) (failed skims : Bool) : Type 0 where
  pub going : failed ≡ false → IsSoundCourse c × (c.state.picture ≡ None)
  pub skimming : skims ≡ true → (failed ≡ true) × IsBetween c.state

-- ---- what a part does

-- the first of two notes
abbrev pub note_or : Option PictureNote → Option PictureNote → Option PictureNote
note_or (Some note) other = Some note
note_or None other = other

-- notes with what is told then, of a piece whose picture start code ends at a bit
abbrev pub with_events : ℕ → PieceNotes → Events → PieceNotes
with_events code_end n es = record {
  sequences = n.sequences ++ map header_pair (sequences_in es);
  group = n.group || has_group es;
  picture = note_or n.picture (first_note code_end (pictures_in es));
}

-- nothing is noted yet
abbrev pub no_notes : PieceNotes
no_notes = record { sequences = []; group = false; picture = None }

-- headers and pictures were told, and each frame shown or held as display order asks
pub record Emits (old : Course) (es : Events) (new : Course) : Type 0 where
  pub ready : new.ready.items ≡ old.ready.items ++ handed old.queue (decoded_of (pictures_in es))
  pub anchor : new.queue.anchor ≡ (held_after old.queue (decoded_of (pictures_in es))).anchor
  pub pictures : new.pictures ≡ old.pictures + length (pictures_in es)
  pub dropped : new.dropped ≡ old.dropped + dropped_in (pictures_in es)
  pub notes : noted new.notes ≡ with_events old.code_end (noted old.notes) es
  pub code_end : new.code_end ≡ old.code_end
  pub shown : new.shown ≡ old.shown

-- a part was read
pub record Steps (old : Course) (p : Part) (new : Course) : Type 0 where
  pub state : new.state ≡ after old.state p
  pub store : store_of new.gallery ≡ store_after old.state (store_of old.gallery) p
  pub emits : Emits old (told_by old.state (store_of old.gallery) p) new
  pub sound : IsSoundCourse new

-- the frame that a picture ended, with its type
abbrev pub frame_list : Option Samples → ℕ → List (Samples × ℕ)
frame_list None kind = []
frame_list (Some frame) kind = (frame, kind) ∷ []

-- the headers in force stay, how many frames were shown, and where the piece's picture start code ends
pub record Stays (old new : Course) : Type 0 where
  pub state : new.state ≡ old.state
  pub shown : new.shown ≡ old.shown
  pub code_end : new.code_end ≡ old.code_end

-- and no picture is counted or noted
pub record CountsStay (old new : Course) : Type 0 where
  pub stays : Stays old new
  pub open stays use *
  pub pictures : new.pictures ≡ old.pictures
  pub dropped : new.dropped ≡ old.dropped
  pub notes : noted new.notes ≡ noted old.notes

-- a frame, if there is one, is shown at once, or held and another one shown in its place
pub record Showed (old : Course) (frame : Option Samples) (kind : ℕ) (new : Course) : Type 0 where
  pub ready : new.ready.items ≡ old.ready.items ++ handed old.queue (frame_list frame kind)
  pub queue : new.queue ≡ held_after old.queue (frame_list frame kind)
  pub gallery : new.gallery ≡ old.gallery
  pub counts : CountsStay old new
  pub open counts use *

-- a picture is counted, and noted where it is the first of its piece; the headers in force stay
pub record Counts (old : Course) (p : Open) (new : Course) : Type 0 where
  pub stays : Stays old new
  pub open stays use *
  pub pictures : new.pictures ≡ old.pictures + 1
  pub dropped : new.dropped ≡ old.dropped + (if p.dropped then 1 else 0)
  pub notes : (store : Store) → noted new.notes ≡ with_events old.code_end (noted old.notes) (closed (Some p) store)

-- a picture ended: it is counted and noted
pub record Counted (old : Course) (p : Open) (new : Course) : Type 0 where
  pub counts : Counts old p new
  pub open counts use *
  pub ready : new.ready ≡ old.ready
  pub queue : new.queue ≡ old.queue
  pub gallery : new.gallery ≡ old.gallery

-- a picture ended: it is counted and noted, and its frame shown at once or held
pub record Ended (old : Course) (p : Open) (new : Course) : Type 0 where
  pub frame : Option Samples
  pub frame_is : frame ≡ (if is_frame_end p then old.gallery.current else None)
  pub store : store_of new.gallery ≡ picture_ended (Some p) (store_of old.gallery)
  pub reading : new.gallery.reading ≡ None
  pub sizes : (d : Dims) → HaveSize d old.gallery → HaveSize d new.gallery
  pub ready : new.ready.items ≡ old.ready.items ++ handed old.queue (frame_list frame p.info.kind)
  pub queue : new.queue ≡ held_after old.queue (frame_list frame p.info.kind)
  pub counts : Counts old p new
  pub open counts use *

-- the picture that was open is whole
pub record Closed (old new : Course) : Type 0 where
  pub state : new.state ≡ after_end old.state
  pub store : store_of new.gallery ≡ picture_ended old.state.picture (store_of old.gallery)
  pub emits : Emits old (closed old.state.picture (store_of old.gallery)) new
  pub sound : IsSoundCourse new

-- the frames at hand alone change
pub record FramesAlone (old new : Course) : Type 0 where
  pub counts : CountsStay old new
  pub open counts use *
  pub queue : new.queue ≡ old.queue
  pub ready : new.ready ≡ old.ready

-- the frame of a picture that begins is at hand
pub record Begun (old : Course) (p : Open) (new : Course) : Type 0 where
  pub store : store_of new.gallery ≡ picture_begun old.state.sequence p (store_of old.gallery)
  pub reading : new.gallery.reading ≡ reading_of p
  pub first_field : p.second_field ≡ true → p.slices_unread ≡ false → new.gallery.first_field ≡ old.gallery.current
  pub sizes : HaveSizes old.state.first old.state.sequence new.gallery
  pub others : FramesAlone old new
  pub open others use *

-- a slice of a row was read
pub record SliceRead (st : State) (s : Sequence) (p : Open) (row : ℕ) (u : List ℕ) (end : SliceEnd) : Type 0 where
  pub slice : Slice
  pub rest : List Bool
  pub read : (slice_at (slice_setup st s p) p.covered row).read (body u) ≡ Ok (slice, rest)
  pub covered : end.covered ≡ slice.covered
  pub large : end.large ≡ large_in slice
  pub most : end.covered ≤ 2 ^ 16
  pub few : p.covered + end.large ≤ end.covered

-- there is a fault in it
abbrev pub SliceBroken : State → Sequence → Open → ℕ → List ℕ → Units → Stop → Type 0
SliceBroken st s p row u units e = (left : ℕ) × ((slice_at (slice_setup st s p) p.covered row).read (body u) ≡ Err (e.kind, left)) × (e.left ≡ left + unit_bits units)

-- it was read and painted
pub record Painted (old : Course) (s : Sequence) (p : Open) (row : ℕ) (u : List ℕ) (end : SliceEnd) (new : Course) : Type 0 where
  pub told : SliceRead old.state s p row u end
  pub open told use *
  pub store : store_of new.gallery ≡ sliced old.state (Some s) (Some p) row slice (store_of old.gallery)
  pub sizes : HaveSizes old.state.first (Some s) new.gallery
  pub frame : HasFrame p new.gallery
  pub current : IsSome new.gallery.current
  pub others : FramesAlone old new
  pub open others use *

-- that, or the fault in the slice
abbrev pub Paints : Course → Sequence → Open → ℕ → List ℕ → Units → Result SliceEnd Stop → Course → Type 0
Paints old s p row u units (Ok end) new = Painted old s p row u end new
Paints old s p row u units (Err e) new = SliceBroken old.state s p row u units e

-- what a round among the units answers: whether another follows, behind a part that does so and in this state
abbrev pub RoundsBy : (Part → Type 0) → State → Result Bool Halt → Units → Result ((Bool × Part) × Units) (FaultKind × ℕ) → Type 0
RoundsBy Does st (Ok more) rest read = (p : Part) × (read ≡ Ok ((more, p), rest)) × Does p × (more ≡ false → st.picture ≡ None)
RoundsBy Does st (Err Memory) rest read = Unit {0}
RoundsBy Does st (Err (Fault stop)) rest read = read ≡ Err (stop.kind, stop.left)

abbrev pub Rounds : Course → Result Bool Halt → Course → Units → Result ((Bool × Part) × Units) (FaultKind × ℕ) → Type 0
Rounds old result new rest read = RoundsBy (λ (p : Part). Steps old p new) new.state result rest read

-- units told these events, and each frame is shown or held as display order asks
pub record HaveTold (old : Course) (events : Events) (new : Course) : Type 0 where
  pub first : (low : Bool) → Agrees low new.state.first → Agrees low old.state.first
  pub shows : (low : Bool) → Agrees low new.state.first → ShowsFrames low old.queue.anchor old.ready.items (pictures_in events) new.queue.anchor new.ready.items
  pub counted : new.pictures ≡ old.pictures + length (pictures_in events)
  pub dropped : new.dropped ≡ old.dropped + dropped_in (pictures_in events)
  pub notes : noted new.notes ≡ with_events old.code_end (noted old.notes) events
  pub code_end : new.code_end ≡ old.code_end
  pub shown : new.shown ≡ old.shown

-- all units of a piece were read, and no picture is open
pub record ReadAll (old : Course) (us : Units) (new : Course) : Type 0 where
  pub events : Events
  pub read : units_read (between_of old) us ≡ Ok (events, between_of new)
  pub told : HaveTold old events new
  pub open told use *
  pub few : length (pictures_in events) ≤ length us + 1
  pub none : new.state.picture ≡ None
  pub sound : IsSoundCourse new

-- the first fault of a piece
abbrev pub CourseStops : Course → Units → Halt → Type 0
CourseStops old us Memory = Unit {0}
CourseStops old us (Fault stop) = units_read (between_of old) us ≡ Err (stop.kind, stop.left)
