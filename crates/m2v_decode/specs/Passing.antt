-- A reader at work in a piece: what a part of the stream does to it, whatever frames are at hand.
use Rattle.std.specs.Prelude.{◌≡◌, ℕ, ◌+◌, ◌≤◌, false, not, List, [], ◌∷◌, length, Bool, ◌&&◌, Option, Some, None, Result, Ok, Err}
use Rattle.m2v_model.specs.declared.fault.FaultKind.{FaultKind}
use Rattle.m2v_model.specs.declared.stop.Stop.{Stop}
use Rattle.m2v_model.specs.declared.state.Sequence.{Sequence}
use Rattle.m2v_model.specs.declared.state.Open.{Open}
use Rattle.m2v_model.specs.declared.state.State.{State}
use Rattle.m2v_model.specs.Units.{Units}
use Rattle.m2v_model.specs.Streams.{Part, after}
use Rattle.m2v_model.specs.States.{is_frame_end, after_end}
use Rattle.m2v_model.specs.Pictures.{Store, Events, sequence_header, group_header, pictures_in, no_references, closed, told_by}
use Rattle.m2v_model.specs.PieceNotes.{noted}
use Rattle.m2v_model.specs.ByPieces.{units_read}
use Rattle.m2v_dec_rows.specs.m2v_dec_unit.declared.header.Header.{Header}
use Rattle.m2v_dec_rows.specs.m2v_dec_unit.declared.header.Header.TheVariants as headers
use Rattle.m2v_dec_rows.specs.m2v_dec_picture.declared.slices.SliceEnd.{SliceEnd}
use Rattle.m2v_dec_rows.specs.Headers.{AreHeaders}
use Rattle.m2v_decode.specs.declared.pass.Pass.{Pass}
use Rattle.m2v_decode.specs.declared.halt.Halt.{Halt}
use Rattle.m2v_decode.specs.declared.halt.Halt.TheVariants.{Fault, Memory}
use Rattle.m2v_decode.specs.Decoding.{Agrees, decoded_of, dropped_in}
use Rattle.m2v_decode.specs.Course.{IsOpen, SliceRead, SliceBroken, RoundsBy, with_events}

-- ---- what is known between two units

-- a picture is open behind a sequence header alone
abbrev pub StandsOpen : Option Open → Option Sequence → Type 0
StandsOpen None s = Unit {0}
StandsOpen (Some p) (Some s) = IsOpen p
StandsOpen (Some p) None = ⊥

-- the headers in force agree
abbrev pub AreSoundHeaders : State → Type 0
AreSoundHeaders st = AreHeaders false (λ (q : Option Sequence) (o : Option Open). StandsOpen o q) st

pub record IsSoundPass (c : Pass) : Type 0 where
  pub state : AreSoundHeaders c.state
  pub dropped : c.dropped ≤ c.pictures
  pub frames : c.frames ≤ c.pictures

-- a reader between two pieces, where none was refused
pub record IsSoundReader (c : Pass) (failed : Bool) : Type 0 where
  pub going : failed ≡ false → IsSoundPass c × (c.state.picture ≡ None)

-- ---- what a part does

-- headers and pictures were told, and are counted and noted
pub record Tells (old : Pass) (es : Events) (new : Pass) : Type 0 where
  pub pictures : new.pictures ≡ old.pictures + length (pictures_in es)
  pub dropped : new.dropped ≡ old.dropped + dropped_in (pictures_in es)
  pub frames : new.frames ≡ old.frames + length (decoded_of (pictures_in es))
  pub notes : noted new.notes ≡ with_events old.code_end (noted old.notes) es
  pub code_end : new.code_end ≡ old.code_end

-- a part was read
pub record Passes (old : Pass) (p : Part) (new : Pass) : Type 0 where
  pub state : new.state ≡ after old.state p
  pub tells : (store : Store) → Tells old (told_by old.state store p) new
  pub sound : IsSoundPass new

-- a picture makes a frame: it ends one, and isn't dropped
abbrev pub makes_frame : Open → Bool
makes_frame p = is_frame_end p && not p.dropped

-- the picture that was open is whole
pub record Ends (old new : Pass) : Type 0 where
  pub state : new.state ≡ after_end old.state
  pub tells : (store : Store) → Tells old (closed old.state.picture store) new
  pub sound : IsSoundPass new

-- before a header: the picture that was open is whole, unless it goes on
abbrev pub EndsBefore : Header → Pass → Pass → Type 0
EndsBefore (headers.Sequence s) old new = Ends old new
EndsBefore (headers.Group g) old new = Ends old new
EndsBefore (headers.Picture info extension) old new = Ends old new
EndsBefore (headers.Matrices m) old new = new ≡ old
EndsBefore headers.Skipped old new = new ≡ old
EndsBefore headers.Ending old new = Ends old new

-- what is told of a header
abbrev pub told_of : Header → Events
told_of (headers.Sequence s) = sequence_header s ∷ []
told_of (headers.Group g) = group_header g ∷ []
told_of (headers.Picture info extension) = []
told_of (headers.Matrices m) = []
told_of headers.Skipped = []
told_of headers.Ending = []

-- a header was noted
pub record Noted (old : Pass) (h : Header) (new : Pass) : Type 0 where
  pub state : new.state ≡ old.state
  pub tells : Tells old (told_of h) new

-- a slice of a row was read
pub record SlicePassed (old : Pass) (s : Sequence) (p : Open) (row : ℕ) (u : List ℕ) (end : SliceEnd) (new : Pass) : Type 0 where
  pub told : SliceRead old.state s p row u end
  pub open told use *
  pub state : new.state ≡ old.state
  pub tells : Tells old [] new

-- that, or the fault in the slice
abbrev pub ReadsSlice : Pass → Sequence → Open → ℕ → List ℕ → Units → Result SliceEnd Stop → Pass → Type 0
ReadsSlice old s p row u units (Ok end) new = SlicePassed old s p row u end new
ReadsSlice old s p row u units (Err e) new = SliceBroken old.state s p row u units e

-- what a round among the units answers: whether another follows
abbrev pub Rounds : Pass → Result Bool Halt → Pass → Units → Result ((Bool × Part) × Units) (FaultKind × ℕ) → Type 0
Rounds old result new rest read = RoundsBy (λ (p : Part). Passes old p new) new.state result rest read

-- where no picture is open, none is predicted from
abbrev pub Rests : State → Store → Type 0
Rests st store = st.picture ≡ None → store.references ≡ no_references

-- units told these events, with these frames at hand before and behind them
pub record ToldWith (store : Store) (old : Pass) (events : Events) (behind : Store) (new : Pass) : Type 0 where
  pub tells : Tells old events new
  -- before the first sequence header no picture is told
  pub none : new.state.first ≡ None → pictures_in events ≡ []
  pub rests : Rests old.state store → Rests new.state behind

-- all units of a piece were read, with these frames at hand
pub record ReadsWith (store : Store) (old : Pass) (us : Units) (new : Pass) : Type 0 where
  pub events : Events
  pub behind : Store
  pub read : units_read (record { state = old.state; store = store }) us ≡ Ok (events, record { state = new.state; store = behind })
  pub told : ToldWith store old events behind new
  pub open told use *
  pub few : length (pictures_in events) ≤ length us + 1

-- all units of a piece were read, and no picture is open
pub record ReadsAll (old : Pass) (us : Units) (new : Pass) : Type 0 where
  pub first : (low : Bool) → Agrees low new.state.first → Agrees low old.state.first
  pub with_frames : (store : Store) → ReadsWith store old us new
  pub closed_now : new.state.picture ≡ None
  pub sound : IsSoundPass new

-- the first fault of a piece
abbrev pub PassStops : Pass → Units → Halt → Type 0
PassStops old us Memory = Unit {0}
PassStops old us (Fault stop) = (store : Store) → units_read (record { state = old.state; store = store }) us ≡ Err (stop.kind, stop.left)
