-- What reading a piece as a whole tells, by its headers, which are read first, and by its rows, each read by itself.
use Rattle.std.specs.Prelude.{◌≡◌, ℕ, ◌*◌, ◌<◌, true, false, List, [], ◌∷◌, Option, Some, None, Ok, Err}
use Rattle.m2v_model.specs.declared.setup.SliceSetup.{SliceSetup}
use Rattle.m2v_model.specs.declared.state.Sequence.{Sequence}
use Rattle.m2v_model.specs.declared.state.Open.{Open}
use Rattle.m2v_model.specs.declared.state.State.{State}
use Rattle.m2v_model.specs.States.{slice_setup, after_end}
use Rattle.m2v_model.specs.Streams.{Part}
use Rattle.m2v_model.specs.Samples.{put_in_frame}
use Rattle.m2v_model.specs.Pictures.{Events, Store, picture_of, pictures_in, picture_begun, picture_ended, on_frame, events_from, store_from}
use Rattle.m2v_model.specs.ByPieces.{Between, Course, read_of, piece_read}
use Rattle.m2v_dec_piece.specs.declared.answer.Piece.{Piece}
use Rattle.m2v_dec_picture.specs.Conditions.{rows_in}
use Rattle.m2v_dec_rows.specs.Rows.{Slices, Placed, Begun, first_of, row_fault, slices_painted}
use Rattle.m2v_dec_rows.specs.ByRows.{AreOrdered, picture_read}
use Rattle.m2v_dec_rows.specs.Opened.{whole_of}
use Rattle.m2v_dec_rows.specs.Headers.{Front, stopped, slices_by, fault_at, end_of}

-- ---- where no slice is read

-- no picture is open, or the one that is open is dropped
abbrev pub ReadsNone : Option Open → Type 0
ReadsNone None = Unit {0}
ReadsNone (Some o) = o.dropped ≡ true

-- the state that a piece leaves, by that in which its headers stop: no picture is open any more
abbrev pub state_left : State → State
state_left st = record (after_end st) { headers_only = false }

-- what the parts of a piece tell, or the fault behind them
abbrev pub parts_told : Between → State → List Part → Option Placed → Course
parts_told b st parts None = Ok (read_of b (record { state = state_left st; parts = parts }))
parts_told b st parts (Some x) = Err x

-- the parts tell no picture, and the frames at hand stay
pub record TellNone (b : Between) (parts : List Part) : Type 0 where
  pub pictures : pictures_in (events_from b.state b.store parts) ≡ []
  pub store : store_from b.state b.store parts ≡ b.store

-- the parts tell one picture, which is dropped and has no frame, and it ends
pub record TellDropped (b : Between) (parts : List Part) (o : Open) : Type 0 where
  pub pictures : pictures_in (events_from b.state b.store parts) ≡ picture_of o (record b.store { current = None }) ∷ []
  pub store : store_from b.state b.store parts ≡ picture_ended (Some o) (record b.store { current = None })

-- ---- where the slices of a picture are read

-- the picture ends with its piece, which ends at a byte, where no fault of the headers stands before
abbrev pub ending_at : ℕ → Option Placed → Option ℕ
ending_at end None = Some (8 * end)
ending_at end (Some x) = None

-- the rows above one have no fault
abbrev pub NoneAbove : SliceSetup → Slices → Option ℕ → ℕ → Type 0
NoneAbove setup us ending row = (r : ℕ) → r < row → row_fault setup r us ending ≡ None

-- What a piece tells that ends at a byte, by the faults of a picture's rows and the first fault of its headers.
pub record ByItsRows (setup : SliceSetup) (us : Slices) (end : ℕ) (fault : Option Placed) (read : Course) (Told : Events → Between → Type 0) : Type 0 where
  -- no slice stands in a row above that of the slice before it
  pub ordered : AreOrdered 0 (rows_in setup) us
  -- the fault of the first row that has one
  pub row : (r : ℕ) (x : Placed) → r < rows_in setup → NoneAbove setup us (ending_at end fault) r → row_fault setup r us (ending_at end fault) ≡ Some x → read ≡ Err x
  -- where no row has one, that of the headers
  pub headers : (x : Placed) → NoneAbove setup us (ending_at end fault) (rows_in setup) → fault ≡ Some x → read ≡ Err x
  -- where there is none at all, the picture
  pub whole : NoneAbove setup us (ending_at end fault) (rows_in setup) → fault ≡ None → (es : Events) × (next : Between) × (read ≡ Ok (es, next)) × Told es next

-- the frames at hand before a picture's first slice, and those with its slices painted
abbrev pub frames_begun : Sequence → Open → Store → Store
frames_begun s o store = picture_begun (Some s) (record o { slices_unread = false }) store

abbrev pub frames_painted : SliceSetup → List Begun → Store → Store
frames_painted setup xs store = record store { current = on_frame (λ frame. slices_painted put_in_frame setup store.references frame xs) store.current }

-- One picture is told, with all its slices painted, and it ends; how many macroblocks its first crowded row has isn't
-- said.
pub record TellsPicture (b : Between) (st : State) (s : Sequence) (o : Open) (setup : SliceSetup) (us : Slices) (es : Events) (next : Between) : Type 0 where
  pub slices : List Begun
  pub read : picture_read setup us ≡ Ok (slices, first_of setup (rows_in setup))
  pub crowded : ℕ
  pub picture : pictures_in es ≡ record (picture_of o (frames_painted setup slices (frames_begun s o b.store))) { crowded_row = crowded } ∷ []
  pub state : next.state ≡ state_left st
  pub store : next.store ≡ picture_ended (Some o) (frames_painted setup slices (frames_begun s o b.store))

-- what a piece tells that ends at a byte, where a picture is open in the state in which its headers stop
abbrev pub PictureByRows : Between → ℕ → List ℕ → State → Slices → Option Placed → Sequence → Open → Type 0
PictureByRows b end piece st us fault s o =
    ByItsRows (slice_setup st s o) us end fault (piece_read b end piece) (TellsPicture b st s o (slice_setup st s o) us)

-- ---- the two halves

-- a piece as a whole, by what its headers and its rows tell
pub record Halves (b : Between) (p : Piece) (f : Front b.state p) : Type 0 where
  -- no slice is read: the parts of the headers, or their fault
  pub headers : ReadsNone (stopped f).picture → piece_read b (end_of p) (whole_of p) ≡ parts_told b (stopped f) f.parts (fault_at (end_of p) f.fault)
  pub none : (stopped f).picture ≡ None → TellNone b f.parts
  pub dropped : (o : Open) → (stopped f).picture ≡ Some o → o.dropped ≡ true → f.fault ≡ None → TellDropped b f.parts o
  -- slices are read: the picture by its rows
  pub rows : (s : Sequence) (o : Open) → (stopped f).sequence ≡ Some s → (stopped f).picture ≡ Some o → o.dropped ≡ false
      → PictureByRows b (end_of p) (whole_of p) (stopped f) (slices_by (end_of p) [] f.read) (fault_at (end_of p) f.fault) s o
