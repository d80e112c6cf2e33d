-- What the headers of a piece say of its picture, whose slices stay unread.
use Rattle.std.specs.Prelude.{◌≡◌, ℕ, ◌+◌, ◌-◌, ◌*◌, ◌/◌, not, List, [], ◌∷◌, ◌++◌, Bool, Option, Some, None, Result, Ok, Err}
use Rattle.m2v_plane.specs.Sizes.{IsSize}
use Rattle.m2v_model.specs.declared.fault.FaultKind.{FaultKind}
use Rattle.m2v_model.specs.declared.state.Sequence.{Sequence}
use Rattle.m2v_model.specs.declared.state.Open.{Open}
use Rattle.m2v_model.specs.declared.state.State.{State}
use Rattle.m2v_model.specs.declared.notes.PictureNote.{PictureNote}
use Rattle.m2v_model.specs.Units.{Units, unit_bits}
use Rattle.m2v_model.specs.States.{dims_of, picture_rows, slice_setup, after_end}
use Rattle.m2v_model.specs.Streams.{Part, picture, unread_slice, ending, over, after}
use Rattle.m2v_model.specs.Decoding.{low_delay_of}
use Rattle.m2v_model.specs.Buffering.{code_bits}
use Rattle.m2v_model.specs.HeadersOnly.{without_slices, FrontRead, faulty, final_unit, more, HeadersRead}
use Rattle.m2v_dec_piece.specs.declared.answer.Piece.{Piece}
use Rattle.m2v_dec_piece.specs.declared.answer.DecodeError.{DecodeError}
use Rattle.m2v_dec_piece.specs.declared.answer.DecodeError.TheVariants as errors
use Rattle.m2v_dec_unit.specs.Among.{AreMatrices}
use Rattle.m2v_dec_rows.specs.declared.opened.Opened.{Opened}
use Rattle.m2v_dec_rows.specs.Rows.{Slices, Placed}
use Rattle.m2v_dec_rows.specs.Opened.{setup_of, slices_of, whole_of}
use Rattle.m2v_dec_rows.specs.Reads.{as_placed}

-- ---- as far as the headers can be read

-- the parts of a piece, from a state on, with slices unread, and the fault that stands behind them
pub record Front (st : State) (p : Piece) : Type 0 where
  pub parts : List Part
  pub fault : Option (FaultKind × ℕ)
  pub read : HeadersRead st (whole_of p) parts fault

-- the state where the parts end; a picture that ends with them is open there
unfoldable pub stopped_from : State → List Part → State
stopped_from st [] = st
stopped_from st (over ∷ ps) = st
stopped_from st (ending ∷ ps) = st
stopped_from st (p ∷ ps) = stopped_from (after st p) ps

abbrev pub stopped : {st : State} {p : Piece} → Front st p → State
stopped {st} f = stopped_from (without_slices st) f.parts

-- the slices of a picture behind a part, with these units behind it, in a piece that ends at a byte
unfoldable pub with_part : ℕ → Slices → Part → Units → Slices
with_part end now (picture info extension) rest = []
with_part end now (unread_slice row u) rest = now ++ record { row = row; unit = u; end = end - unit_bits rest / 8 } ∷ []
with_part end now p rest = now

-- the slices of the last picture among parts, behind those that it has already
unfoldable pub slices_by : {st : State} {us : Units} {ps : List Part} {f : Option (FaultKind × ℕ)} → ℕ → Slices → FrontRead st us ps f → Slices
slices_by end now (faulty e) = now
slices_by end now (final_unit e) = now
slices_by end now (more {mid = mid} {p = p} e rest) = slices_by end (with_part end now p mid) rest

-- a fault with its place in bits from the first byte, in a piece that ends at a byte
abbrev pub fault_at : ℕ → Option (FaultKind × ℕ) → Option Placed
fault_at end None = None
fault_at end (Some f) = Some (f.0, 8 * end - f.1)

abbrev pub end_of : Piece → ℕ
end_of p = p.place + p.length

-- ---- what is told

-- what is told of a picture that is open, whose start code ends at a bit
abbrev pub open_note : ℕ → Open → PictureNote
open_note code_end p = record {
  info = p.info;
  extension = p.extension;
  code_end = code_end;
  dropped = p.dropped;
  first = not p.second_field;
  crowded = 0;
}

-- the picture that is open in a state, with its slices and the fault behind them
pub record IsOpenedIn (p : Piece) (st : State) (slices : Slices) (fault : Option (FaultKind × ℕ)) (o : Opened) : Type 0 where
  pub sequence : Sequence
  pub picture : Open
  pub in_force : st.sequence ≡ Some sequence
  pub is_open : st.picture ≡ Some picture
  pub note : o.note ≡ open_note (8 * p.place + code_bits (whole_of p)) picture
  pub setup : setup_of o ≡ slice_setup st sequence picture
  pub rows : o.rows ≡ picture_rows sequence picture
  pub low_delay : o.low_delay ≡ low_delay_of st.first
  pub slices_are : slices_of p o ≡ slices
  pub fault_is : as_placed o.fault ≡ fault_at (end_of p) fault

-- the picture that is open where reading stops
abbrev pub IsOpenedBy : {st : State} (p : Piece) → Front st p → Opened → Type 0
IsOpenedBy p f o = IsOpenedIn p (stopped f) (slices_by (end_of p) [] f.read) f.fault o

-- what reading the headers of a piece answers: the picture in it; none, without a fault; or a fault, and no picture
-- before it
abbrev pub TellsHeaders : State → Piece → Result (Option Opened) DecodeError → State → Type 0
TellsHeaders st p (Ok (Some o)) now = (f : Front st p) × IsOpenedBy p f o × (now ≡ after_end (stopped f))
TellsHeaders st p (Ok None) now = (f : Front st p) × (f.fault ≡ None) × ((stopped f).picture ≡ None) × (now ≡ stopped f)
TellsHeaders st p (Err (errors.Stream x)) now = (f : Front st p) × (fault_at (end_of p) f.fault ≡ Some (x.kind, x.place)) × ((stopped f).picture ≡ None)
TellsHeaders st p (Err errors.Memory) now = Unit {0}
TellsHeaders st p (Err errors.Read) now = ⊥
TellsHeaders st p (Err errors.Write) now = ⊥
TellsHeaders st p (Err errors.TooLong) now = ⊥
TellsHeaders st p (Err errors.PictureTooLarge) now = ⊥

-- ---- what is known of a state between two pieces

-- the headers in force can be, and all sequence headers say one size
abbrev pub HaveOneSize : Option Sequence → Option Sequence → Type 0
HaveOneSize (Some first) (Some s) = IsSize (dims_of s) × (dims_of first ≡ dims_of s)
HaveOneSize None None = Unit {0}
HaveOneSize first s = ⊥

-- the headers in force of a reader that passes over slices or doesn't, with what fits the picture that is open
pub record AreHeaders (passes : Bool) (Fits : Option Sequence → Option Open → Type 0) (st : State) : Type 0 where
  pub headers_only : st.headers_only ≡ passes
  pub matrices : AreMatrices st
  pub size : HaveOneSize st.first st.sequence
  pub fits : Fits st.sequence st.picture

pub record IsBetween (st : State) : Type 0 where
  pub closed : st.picture ≡ None
  pub matrices : AreMatrices st
  pub size : HaveOneSize st.first st.sequence
