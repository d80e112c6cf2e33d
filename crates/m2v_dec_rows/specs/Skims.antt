-- What is known while the headers of a piece are read, and what each unit does.
use Rattle.std.specs.Prelude.{◌≡◌, ℕ, ◌+◌, ◌-◌, ◌*◌, ◌/◌, ◌<◌, length, true, false, List, [], ◌∷◌, ◌++◌, All, map, Bool, Option, Some, None, Result, Ok, Err}
use Rattle.m2v_model.specs.declared.fault.FaultKind.{FaultKind}
use Rattle.m2v_model.specs.declared.stop.Stop.{Stop}
use Rattle.m2v_model.specs.declared.state.Sequence.{Sequence}
use Rattle.m2v_model.specs.declared.state.Open.{Open}
use Rattle.m2v_model.specs.declared.state.State.{State}
use Rattle.m2v_model.specs.Units.{Units, joined}
use Rattle.m2v_model.specs.States.{picture_rows, after_unread_slice, slice_setup}
use Rattle.m2v_model.specs.Streams.{Part, after}
use Rattle.m2v_model.specs.HeadersOnly.{FrontRead}
use Rattle.m2v_model.specs.Decoding.{low_delay_of}
use Rattle.m2v_model.specs.Buffering.{code_bits}
use Rattle.m2v_dec_piece.specs.declared.answer.Piece.{Piece}
use Rattle.m2v_dec_piece.specs.declared.answer.Fault.{Fault}
use Rattle.m2v_dec_unit.specs.declared.header.Header.{Header}
use Rattle.m2v_dec_unit.specs.declared.header.Header.TheVariants as headers
use Rattle.m2v_dec_unit.specs.Among.{HeaderFits, part_of}
use Rattle.m2v_dec_rows.specs.declared.opened.SliceUnit.{SliceUnit}
use Rattle.m2v_dec_rows.specs.declared.opened.Opened.{Opened}
use Rattle.m2v_dec_rows.specs.Rows.{Slices}
use Rattle.m2v_dec_rows.specs.Opened.{IsOpened, StandsIn, setup_of, unread, whole_of}
use Rattle.m2v_dec_rows.specs.Reads.{as_placed}
use Rattle.m2v_dec_rows.specs.declared.skim.Round.{Round}
use Rattle.m2v_dec_rows.specs.declared.skim.Round.TheVariants.{More, Last, Broken}
use Rattle.m2v_dec_rows.specs.declared.skim.Skim.{Skim}
use Rattle.m2v_dec_rows.specs.Headers.{Front, stopped, stopped_from, with_part, slices_by, fault_at, end_of, open_note, AreHeaders}

-- ---- what is known between two units

-- a picture is open behind a sequence header alone, and its slices stay unread
abbrev pub FitsOpen : Option Sequence → Option Open → Type 0
FitsOpen s None = Unit {0}
FitsOpen (Some s) (Some p) = HeaderFits (headers.Picture p.info p.extension) × (p.slices_unread ≡ true)
FitsOpen None (Some p) = ⊥

abbrev pub IsSoundState : State → Type 0
IsSoundState st = AreHeaders true FitsOpen st

-- the rows of slices are those of the picture that is open
abbrev pub StandInRows : Option Sequence → Option Open → List SliceUnit → Type 0
StandInRows s None us = Unit {0}
StandInRows (Some s) (Some p) us = All (λ u. u.row < picture_rows s p) us
StandInRows None (Some p) us = Unit {0}

pub record IsSoundSkim (p : Piece) (c : Skim) : Type 0 where
  pub state : IsSoundState c.state
  pub slices : All (StandsIn p) c.slices.items
  pub in_rows : StandInRows c.state.sequence c.state.picture c.slices.items

-- a text ends with these units
abbrev pub EndsWith : List ℕ → Units → Type 0
EndsWith text us = (front : List ℕ) × (text ≡ front ++ joined us)

-- the slices of the last picture so far, as they stand in the piece
abbrev pub so_far : Piece → Skim → Slices
so_far p c = map (unread p) c.slices.items

-- ---- what a unit does

-- slices behind a header: where a picture begins, those of the picture before are given up
abbrev pub kept_behind : Header → List SliceUnit → List SliceUnit
kept_behind (headers.Sequence s) us = us
kept_behind (headers.Group g) us = us
kept_behind (headers.Picture info extension) us = []
kept_behind (headers.Matrices m) us = us
kept_behind headers.Skipped us = us
kept_behind headers.Ending us = us

-- a header was put in force, that of a unit
pub record Entered (old : Skim) (h : Header) (u : List ℕ) (new : Skim) : Type 0 where
  pub state : new.state ≡ after old.state (part_of u h)
  pub slices : new.slices.items ≡ kept_behind h old.slices.items
  pub sound : IsSoundState new.state

-- a slice of a row that stands in a unit, at whose start code so many bits of the piece are left
abbrev pub unit_of : Piece → ℕ → ℕ → List ℕ → SliceUnit
unit_of p row start u = record { row = row; place = end_of p - start / 8; length = length u }

-- a slice of a row was passed over
pub record PassedOver (p : Piece) (old : Skim) (row start : ℕ) (u : List ℕ) (new : Skim) : Type 0 where
  pub state : new.state ≡ after_unread_slice old.state row
  pub slices : new.slices.items ≡ old.slices.items ++ unit_of p row start u ∷ []

-- a part was read with others behind it
pub record Passed (p : Piece) (old : Skim) (x : Part) (rest : Units) (new : Skim) : Type 0 where
  pub state : new.state ≡ after old.state x
  pub onward : (ps : List Part) → stopped_from old.state (x ∷ ps) ≡ stopped_from (after old.state x) ps
  pub slices : so_far p new ≡ with_part (end_of p) (so_far p old) x rest
  pub sound : IsSoundSkim p new

-- what a round among the units answers: whether another follows, or the fault; where none follows nothing changes
abbrev pub Rounds : Piece → Skim → Round → Skim → Units → Result ((Bool × Part) × Units) (FaultKind × ℕ) → Type 0
Rounds p old More new rest read = (x : Part) × (read ≡ Ok ((true, x), rest)) × Passed p old x rest new
Rounds p old Last new rest read = (x : Part) × (read ≡ Ok ((false, x), rest)) × (stopped_from old.state (x ∷ []) ≡ old.state) × (new ≡ old)
Rounds p old (Broken stop) new rest read = (read ≡ Err (stop.kind, stop.left)) × (new ≡ old)

-- ---- what all units do

-- a fault as reading tells it
abbrev pub fault_of : Option Stop → Option (FaultKind × ℕ)
fault_of None = None
fault_of (Some stop) = Some (stop.kind, stop.left)

-- units were read as far as they can be
pub record ReadsFront (p : Piece) (old : Skim) (us : Units) (fault : Option Stop) (new : Skim) : Type 0 where
  pub parts : List Part
  pub read : FrontRead old.state us parts (fault_of fault)
  pub state : new.state ≡ stopped_from old.state parts
  pub slices : so_far p new ≡ slices_by (end_of p) (so_far p old) read
  pub sound : IsSoundSkim p new

-- a piece was read as far as it can be, from a state on
pub record Skimmed (st : State) (p : Piece) (c : Skim) (fault : Option Fault) : Type 0 where
  pub front : Front st p
  pub state : c.state ≡ stopped front
  pub slices : so_far p c ≡ slices_by (end_of p) [] front.read
  pub fault_is : as_placed fault ≡ fault_at (end_of p) front.fault
  pub sound : IsSoundSkim p c

-- ---- the picture that is open where reading stops

-- what is told of it, in its sequence
pub record Opens (p : Piece) (c : Skim) (s : Sequence) (picture : Open) (fault : Option Fault) (o : Opened) : Type 0 where
  pub note : o.note ≡ open_note (8 * p.place + code_bits (whole_of p)) picture
  pub setup : setup_of o ≡ slice_setup c.state s picture
  pub rows : o.rows ≡ picture_rows s picture
  pub low_delay : o.low_delay ≡ low_delay_of c.state.first
  pub slices : o.slices ≡ c.slices
  pub fault_is : o.fault ≡ fault
  pub opened : IsOpened p o

-- that, of the picture that is open
pub record OpensSome (p : Piece) (c : Skim) (fault : Option Fault) (o : Opened) : Type 0 where
  pub sequence : Sequence
  pub picture : Open
  pub in_force : c.state.sequence ≡ Some sequence
  pub is_open : c.state.picture ≡ Some picture
  pub told : Opens p c sequence picture fault o
