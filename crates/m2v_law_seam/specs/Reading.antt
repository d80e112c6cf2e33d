-- What is read of a strand goes by what is read of its units, and goes on with the units behind them: so each is read once.
use Rattle.std.specs.Prelude.{◌≡◌, ◌⊎◌, ◌≤◌, ℕ, ◌+◌, ◌-◌, ◌*◌, Bool, true, false, cond, ◌&&◌, ◌||◌, not, max, List, [], ◌∷◌, ◌++◌, length, Option, Ok, Err}
use Rattle.m2v_model.specs.declared.fault.FaultKind.{FaultKind}
use Rattle.m2v_model.specs.declared.fault.FaultKind.TheVariants.{FieldPair}
use Rattle.m2v_model.specs.declared.state.Sequence.{Sequence}
use Rattle.m2v_model.specs.Units.{Units, cut, joined, unit_bits, AreUnits}
use Rattle.m2v_model.specs.States.{none_waits}
use Rattle.m2v_model.specs.Streams.{value_of}
use Rattle.m2v_model.specs.Pictures.{Events, Pictures, pictures_in}
use Rattle.m2v_model.specs.Pieces.{begins_piece}
use Rattle.m2v_model.specs.ByPieces.{Between, Course, at_start, behind, units_read}
use Rattle.m2v_law_group.specs.Groups.{is_sequence}
use Rattle.m2v_law_group.specs.Chosen.{anchors_behind}
use Rattle.m2v_law_seam.specs.Spans.{units_of, units_in, picture_count, Span, end_of_span}
use Rattle.m2v_law_seam.specs.Strands.{read_of, begins_sequence, has_end, last_open, keeps_rule, agrees, is_strand}
use Rattle.m2v_law_seam.specs.Faults.{ends_from, read_at, fault_behind}

-- what is read of units where the text ends behind them, so many bits from its first byte: no second field is due there
abbrev pub ended_read : ℕ → Course → Course
ended_read bits (Ok x) = cond (none_waits (x.1).state.waiting) (Ok x) (Err (FieldPair, bits))
ended_read bits (Err f) = Err (f.0, bits - f.1)

-- what was read of units, and then what is read of others from there on
abbrev pub read_then : Course → Units → Course
read_then (Ok x) vs = behind x.0 (units_read x.1 vs)
read_then (Err f) vs = Err (f.0, f.1 + unit_bits vs)

-- units that can be put behind a strand: the first begins a piece, none is an end code, and a start code can follow the last
pub record CanFollow (u : List ℕ) (us : Units) : Type 0 where
  pub are : AreUnits (u ∷ us)
  pub begins : begins_piece (value_of u) ≡ true
  pub no_end : has_end (u ∷ us) ≡ false
  pub closed : last_open (u ∷ us) ≡ false

-- Bytes that read, and units behind them: both are cut into the units of the bytes, and those; and what is read of both, with an
-- end code, is what is read of the bytes' units, and then of those.
pub record ReadsOn (bytes : List ℕ) (u : List ℕ) (us : Units) : Type 0 where
  pub units : (cut 0 (bytes ++ joined (u ∷ us))).1 ≡ (cut 0 bytes).1 ++ u ∷ us
  pub alone : read_of bytes ≡ ended_read (8 * length bytes) (units_read at_start (cut 0 bytes).1)
  pub both :
      read_of (bytes ++ joined (u ∷ us))
      ≡ ended_read (8 * length (bytes ++ joined (u ∷ us))) (read_then (units_read at_start (cut 0 bytes).1) (u ∷ us))

-- ---- a strand by what is read of its units

-- what was read of units is that of a strand: no first field waits behind them, the first sequence header agrees, and the rule
-- is kept, which the opening strand hasn't
abbrev pub is_strand_read : Bool → Option Sequence → Course → Bool
is_strand_read opening first (Ok x) = none_waits (x.1).state.waiting && (agrees first (x.1).state.first && (opening || keeps_rule (pictures_in x.0)))
is_strand_read opening first (Err f) = false

-- Bytes that begin with a sequence header and have no end code: what is read of them, with an end code behind them, and whether
-- they are a strand, go by what is read of their units.
pub record ByUnits (bytes : List ℕ) : Type 0 where
  pub read : last_open (cut 0 bytes).1 ≡ false → read_of bytes ≡ ended_read (8 * length bytes) (units_read at_start (cut 0 bytes).1)
  pub strand : (opening : Bool) (first : Option Sequence)
      → is_strand opening first bytes ≡ (not (last_open (cut 0 bytes).1) && is_strand_read opening first (units_read at_start (cut 0 bytes).1))

-- ---- a strand that grows

-- the first unit is a sequence header
abbrev pub BeginsSequence : Units → Type 0
BeginsSequence [] = ⊥
BeginsSequence (u ∷ us) = is_sequence u ≡ true

-- the first unit begins a piece
abbrev pub BeginsOnePiece : Units → Type 0
BeginsOnePiece [] = ⊥
BeginsOnePiece (u ∷ us) = begins_piece (value_of u) ≡ true

-- a piece is its units, of which the first one begins a piece, and one at most is a picture
pub record IsPieceOfUnits (p : List ℕ) : Type 0 where
  pub whole : joined (units_of p) ≡ p
  pub begins : BeginsOnePiece (units_of p)
  pub one : picture_count (units_of p) ≤ 1

abbrev pub ArePieces : List (List ℕ) → Type 0
ArePieces [] = Unit {0}
ArePieces (p ∷ ps) = IsPieceOfUnits p × ArePieces ps

-- nothing, or bytes that begin with a sequence header, have no end code, and can be followed by a start code
abbrev pub CanGrow : List ℕ → Type 0
CanGrow bytes = (bytes ≡ []) ⊎ ((begins_sequence bytes ≡ true) × (has_end (cut 0 bytes).1 ≡ false) × (last_open (cut 0 bytes).1 ≡ false))

-- Pieces that can be put behind bytes. Whether a start code can follow the last one is left open; behind nothing the first
-- unit is a sequence header.
pub record CanGoBehind (bytes : List ℕ) (ps : List (List ℕ)) : Type 0 where
  pub pieces : ArePieces ps
  pub some : 1 ≤ length ps
  pub are : AreUnits (units_in ps)
  pub no_end : has_end (units_in ps) ≡ false
  pub first : bytes ≡ [] → BeginsSequence (units_in ps)

-- units that were read: none, or from a sequence header on, with what they tell and what stands behind them
abbrev pub HasRead : Units → Events → Between → Type 0
HasRead [] es b = (es ≡ []) × (b ≡ at_start)
HasRead (u ∷ us) es b = (is_sequence u ≡ true) × (units_read at_start (u ∷ us) ≡ Ok (es, b))

-- the anchors behind pictures
abbrev pub anchors_after : ℕ → Pictures → ℕ
anchors_after anchors [] = anchors
anchors_after anchors (p ∷ ps) = anchors_after (anchors_behind anchors p) ps

-- Why bytes with the pieces of a span behind them are no strand, where a fault is met as the pieces are read from what was read of
-- the bytes on, each at its place: it is that fault. It is told where it stands, but not before the place where the bytes would
-- begin if all of them stood before the span's end.
abbrev pub FaultTold : Span → List ℕ → List (List ℕ) → Type 0
FaultTold s bytes ps =
    (es : Events) (b : Between) (n at : ℕ) (kind : FaultKind) (place : ℕ) → HasRead (units_of bytes) es b → CanGrow bytes → CanGoBehind bytes ps
    → last_open (units_of (bytes ++ joined ps)) ≡ false → end_of_span s ≡ at + length (joined ps) → read_at b n (ends_from at ps) ps ≡ Err (kind, place)
    → fault_behind s (bytes ++ joined ps) ≡ (kind, max place (8 * end_of_span s - 8 * length (bytes ++ joined ps)))
