-- Reading piece by piece: each piece is read as a text of its own, from what the pieces before it left.
use Rattle.std.specs.Prelude.{◌≡◌, ℕ, ◌+◌, ◌-◌, ◌*◌, ◌≤◌, Bool, cond, List, [], ◌∷◌, ◌++◌, length, Result, Ok, Err}
use Rattle.m2v_model.specs.declared.fault.FaultKind.{FaultKind}
use Rattle.m2v_model.specs.declared.fault.FaultKind.TheVariants.{FieldPair}
use Rattle.m2v_model.specs.declared.state.State.{State}
use Rattle.m2v_model.specs.Units.{Units, cut, unit_bits}
use Rattle.m2v_model.specs.States.{at_first, none_waits}
use Rattle.m2v_model.specs.Streams.{Part, Sofar, after, value_of, known_unit, text_end, units_from}
use Rattle.m2v_model.specs.Pictures.{Events, Store, no_frames, store_after, events_from, store_from, pictures_in}
use Rattle.m2v_model.specs.Pieces.{pieces, before_pieces}
use Rattle.m2v_model.specs.Decoding.{Stream, FaultAt}

-- between two pieces: the headers in force and what was decoded, and the frames at hand
pub record Between : Type 0 where
  pub state : State
  pub store : Store

abbrev pub at_start : Between
at_start = record { state = at_first; store = no_frames }

-- what is told and what stands behind it, or the first fault and its place in bits from the first byte
abbrev pub Course : Type 0
Course = Result (Events × Between) (FaultKind × ℕ)

-- what units that were read tell, from what stood before them
abbrev pub read_of : Between → Sofar → Events × Between
read_of b tree = (events_from b.state b.store tree.parts, record { state = tree.state; store = store_from b.state b.store tree.parts })

-- ---- unit by unit

-- one unit from a state on: its part, and whether another unit follows; without units, the text's end
unfoldable pub unit_read : State → Units → Result ((Bool × Part) × Units) (FaultKind × ℕ)
unit_read st [] = (text_end st 0).read []
unit_read st (u ∷ us) = (known_unit st (unit_bits (u ∷ us)) (value_of u) u).read us

-- what stands behind a part; a picture may be open
abbrev pub after_part : Between → Part → Between
after_part b p = record { state = after b.state p; store = store_after b.state b.store p }

-- what reading units gives, from what stands before them, a fault with how much is left at its place
abbrev pub course_of : Between → Result (Sofar × Units) (FaultKind × ℕ) → Course
course_of b (Ok x) = Ok (read_of b x.0)
course_of b (Err f) = Err f

unfoldable pub units_read : Between → Units → Course
units_read b us = course_of b ((units_from b.state).read us)

-- ---- piece by piece

-- the same, where the text that was read ends at a byte
unfoldable pub told : Between → ℕ → Result (Sofar × Units) (FaultKind × ℕ) → Course
told b end (Ok x) = Ok (read_of b x.0)
told b end (Err f) = Err (f.0, 8 * end - f.1)

-- a piece that ends at a byte
unfoldable pub piece_read : Between → ℕ → List ℕ → Course
piece_read b end piece = told b end ((units_from b.state).read (cut 0 piece).1)

-- events, and then what follows them
abbrev pub behind : Events → Course → Course
behind es (Ok x) = Ok (es ++ x.0, x.1)
behind es (Err f) = Err f

-- what is read first, and then what follows it
unfoldable pub continued : Course → (Between → Course) → Course
continued (Ok x) next = behind x.0 (next x.1)
continued (Err f) next = Err f

-- pieces, one after another; the first begins at a byte
unfoldable pub pieces_read : Between → ℕ → List (List ℕ) → Course
pieces_read b at [] = Ok ([], b)
pieces_read b at (p ∷ ps) = continued (piece_read b (at + length p) p) (λ next. pieces_read next (at + length p) ps)

-- where pieces end of which the first begins at a byte
unfoldable pub end_of : ℕ → List (List ℕ) → ℕ
end_of at [] = at
end_of at (p ∷ ps) = end_of (at + length p) ps

-- at the end of the text, at a byte, no second field is due
abbrev pub text_ended : ℕ → Course → Course
text_ended end (Ok x) = cond (none_waits (x.1).state.waiting) (Ok x) (Err (FieldPair, 8 * end))
text_ended end (Err f) = Err f

-- the end of the text, which is looked at behind its last piece
abbrev pub end_read : Between → ℕ → Course
end_read b end = text_ended end (piece_read b end [])

-- all pieces of a text, and behind them its end
unfoldable pub text_read : List ℕ → Course
text_read text =
    let at = length (before_pieces text) in
    continued (pieces_read at_start at (pieces text)) (λ last. end_read last (end_of at (pieces text)))

-- so many pictures of a piece, and the pieces behind it: one, and of the last piece one at most
abbrev pub IsOne : ℕ → List (List ℕ) → Type 0
IsOne n [] = n ≤ 1
IsOne n (p ∷ later) = n ≡ 1

-- pieces that are read one after another each tell one picture, and the last one at most one
abbrev pub TellInTurn : Between → ℕ → List (List ℕ) → Type 0
TellInTurn b at [] = Unit {0}
TellInTurn b at (p ∷ ps) =
    (es : Events) (next : Between) → piece_read b (at + length p) p ≡ Ok (es, next)
    → IsOne (length (pictures_in es)) ps × TellInTurn next (at + length p) ps

-- piece i of a text has picture i
abbrev pub TellsPictures : List ℕ → Type 0
TellsPictures text = TellInTurn at_start (length (before_pieces text)) (pieces text)

-- the text is a stream without a fault: what it tells, and what stands behind it
pub record IsRead (text : List ℕ) (es : Events) (b : Between) : Type 0 where
  pub tree : Sofar
  pub stream : Stream text tree
  pub told : (es, b) ≡ read_of at_start tree

-- what is read of a text piece by piece is what stands in it
pub record ByPieces (text : List ℕ) : Type 0 where
  pub stands : (es : Events) (b : Between) → text_read text ≡ Ok (es, b) → IsRead text es b
  pub fault : (kind : FaultKind) (place : ℕ) → text_read text ≡ Err (kind, place) → FaultAt text place kind
