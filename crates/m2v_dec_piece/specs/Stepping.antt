-- What a cutter does with the next bytes of a text, whatever follows what was read.
use Rattle.std.specs.Prelude.{◌≡◌, ℕ, ◌+◌, ◌-◌, ◌*◌, ◌^◌, true, List, [], ◌∷◌, ◌++◌, length, Option, Some, None, ◌<◌, ◌≤◌}
use Rattle.m2v_port.specs.Port.{Moves}
use Rattle.m2v_model.specs.declared.phase.Phase.{Phase}
use Rattle.m2v_model.specs.declared.phase.Phase.TheVariants.{Before, Headers, Picture}
use Rattle.m2v_model.specs.Pieces.{begins_piece, grouped}
use Rattle.m2v_dec_piece.specs.Following.{following_in}
use Rattle.m2v_dec_piece.specs.declared.answer.Piece.{Piece}
use Rattle.m2v_dec_piece.specs.declared.answer.DecodeError.{DecodeError}
use Rattle.m2v_dec_piece.specs.declared.answer.DecodeError.TheVariants as errors
use Rattle.m2v_dec_piece.specs.declared.taking.Byte.{Byte}
use Rattle.m2v_dec_piece.specs.declared.taking.Byte.TheVariants.{Used, First, Whole, Last}
use Rattle.m2v_dec_piece.specs.declared.cutter.Stand.{Stand}
use Rattle.m2v_dec_piece.specs.declared.cutter.Stand.TheVariants.{Boundary, Ending, Over}
use Rattle.m2v_dec_piece.specs.Cutting.{Held, taken_by, Fits, Took, FirstBegun, Ends, open_pieces, pieces_behind, start_behind, follows_behind, PieceStops, Cutting, left_of, start_of, follows_of, IsPiece}

-- behind a whole prefix a value comes next, in this phase
pub record AtValue (h : Held) (phase : Phase) : Type 0 where
  pub fits : Fits h
  pub ahead : h.ahead ≡ 3
  pub phase_is : h.phase ≡ phase

-- the piece at hand is whole, and stays as it is
pub record IsWhole (old : Held) (b : ℕ) (new : Held) : Type 0 where
  pub same : new ≡ old
  pub ahead : old.ahead ≡ 3
  pub phase : old.phase ≡ Picture
  pub begins : begins_piece b ≡ true

-- the first piece begins
pub record IsFirst (old : Held) (b : ℕ) (new : Held) : Type 0 where
  pub value : b ≡ 0xB3
  pub phase : old.phase ≡ Before
  pub begun : FirstBegun old new

-- the sequence end code ends the last piece
pub record IsLast (old : Held) (b : ℕ) (new : Held) : Type 0 where
  pub ahead : old.ahead ≡ 3
  pub value : b ≡ 0xB7
  pub phase : old.phase ≡ Headers
  pub ends : Ends old new

-- what a byte does to the piece at hand
abbrev pub Takes : Byte → Held → ℕ → Held → Type 0
Takes Used old b new = Took old b new
Takes First old b new = IsFirst old b new
Takes Whole old b new = IsWhole old b new
Takes Last old b new = IsLast old b new

-- ---- bytes that were read

-- a number that falls with each byte: at most 2 ^ 36 + 3 of them are held
abbrev pub before_more : Phase → ℕ
before_more Before = 1
before_more Headers = 0
before_more Picture = 0

abbrev pub measure_of : Held → ℕ
measure_of h = 2 * (2 ^ 36 + 4 - (h.place + (length h.sure + h.ahead))) + before_more h.phase

-- where the bytes stop that are looked at for one piece
abbrev pub Stood : Stand → Held → List ℕ → Held → List ℕ → List ℕ → Type 0
-- the piece is whole, and the next one begins with what is left
Stood Boundary h text new chunk rest =
    (pieces_behind h text ≡ new.sure ∷ open_pieces Headers [] (0 ∷ 0 ∷ 1 ∷ (chunk ++ rest))) × (start_behind h text ≡ new.place) × (new.ahead ≡ 3)
    × (follows_behind h text ≡ following_in true (0 ∷ 0 ∷ 1 ∷ (chunk ++ rest)))
-- the end code was taken, and what is left follows it
Stood Ending h text new chunk rest = (pieces_behind h text ≡ new.sure ∷ []) × (start_behind h text ≡ new.place) × (follows_behind h text ≡ chunk ++ rest) × (new.ahead ≡ 0)
-- the input has ended
Stood Over h text new chunk rest =
    (pieces_behind h text ≡ grouped new.phase new.sure []) × (start_behind h text ≡ new.place) × (rest ≡ []) × (chunk ≡ [])
    × (follows_behind h text ≡ []) × (new.ahead ≡ 0)

-- some bytes are held wherever the next piece begins or the end code stands
abbrev pub IsFull : Stand → Held → Type 0
IsFull Boundary h = 1 ≤ length h.sure
IsFull Ending h = 1 ≤ length h.sure
IsFull Over h = Unit {0}

-- the pieces of a text are those of another, behind what is held then
pub record Reaches (h : Held) (chunk : List ℕ) (h' : Held) (chunk' : List ℕ) : Type 0 where
  pub pieces : (rest : List ℕ) → pieces_behind h (chunk ++ rest) ≡ pieces_behind h' (chunk' ++ rest)
  pub start : (rest : List ℕ) → start_behind h (chunk ++ rest) ≡ start_behind h' (chunk' ++ rest)
  pub follows : (rest : List ℕ) → follows_behind h (chunk ++ rest) ≡ follows_behind h' (chunk' ++ rest)
  pub took : taken_by h' + length chunk' ≡ taken_by h + length chunk
  pub onward : h.place ≤ h'.place
  pub fits : Fits h'
  pub less : measure_of h' < measure_of h

-- bytes were used: others are looked at, or the bytes stop here
abbrev pub Turned : Option Stand → Held → List ℕ → Held → List ℕ → Type 0
Turned None h chunk h' chunk' = Reaches h chunk h' chunk'
Turned (Some stand) h chunk h' chunk' = Fits h' × ((rest : List ℕ) → Stood stand h (chunk ++ rest) h' chunk' rest) × IsFull stand h' × (h.place ≤ h'.place)
    × (taken_by h' + length chunk' ≡ taken_by h + length chunk)

-- bytes were read and used, and the pieces of the text are those of what is held then and of what is left
pub record Advanced (h : Held) (chunk : List ℕ) (left : Option (List ℕ)) (h' : Held) (chunk' : List ℕ) (left' : Option (List ℕ)) : Type 0 where
  pub bytes : List ℕ
  pub moved : Moves left bytes left'
  pub pieces : (rest : List ℕ) → pieces_behind h (chunk ++ (bytes ++ rest)) ≡ pieces_behind h' (chunk' ++ rest)
  pub start : (rest : List ℕ) → start_behind h (chunk ++ (bytes ++ rest)) ≡ start_behind h' (chunk' ++ rest)
  pub follows : (rest : List ℕ) → follows_behind h (chunk ++ (bytes ++ rest)) ≡ follows_behind h' (chunk' ++ rest)
  pub took : taken_by h' + length chunk' ≡ (taken_by h + length chunk) + length bytes
  pub onward : h.place ≤ h'.place
  pub fits : Fits h'

-- bytes were read and used, and they stop here
pub record Looked (stand : Stand) (h : Held) (chunk : List ℕ) (left : Option (List ℕ)) (h' : Held) (chunk' : List ℕ) (left' : Option (List ℕ)) : Type 0 where
  pub bytes : List ℕ
  pub moved : Moves left bytes left'
  pub stood : (rest : List ℕ) → left' ≡ Some rest → Stood stand h (chunk ++ (bytes ++ rest)) h' chunk' rest
  pub full : IsFull stand h'
  pub took : taken_by h' + length chunk' ≡ (taken_by h + length chunk) + length bytes
  pub onward : h.place ≤ h'.place
  pub fits : Fits h'

-- why they stop without a piece: the source failed, memory ran out, or the next piece passes a limit
abbrev pub Why : ℕ → List (List ℕ) → DecodeError → Type 0
Why start pieces errors.Read = Unit {0}
Why start pieces errors.Memory = Unit {0}
Why start pieces errors.TooLong = PieceStops start pieces errors.TooLong
Why start pieces errors.PictureTooLarge = PieceStops start pieces errors.PictureTooLarge
Why start pieces errors.Write = ⊥
Why start pieces (errors.Stream f) = ⊥

pub record Fails (h : Held) (chunk : List ℕ) (left left' : Option (List ℕ)) (e : DecodeError) : Type 0 where
  pub bytes : List ℕ
  pub moved : Moves left bytes left'
  pub why : (rest : List ℕ) → left' ≡ Some rest → Why (start_behind h (chunk ++ (bytes ++ rest))) (pieces_behind h (chunk ++ (bytes ++ rest))) e

-- bytes were looked at: those before the first two zeros at once, or one
abbrev pub Rounded : Option Stand → Held → List ℕ → Option (List ℕ) → Held → List ℕ → Option (List ℕ) → Type 0
Rounded None h chunk left h' chunk' left' = Advanced h chunk left h' chunk' left' × (measure_of h' < measure_of h)
Rounded (Some stand) h chunk left h' chunk' left' = Looked stand h chunk left h' chunk' left'

-- what is held and not looked at yet, behind some bytes of a text, was taken of it
abbrev pub Spends : Held → List ℕ → Option (List ℕ) → Held → List ℕ → Option (List ℕ) → Type 0
Spends h chunk left h' chunk' left' =
    (text rest : List ℕ) → left ≡ Some text → left' ≡ Some rest → (taken_by h' + length chunk') + length rest ≤ (taken_by h + length chunk) + length text

-- the same of a cutter: pieces are handed out of bytes that were taken
abbrev pub Keeps : Cutting → Option (List ℕ) → Cutting → Option (List ℕ) → Type 0
Keeps old left new left' =
    (text rest : List ℕ) → left ≡ Some text → left' ≡ Some rest → (new.place + length new.unread) + length rest ≤ (old.place + length old.unread) + length text

-- ---- what a call of a cutter answers

-- a piece, and the ones behind it; or none, and the place where the last one ended
abbrev pub NextPiece : Option Piece → ℕ → List (List ℕ) → Cutting → List (List ℕ) → Type 0
NextPiece (Some p) start pieces new left = (whole : List ℕ) × (pieces ≡ whole ∷ left) × IsPiece p start whole × (new.place ≡ p.place + p.length)
NextPiece None start pieces new left = (pieces ≡ []) × (left ≡ []) × (new.place ≡ start) × (new.ended ≡ true)

-- the last piece of a text that has ended, or none
abbrev pub LastOf : Option Piece → Held → Held → Type 0
LastOf None h h' = (grouped h.phase h.sure [] ≡ []) × (h'.place ≡ h.place)
LastOf (Some p) h h' = (grouped h.phase h.sure [] ≡ h.sure ∷ []) × IsPiece p h.place h.sure × (h'.place ≡ p.place + p.length)

-- The next piece of the text that is held and left, where the source tells it. The text that follows the sequence stays
-- as it is, and each byte that was read is handed out, passed over or held.
pub record Handed (old : Cutting) (left : Option (List ℕ)) (new : Cutting) (left' : Option (List ℕ)) (piece : Option Piece) : Type 0 where
  pub bytes : List ℕ
  pub moved : Moves left bytes left'
  pub next : (rest : List ℕ) → left' ≡ Some rest → NextPiece piece (start_of old (bytes ++ rest)) (left_of old (bytes ++ rest)) new (left_of new rest)
  pub behind : (rest : List ℕ) → left' ≡ Some rest → follows_of old (bytes ++ rest) ≡ follows_of new rest
  pub place : new.place + length new.unread ≡ (old.place + length old.unread) + length bytes

-- why there is none
pub record Stopped (old : Cutting) (left left' : Option (List ℕ)) (e : DecodeError) : Type 0 where
  pub bytes : List ℕ
  pub moved : Moves left bytes left'
  pub why : (rest : List ℕ) → left' ≡ Some rest → Why (start_of old (bytes ++ rest)) (left_of old (bytes ++ rest)) e
