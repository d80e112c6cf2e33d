-- What a cutter holds of a text, and what it hands out.
use Rattle.std.specs.Prelude.{◌≡◌, ◌⊎◌, ℕ, suc, ◌+◌, ◌<◌, ◌≤◌, Bool, true, false, List, [], ◌∷◌, ◌++◌, length, take, replicate, Option, Some, None, nat_lt, nat_eq, if◌then◌else◌}
use Rattle.m2v_model.specs.declared.phase.Phase.{Phase}
use Rattle.m2v_model.specs.declared.phase.Phase.TheVariants.{Before, Headers, Picture}
use Rattle.m2v_model.specs.Units.{cut}
use Rattle.m2v_model.specs.m2v_bits.Bits.{HasNoPair}
use Rattle.m2v_model.specs.Pieces.{grouped, before_pieces, limit, Limit, too_long, too_large, most_input, trimmed, phase_after, is_end, begins_piece}
use Rattle.m2v_dec_piece.specs.Following.{following_in}
use Rattle.m2v_dec_piece.specs.declared.answer.Piece.{Piece}
use Rattle.m2v_dec_piece.specs.declared.answer.DecodeError.{DecodeError}
use Rattle.m2v_dec_piece.specs.declared.answer.DecodeError.TheVariants as errors

-- The piece at hand: the phase of its units, the place of its first byte, its bytes so far, and how many bytes of a
-- start code's prefix 00 00 01 stand behind these, of which it isn't known yet whether they belong to it.
pub record Held : Type 0 where
  pub phase : Phase
  pub place : ℕ
  pub sure : List ℕ
  pub ahead : ℕ

-- the same, where the zero bytes that stand last are only counted
abbrev pub held_by : Phase → ℕ → List ℕ → ℕ → ℕ → Held
held_by phase place bytes zeros ahead = record { phase = phase; place = place; sure = bytes ++ replicate zeros 0; ahead = ahead }

-- so many bytes of a start code's prefix
abbrev pub prefix : ℕ → List ℕ
prefix n = take n (0 ∷ 0 ∷ 1 ∷ [])

-- how many bytes of a text were taken up to the last one that is held
abbrev pub taken_by : Held → ℕ
taken_by h = h.place + (length h.sure + h.ahead)

-- whether the first sequence header was seen
abbrev pub is_begun : Phase → Bool
is_begun Before = false
is_begun Headers = true
is_begun Picture = true

-- the pieces of a text behind bytes that the piece at hand has already
unfoldable pub open_pieces : Phase → List ℕ → List ℕ → List (List ℕ)
open_pieces phase sure text = grouped phase (sure ++ (cut 0 text).0) (cut 0 text).1

-- the place of the first of them
unfoldable pub open_start : Phase → ℕ → List ℕ → ℕ
open_start Before place text = place + length (before_pieces text)
open_start Headers place text = place
open_start Picture place text = place

-- the pieces of what is held and of the text behind it, and the place of the first
abbrev pub pieces_behind : Held → List ℕ → List (List ℕ)
pieces_behind h text = open_pieces h.phase h.sure (prefix h.ahead ++ text)

abbrev pub start_behind : Held → List ℕ → ℕ
start_behind h text = open_start h.phase h.place (prefix h.ahead ++ text)

-- the text that follows their sequence
abbrev pub follows_behind : Held → List ℕ → List ℕ
follows_behind h text = following_in (is_begun h.phase) (prefix h.ahead ++ text)

-- behind bytes that are sure: those before the first piece are passed over
abbrev pub place_after : Phase → ℕ → List ℕ → ℕ
place_after Before place bytes = place + length bytes
place_after Headers place bytes = place
place_after Picture place bytes = place

abbrev pub sure_after : Phase → List ℕ → List ℕ → List ℕ
sure_after Before sure bytes = sure
sure_after Headers sure bytes = sure ++ bytes
sure_after Picture sure bytes = sure ++ bytes

-- the first limit that sure bytes pass behind those that the piece has: before the first piece the one of the input
unfoldable pub limit_in : Phase → ℕ → List ℕ → List ℕ → Option Limit
limit_in Before place sure bytes = if nat_lt most_input (place + length bytes) then Some too_long else None
limit_in Headers place sure bytes = limit place (length sure) bytes
limit_in Picture place sure bytes = limit place (length sure) bytes

abbrev pub behind : Held → List ℕ → Held
behind h bytes = record { phase = h.phase; place = place_after h.phase h.place bytes; sure = sure_after h.phase h.sure bytes; ahead = h.ahead }

-- what is held passes no limit, and before the first piece nothing is held
pub record Fits (h : Held) : Type 0 where
  pub limit : limit h.place 0 h.sure ≡ None
  pub none : h.phase ≡ Before → h.sure ≡ []

-- the piece that is handed out
pub record IsPiece (p : Piece) (place : ℕ) (whole : List ℕ) : Type 0 where
  pub bytes : p.bytes.items ≡ trimmed whole
  pub at : p.place ≡ place
  pub length : p.length ≡ length whole
  pub fits : limit place 0 whole ≡ None

-- the byte that the sure bytes of a piece would pass a limit with; those before the first piece pass the input's limit
abbrev pub limit_of : Held → List ℕ → Option Limit
limit_of h bytes = limit_in h.phase h.place h.sure bytes

-- a limit that is passed as the answer of a call; want of memory is the one free answer
abbrev pub LimitErr : Option Limit → DecodeError → Type 0
LimitErr passed errors.TooLong = passed ≡ Some too_long
LimitErr passed errors.PictureTooLarge = passed ≡ Some too_large
LimitErr passed errors.Memory = Unit {0}
LimitErr passed errors.Read = ⊥
LimitErr passed errors.Write = ⊥
LimitErr passed (errors.Stream f) = ⊥

-- the first of some pieces passes a limit, where it begins at a place
pub record Passes (place : ℕ) (l : Limit) (pieces : List (List ℕ)) : Type 0 where
  pub whole : List ℕ
  pub others : List (List ℕ)
  pub are : pieces ≡ whole ∷ others
  pub decides : limit place 0 whole ≡ Some l

-- Why the first of some pieces isn't handed out, where it begins at a place: it passes a limit, or the bytes before it
-- do. Want of memory is the one free answer.
abbrev pub PieceStops : ℕ → List (List ℕ) → DecodeError → Type 0
PieceStops place pieces errors.TooLong = (most_input < place) ⊎ Passes place too_long pieces
PieceStops place pieces errors.PictureTooLarge = Passes place too_large pieces
PieceStops place pieces errors.Memory = Unit {0}
PieceStops place pieces errors.Read = ⊥
PieceStops place pieces errors.Write = ⊥
PieceStops place pieces (errors.Stream f) = ⊥

-- a byte was taken, and the pieces are the same whatever follows it
pub record Took (old : Held) (b : ℕ) (new : Held) : Type 0 where
  pub pieces : (text : List ℕ) → pieces_behind old (b ∷ text) ≡ pieces_behind new text
  pub start : (text : List ℕ) → start_behind old (b ∷ text) ≡ start_behind new text
  pub follows : (text : List ℕ) → follows_behind old (b ∷ text) ≡ follows_behind new text
  pub more : new.place + (length new.sure + new.ahead) ≡ suc (old.place + (length old.sure + old.ahead))
  pub onward : old.place ≤ new.place
  pub fits : Fits new

-- bytes in which no two zeros stand together, and that don't end in one
abbrev pub IsRun : List ℕ → Type 0
IsRun bytes = HasNoPair (length bytes) bytes

-- bytes were taken, and the pieces are the same whatever follows them
pub record TookAll (old : Held) (bytes : List ℕ) (new : Held) : Type 0 where
  pub pieces : (text : List ℕ) → pieces_behind old (bytes ++ text) ≡ pieces_behind new text
  pub start : (text : List ℕ) → start_behind old (bytes ++ text) ≡ start_behind new text
  pub follows : (text : List ℕ) → follows_behind old (bytes ++ text) ≡ follows_behind new text
  pub more : new.place + (length new.sure + new.ahead) ≡ length bytes + (old.place + (length old.sure + old.ahead))
  pub phase : new.phase ≡ old.phase
  pub onward : old.place ≤ new.place
  pub fits : Fits new

-- a byte isn't taken, since the next piece passes a limit with it, whatever follows it
abbrev pub StopsAt : Held → ℕ → DecodeError → Type 0
StopsAt h b e = (text : List ℕ) → PieceStops (start_behind h (b ∷ text)) (pieces_behind h (b ∷ text)) e

-- a start code
abbrev pub code_of : ℕ → List ℕ
code_of value = 0 ∷ 0 ∷ 1 ∷ value ∷ []

-- the phase behind a unit that belongs to the piece
abbrev pub phase_behind : Phase → ℕ → Phase
phase_behind Before value = Before
phase_behind Headers value = phase_after Headers value
phase_behind Picture value = Picture

-- a unit neither begins nor ends a piece
abbrev pub GoesOn : Phase → ℕ → Type 0
GoesOn Before value = nat_eq value 0xB3 ≡ false
GoesOn Headers value = is_end value ≡ false
GoesOn Picture value = begins_piece value ≡ false

-- the end code was taken, and all that is held is the last piece
pub record Ends (old new : Held) : Type 0 where
  pub pieces : (text : List ℕ) → pieces_behind old (0xB7 ∷ text) ≡ new.sure ∷ []
  pub follows : (text : List ℕ) → follows_behind old (0xB7 ∷ text) ≡ text
  pub ahead : new.ahead ≡ 0
  pub place : new.place ≡ old.place
  pub more : taken_by new ≡ suc (taken_by old)
  pub some : 1 ≤ length new.sure
  pub fits : Fits new

-- the first piece begins, and its value stands next
pub record FirstBegun (old new : Held) : Type 0 where
  pub pieces : (text : List ℕ) → pieces_behind old (0xB3 ∷ text) ≡ pieces_behind new (0xB3 ∷ text)
  pub start : (text : List ℕ) → start_behind old (0xB3 ∷ text) ≡ start_behind new (0xB3 ∷ text)
  pub follows : (text : List ℕ) → follows_behind old (0xB3 ∷ text) ≡ follows_behind new (0xB3 ∷ text)
  pub is : new ≡ record old { phase = Headers }
  pub fits : Fits new

-- the input has ended, and all that is held is the last piece
pub record Finished (old new : Held) : Type 0 where
  pub pieces : pieces_behind old [] ≡ grouped new.phase new.sure []
  pub start : start_behind old [] ≡ new.place
  pub follows : follows_behind old [] ≡ []
  pub ahead : new.ahead ≡ 0
  pub phase : new.phase ≡ old.phase
  pub taken : taken_by new ≡ taken_by old
  pub onward : old.place ≤ new.place
  pub fits : Fits new

-- ---- what contracts see of a cutter

-- the place of what is read and not handed out, these bytes, whether the first sequence header was seen and the end
-- code, and whether a call answered an error, behind which no other may come
pub record Cutting : Type 0 where
  pub place : ℕ
  pub unread : List ℕ
  pub begun : Bool
  pub ended : Bool
  pub failed : Bool

-- the phase in which the next piece is looked for
abbrev pub phase_for : Bool → Phase
phase_for begun = if begun then Headers else Before

-- the pieces that are left, where this text follows what is read
abbrev pub left_of : Cutting → List ℕ → List (List ℕ)
left_of c text = if c.ended then [] else open_pieces (phase_for c.begun) [] (c.unread ++ text)

-- the place of the first of them, or of the end where there is none
abbrev pub start_of : Cutting → List ℕ → ℕ
start_of c text = if c.ended then c.place else open_start (phase_for c.begun) c.place (c.unread ++ text)

-- The text that follows the sequence, where this text follows what is read. Behind the end code, or at the end of the
-- input, it is what is left.
abbrev pub follows_of : Cutting → List ℕ → List ℕ
follows_of c text = if c.ended then c.unread ++ text else following_in c.begun (c.unread ++ text)

-- a piece is about to begin: nothing of it is held but a prefix
pub record AtPiece (h : Held) : Type 0 where
  pub sure : h.sure ≡ []
  pub phase : h.phase ≡ phase_for (is_begun h.phase)

-- the errors of a cutter: it never writes, and reads no element
abbrev pub IsReading : DecodeError → Type 0
IsReading errors.Read = Unit {0}
IsReading errors.Write = ⊥
IsReading (errors.Stream f) = ⊥
IsReading errors.TooLong = Unit {0}
IsReading errors.PictureTooLarge = Unit {0}
IsReading errors.Memory = Unit {0}
