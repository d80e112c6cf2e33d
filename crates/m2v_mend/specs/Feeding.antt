-- The pieces of an input's stretches, as they are handed out.
use Rattle.std.specs.Prelude.{◌≡◌, ℕ, ◌+◌, ◌^◌, ◌<◌, ◌≤◌, true, false, List, [], ◌∷◌, ◌++◌, length, Option, Some, None, IfSome, if◌then◌else◌}
use Rattle.m2v_port.specs.Port.{Moves}
use Rattle.m2v_model.specs.Units.{Units, cut, joined}
use Rattle.m2v_model.specs.Streams.{value_of}
use Rattle.m2v_model.specs.Pieces.{is_end, piece_of, limit}
use Rattle.m2v_decode.specs.m2v_dec_piece.declared.answer.Piece.{Piece}
use Rattle.m2v_decode.specs.m2v_dec_piece.Sound.{IsSoundPiece}
use Rattle.m2v_decode.specs.m2v_dec_piece.Cutting.{Cutting, start_of, left_of, follows_of}
use Rattle.m2v_decode.specs.Decoding.{whole_of}
use Rattle.m2v_mend.specs.declared.feed.Extent.{Extent}
use Rattle.m2v_law_group.specs.Groups.{to_end}
use Rattle.m2v_law_seam.specs.Spans.{units_of, Stretch, stretches_from}
use Rattle.m2v_law_seam.specs.Strands.{has_end}
use Rattle.m2v_mend.specs.Editing.{IsUnits, EndsInZeros, zeros_in}
use Rattle.m2v_mend.specs.Telling.{IsCounted}

-- a piece without what stands before its first unit, and without the end code
abbrev pub bare : List ℕ → List ℕ
bare piece = joined (to_end (cut 0 piece).1)

-- pieces so, where a byte of them is left
unfoldable pub bare_pieces : List (List ℕ) → List (List ℕ)
bare_pieces [] = []
bare_pieces (p ∷ ps) = piece_of (bare p) ++ bare_pieces ps

-- the stretches of what is left of an input from a byte on, behind its units before
abbrev pub stretches_at : ℕ → Units → List ℕ → List Stretch
stretches_at at before text = stretches_from (at + length (cut 0 text).0) before [] (cut 0 text).1

-- the first of them
abbrev pub stretch_at : ℕ → Units → List ℕ → Stretch
stretch_at at before text = record { place = at + length (cut 0 text).0; before = before; units = to_end (cut 0 text).1 }

-- from the first sequence end code on
unfoldable pub from_end : Units → Units
from_end [] = []
from_end (u ∷ us) = if is_end (value_of u) then u ∷ us else from_end us

-- a piece of these bytes that begins at a byte, where it has one
pub record IsPart (p : Piece) (place : ℕ) (bytes : List ℕ) : Type 0 where
  pub whole : whole_of p ≡ bytes
  pub at : p.place ≡ place
  pub length_is : p.length ≡ length bytes
  pub sound : 1 ≤ p.length → IsSoundPiece p

-- a piece of an input, without what stands before its first unit and without its end code
abbrev pub IsBare : Piece → ℕ → List ℕ → Type 0
IsBare p place whole = IsPart p (place + length (cut 0 whole).0) (bare whole)

-- the same, where there is a piece
abbrev pub AreBare : Option Piece → Option Piece → Type 0
AreBare None None = Unit {0}
AreBare None (Some q) = ⊥
AreBare (Some p) None = ⊥
AreBare (Some p) (Some q) = IsBare q p.place (whole_of p)

-- the next piece, and the ones behind it; or none, and the place where the last one ended
abbrev pub NextBare : Option Piece → ℕ → List (List ℕ) → Cutting → List (List ℕ) → Type 0
NextBare (Some p) start pieces new left =
    (whole : List ℕ) × (pieces ≡ whole ∷ left) × IsBare p start whole × (new.place ≡ start + length whole) × (limit start 0 whole ≡ None)
NextBare None start pieces new left = (pieces ≡ []) × (left ≡ []) × (new.place ≡ start) × (new.ended ≡ true)

-- what is known of a piece that is handed out, whatever the source tells: it is units, of which none is an end code
pub record IsOwn (p : Piece) : Type 0 where
  pub units : IsUnits p
  pub no_end : has_end (units_of (whole_of p)) ≡ false
  pub sound : 1 ≤ p.length → IsSoundPiece p

-- zero bytes enough are kept of it that its group header can be marked
abbrev pub HasLastZeros : Piece → Type 0
HasLastZeros p = EndsInZeros p.bytes.items (zeros_in p)

-- so it is of a part of a piece, where it is of the piece
abbrev pub KeepsZeros : Piece → Piece → Type 0
KeepsZeros old new = HasLastZeros old → HasLastZeros new

-- the same, where there is a piece
abbrev pub KeepZeros : Option Piece → Option Piece → Type 0
KeepZeros None q = Unit {0}
KeepZeros (Some p) None = Unit {0}
KeepZeros (Some p) (Some q) = KeepsZeros p q

-- the next piece of the text that is held and left, where the source tells it
pub record Fed (old : Cutting) (left : Option (List ℕ)) (new : Cutting) (left' : Option (List ℕ)) (piece : Option Piece) : Type 0 where
  pub bytes : List ℕ
  pub moved : Moves left bytes left'
  pub next : (rest : List ℕ) → left' ≡ Some rest → NextBare piece (start_of old (bytes ++ rest)) (left_of old (bytes ++ rest)) new (left_of new rest)
  pub behind : (rest : List ℕ) → left' ≡ Some rest → follows_of old (bytes ++ rest) ≡ follows_of new rest
  pub place : new.place + length new.unread ≡ (old.place + length old.unread) + length bytes
  pub zeros : (rest : List ℕ) → left' ≡ Some rest → IfSome piece HasLastZeros

-- a piece ends behind the place where the one before it ended, whatever the source tells, and the pieces go on
abbrev pub IsOnward : Option Piece → Cutting → Cutting → Type 0
IsOnward (Some q) old new = (old.place < new.place) × (new.place ≤ 2 ^ 36) × (new.begun ≡ true)
IsOnward None old new = (old.place ≤ new.place) × (new.place ≤ 2 ^ 36)

-- how many bytes the units of a piece have, and those before a sequence end code; and what is counted of these
pub record IsExtent (whole : List ℕ) (e : Extent) : Type 0 where
  pub units : e.units ≡ length (joined (cut 0 whole).1)
  pub own : e.own ≡ length (bare whole)
  pub counted : IsCounted (to_end (units_of whole)) e.counted

-- a cutter whose next piece begins with its next byte
abbrev pub within : Cutting → Cutting
within c = record c { begun = true; ended = false }

-- before the first byte of an input
abbrev pub nothing_read : Cutting
nothing_read = record { place = 0; unread = []; begun = true; ended = false; failed = false }
