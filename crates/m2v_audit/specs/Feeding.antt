-- A cutter, and perhaps a piece of it that comes once more: the first one of a text that begins with this piece.
use Rattle.std.specs.Prelude.{◌≡◌, ℕ, ◌+◌, Bool, true, false, ◌&&◌, nat_eq, ◌*◌, List, ◌++◌, Option, Some, None, if◌then◌else◌}
use Rattle.std.specs.List.{starts_with}
use Rattle.m2v_dec_piece.specs.declared.answer.Piece.{Piece}
use Rattle.m2v_dec_piece.specs.declared.answer.DecodeError.{DecodeError}
use Rattle.m2v_dec_piece.specs.declared.answer.DecodeError.TheVariants as errors
use Rattle.m2v_dec_piece.specs.Cutting.{Cutting, left_of, start_of, follows_of, code_of}
use Rattle.m2v_dec_piece.specs.Sound.{IsSoundPiece}
use Rattle.m2v_dec_piece.specs.Stepping.{NextPiece}
use Rattle.m2v_strict.specs.m2v_check.m2v_decode.Decoding.{whole_of}
use Rattle.m2v_audit.specs.declared.feed.Feed.{Feed}

-- What is unread of an input, where a piece comes once more: a text begins with it.
unfoldable pub with_again : Option Piece → Cutting → Cutting
with_again None c = c
with_again (Some p) c = record { place = p.place; unread = whole_of p ++ c.unread; begun = false; ended = false; failed = c.failed }

abbrev pub cutting_of : Feed → Cutting
cutting_of f = with_again f.again f.cutter

-- A piece that comes once more is the first one of the text, and behind it comes what the cutter has: of this that is left.
pub record ComesAgain (p : Piece) (c : Cutting) (left : Option (List ℕ)) : Type 0 where
  pub sound : IsSoundPiece p
  pub begun : c.begun ≡ true
  pub end : c.place ≡ p.place + p.length
  pub next : (rest : List ℕ) → left ≡ Some rest → NextPiece (Some p) (start_of (with_again (Some p) c) rest) (left_of (with_again (Some p) c) rest) c (left_of c rest)
  pub behind : (rest : List ℕ) → left ≡ Some rest → follows_of (with_again (Some p) c) rest ≡ follows_of c rest

abbrev pub Waits : Option Piece → Cutting → Option (List ℕ) → Type 0
Waits None c left = Unit {0}
Waits (Some p) c left = ComesAgain p c left

abbrev pub IsFed : Feed → Option (List ℕ) → Type 0
IsFed f left = Waits f.again f.cutter left

-- Whether a piece comes once more that was refused: a fault is told at its first bit, it begins with a sequence header, and it
-- isn't the first one of its sequence.
unfoldable pub comes_again : Bool → DecodeError → Piece → Bool
comes_again begun errors.Read p = false
comes_again begun errors.Write p = false
comes_again begun (errors.Stream f) p = begun && (nat_eq f.place (8 * p.place) && starts_with nat_eq (whole_of p) (code_of 0xB3))
comes_again begun errors.TooLong p = false
comes_again begun errors.PictureTooLarge p = false
comes_again begun errors.Memory p = false

abbrev pub again_of : Bool → Piece → Option Piece
again_of comes p = if comes then Some p else None
