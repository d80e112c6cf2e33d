-- What comes of a row, and what others learn of it, as contracts see it.
use Rattle.std.specs.Prelude.{ℕ, ◌≡◌, ⊤, Bool, true, false, Option, Some, None}
use Rattle.m2v_plane.specs.declared.dims.Dims.{Dims}
use Rattle.m2v_plane.specs.Samples.{Samples}
use Rattle.m2v_dec_batch.specs.declared.pieces.DecodePiece.{DecodePiece}
use Rattle.m2v_dec_batch.specs.declared.pieces.DecodePiece.TheVariants.{Unread, After, Faulty, Rebuilt}
use Rattle.m2v_dec_batch.specs.declared.pieces.Kept.{Kept}
use Rattle.m2v_dec_batch.specs.declared.pieces.Kept.TheVariants.{Nothing, Room, Row}

-- the samples of a row that is rebuilt
abbrev pub row_of : DecodePiece → Option Samples
row_of (Unread d) = None
row_of After = None
row_of (Faulty f) = None
row_of (Rebuilt xs) = Some xs

abbrev pub is_rebuilt : DecodePiece → Bool
is_rebuilt (Unread d) = false
is_rebuilt After = false
is_rebuilt (Faulty f) = false
is_rebuilt (Rebuilt xs) = true

-- what other rows learn of a row: the size of the frames, whether it holds samples at all, these where the row is rebuilt, and
-- what a gate is told of it
pub record SharedRow : Type 0 where
  pub dims : Dims
  pub holds : Bool
  pub row : Option Samples
  pub told : ℕ

-- ---- what a shared part keeps

abbrev pub keeps : Kept → Bool
keeps Nothing = false
keeps (Room d) = true
keeps (Row xs) = true

abbrev pub row_kept : Kept → Option Samples
row_kept Nothing = None
row_kept (Room d) = None
row_kept (Row xs) = Some xs

abbrev pub IsKeptFor : Dims → Kept → Type 0
IsKeptFor d Nothing = ⊤
IsKeptFor d (Room e) = e ≡ d
IsKeptFor d (Row xs) = xs.dims ≡ d
