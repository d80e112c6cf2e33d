-- The sequence header with which a strand would begin, read alone.
use Rattle.std.specs.Prelude.{◌≡◌, ℕ, ◌*◌, List, take, Option}
use Rattle.m2v_model.specs.declared.state.Sequence.{Sequence}
use Rattle.m2v_model.specs.Units.{joined}
use Rattle.m2v_model.specs.ByPieces.{text_read}
use Rattle.m2v_decode.specs.m2v_dec_piece.declared.answer.Piece.{Piece}
use Rattle.m2v_decode.specs.m2v_dec_piece.Sound.{IsSoundPiece}
use Rattle.m2v_decode.specs.Decoding.{whole_of}
use Rattle.m2v_law_seam.specs.Spans.{units_of, Span}
use Rattle.m2v_law_seam.specs.Faults.{only_header, header_by, header_units, header_place}
use Rattle.m2v_mend.specs.declared.header.Header.{Header}
use Rattle.m2v_mend.specs.Editing.{IsUnits}

-- the first bytes of a piece, so many
pub record IsFront (old : Piece) (n : ℕ) (new : Piece) : Type 0 where
  pub sound : IsSoundPiece new
  pub whole : whole_of new ≡ take n (whole_of old)

-- a head as a piece
pub record IsHeadPiece (head : List ℕ) (p : Piece) : Type 0 where
  pub sound : IsSoundPiece p
  pub whole : whole_of p ≡ head

-- what the first unit of a piece and the extension units right behind it say, where its bytes are units
abbrev pub HeaderTold : Piece → Option Sequence → Type 0
HeaderTold p o = IsUnits p → o ≡ header_by (text_read (joined (only_header (units_of (whole_of p)))))

-- the piece begins with the sequence header of a span, which is told at this byte
pub record IsHeaded (s : Span) (h : Header) : Type 0 where
  pub units : IsUnits h.piece
  pub only : only_header (units_of (whole_of h.piece)) ≡ only_header (header_units s)
  pub place : 8 * h.place ≡ header_place s
