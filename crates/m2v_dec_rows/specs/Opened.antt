-- What is known of a picture's headers, and of the piece in which its slices stand.
use Rattle.std.specs.Prelude.{◌≡◌, ℕ, ◌+◌, ◌-◌, ◌*◌, ◌<◌, ◌≤◌, List, All, map, take, drop, vec_len, Option, Some, None}
use Rattle.m2v_model.specs.declared.setup.SliceSetup.{SliceSetup}
use Rattle.m2v_dec_piece.specs.declared.answer.Piece.{Piece}
use Rattle.m2v_dec_piece.specs.declared.answer.Fault.{Fault}
use Rattle.m2v_dec_piece.specs.Sound.{IsSoundPiece}
use Rattle.m2v_dec_unit.specs.Texts.{text_of}
use Rattle.m2v_dec_picture.specs.Conditions.{IsSetup, rows_in}
use Rattle.m2v_dec_rows.specs.declared.opened.Opened.{Opened}
use Rattle.m2v_dec_rows.specs.declared.opened.SliceUnit.{SliceUnit}
use Rattle.m2v_dec_rows.specs.Rows.{Unread, Slices}

abbrev pub setup_of : Opened → SliceSetup
setup_of o = record { context = o.context; dims = o.dims; references = o.references }

-- the bytes of a piece, all zero bytes at its end among them
abbrev pub whole_of : Piece → List ℕ
whole_of p = text_of p.bytes.items (p.length - vec_len p.bytes)

-- a slice as it stands in the piece
abbrev pub unread : Piece → SliceUnit → Unread
unread p u = record {
  row = u.row;
  unit = take u.length (drop (u.place - p.place) (whole_of p));
  end = u.place + u.length;
}

abbrev pub slices_of : Piece → Opened → Slices
slices_of p o = map (unread p) o.slices.items

-- the place where the picture ends, in bits from the input's first byte, where that is reached: a piece ends with its
-- picture, if no fault stands before
abbrev pub ending_by : Option Fault → ℕ → Option ℕ
ending_by None end = Some end
ending_by (Some f) end = None

abbrev pub ending : Piece → Opened → Option ℕ
ending p o = ending_by o.fault (8 * (p.place + p.length))

-- ---- what is known

-- a slice stands in the piece, its start code among the bytes that are kept
pub record StandsIn (p : Piece) (u : SliceUnit) : Type 0 where
  pub behind : p.place ≤ u.place
  pub code : 4 ≤ u.length
  pub kept : u.place - p.place + 4 ≤ vec_len p.bytes
  pub end : u.place + u.length ≤ p.place + p.length

-- what was read of the headers of a piece
pub record IsOpened (p : Piece) (o : Opened) : Type 0 where
  pub piece : IsSoundPiece p
  pub setup : IsSetup (setup_of o)
  pub rows : o.rows ≡ rows_in (setup_of o)
  pub slices : All (StandsIn p) o.slices.items
  pub in_rows : All (λ u. u.row < o.rows) o.slices.items
