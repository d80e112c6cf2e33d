-- The headers before the picture of a piece: where each stands, and what a group header says.
use Rattle.std.specs.Prelude.{◌≡◌, ℕ, ◌+◌, ◌*◌, Bool, true, nat_eq, List, [], ◌∷◌, ◌++◌, length, drop, Result, Ok, Err, if◌then◌else◌}
use Rattle.m2v_model.specs.m2v_macroblock.m2v_head.declared.group.GroupInfo.{GroupInfo}
use Rattle.m2v_model.specs.declared.fault.FaultKind.{FaultKind}
use Rattle.m2v_model.specs.Units.{Units, begins_code, cut, body}
use Rattle.m2v_model.specs.Headers.{whole_header, group_in}
use Rattle.m2v_model.specs.Streams.{value_of}
use Rattle.m2v_audit.specs.declared.headers.PieceHeader.{PieceHeader}
use Rattle.m2v_audit.specs.declared.headers.PieceHeader.TheVariants.{Sequence, Group}

-- a group header that was read, where it reads
abbrev pub group_told : ℕ → Result (GroupInfo × List Bool) (FaultKind × ℕ) → List PieceHeader
group_told bit (Ok x) = Group bit x.0 ∷ []
group_told bit (Err f) = []

-- of a group header's unit that begins at a bit
unfoldable pub group_at : ℕ → List ℕ → List PieceHeader
group_at bit u = group_told bit ((whole_header group_in).read (body u))

-- of a unit that begins at a bit: the value of its start code is B3 for a sequence header and B8 for a group header
unfoldable pub header_at : ℕ → List ℕ → List PieceHeader
header_at bit u =
    if nat_eq (value_of u) 0xB3 then Sequence bit ∷ []
    else if nat_eq (value_of u) 0xB8 then group_at bit u
    else []

-- of units of which the first begins at a bit: those before the first picture (value 00)
unfoldable pub headers_from : ℕ → Units → List PieceHeader
headers_from bit [] = []
headers_from bit (u ∷ us) = if nat_eq (value_of u) 0x00 then [] else header_at bit u ++ headers_from (bit + 8 * length u) us

-- of a piece that begins at a byte of the input, and with a unit
abbrev pub front_of : ℕ → List ℕ → List PieceHeader
front_of place piece = headers_from (8 * place) (cut 0 piece).1

-- ---- where headers stand

abbrev pub bit_of : PieceHeader → ℕ
bit_of (Sequence bit) = bit
bit_of (Group bit info) = bit

-- the value of its start code
abbrev pub code_of : PieceHeader → ℕ
code_of (Sequence bit) = 0xB3
code_of (Group bit info) = 0xB8

-- a header of a piece that begins at a byte of the input: at its bit a start code of its value begins
pub record IsPlaced (place : ℕ) (piece : List ℕ) (h : PieceHeader) : Type 0 where
  pub byte : ℕ
  pub bit : bit_of h ≡ 8 * (place + byte)
  pub code : begins_code (drop byte piece) ≡ true
  pub value : value_of (drop byte piece) ≡ code_of h
