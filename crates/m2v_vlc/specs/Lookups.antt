-- What a program's look-ups say of a table.
use Rattle.std.specs.Prelude.{◌≡◌, ℕ, ◌-◌, ◌/◌, ◌^◌, Bool, true, ◌&&◌, nat_le, nat_eq, List, [], map, slice_get, slice_index_or}
use Rattle.m2v_bits.specs.Bits.{bits_of, ahead}
use Rattle.m2v_vlc.specs.declared.rows.Code.{Code}
use Rattle.m2v_vlc.specs.Codes.{Row, row, code, row_at, is_free, is_within}

-- the rows of a program's list of values and codes
abbrev pub rows_of : {V : Type 0} → List (V × ℕ × ℕ) → List (Row V)
rows_of entries = map (λ e. row e.0 e.1 e.2) entries

-- a table of codes of at most 17 bits
pub record IsTable {V : Type 0} (t : List (Row V)) : Type 0 where
  pub free : is_free t ≡ true
  pub within : is_within 17 t ≡ true

-- i is the place of the row whose code stands at the head of the bits, with zeros past the end;
-- where there is none, i is past the table
abbrev pub Points : {V : Type 0} → List (Row V) → ℕ → List Bool → Type 0
Points t i bs = row_at t (ahead 17 bs) ≡ slice_get t i

-- the code of the row at i, nothing past the table
abbrev pub code_in : {V : Type 0} → List (Row V) → ℕ → List Bool
code_in t i = slice_index_or (map code t) i []

-- the bits of a code of the program's
abbrev pub spelled : Code → List Bool
spelled c = bits_of c.len c.number

-- the code x of len bits, 17 at most, begins with the number p of left bits
abbrev pub begins_by_number : ℕ → ℕ → ℕ → ℕ → Bool
begins_by_number left p x len = nat_le len 17 && (nat_le left len && nat_eq (x / 2 ^ (len - left)) p)
