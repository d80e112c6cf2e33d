-- From where on all units of a piece are slices.
use Rattle.std.specs.Prelude.{◌≡◌, ℕ, ◌+◌, ◌-◌, ◌<◌, ◌≤◌, Bool, true, ◌&&◌, nat_le, List, ◌++◌, length, drop, get_or, replicate, vec_len}
use Rattle.m2v_model.specs.m2v_bits.Bits.{IsStartCode}
use Rattle.m2v_model.specs.Units.{begins_code}
use Rattle.m2v_dec_piece.specs.declared.answer.Piece.{Piece}

-- the values of slices (clause 6.2.1, table 6-1)
abbrev pub is_slice : ℕ → Bool
is_slice value = nat_le 1 value && nat_le value 0xAF

-- where a start code stands at or behind a place, it is a slice's
abbrev pub OnlySlices : ℕ → List ℕ → Type 0
OnlySlices from bytes = (k : ℕ) → from ≤ k → begins_code (drop k bytes) ≡ true → is_slice (get_or bytes (k + 3) 0) ≡ true

-- the bytes of a piece, all zero bytes at its end among them
abbrev pub whole_of : Piece → List ℕ
whole_of p = p.bytes.items ++ replicate (p.length - vec_len p.bytes) 0

-- What is known of the sure bytes of a piece at hand, behind which so many bytes of a prefix stand: a prefix at or
-- behind a place is followed by the value of a slice, so that a byte more makes no other start code of it; and no zero
-- byte stands last where a prefix could begin with it.
pub record IsSliced (from : ℕ) (bytes : List ℕ) (ahead : ℕ) : Type 0 where
  pub values : (k : ℕ) → from ≤ k → IsStartCode bytes k → (k + 3 < length bytes) × (is_slice (get_or bytes (k + 3) 0) ≡ true)
  pub last : ahead < 2 → from < length bytes → 0 < get_or bytes (length bytes - 1) 0
