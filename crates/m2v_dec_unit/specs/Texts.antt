-- A piece of a stream as a program keeps it: bytes, and a number of zero bytes that end it.
use Rattle.std.specs.Prelude.{◌≡◌, ℕ, ◌+◌, ◌-◌, ◌<◌, ◌≤◌, true, false, List, ◌++◌, length, drop, replicate, slice_index}
use Rattle.m2v_model.specs.Units.{Units, begins_code, cut}

-- bytes, and zero bytes behind them
abbrev pub text_of : List ℕ → ℕ → List ℕ
text_of bytes zeros = bytes ++ replicate zeros 0

-- zero bytes are left out behind a zero byte alone, so no start code begins in the bytes and ends behind them
abbrev pub IsZeroEnded : List ℕ → ℕ → Type 0
IsZeroEnded bytes zeros = 0 < zeros → (0 < length bytes) × (slice_index bytes (length bytes - 1) ≡ 0)

-- the units of a text, behind the bytes before its first start code
abbrev pub units_in : List ℕ → Units
units_in text = (cut 0 text).1

-- where there are bytes, a unit begins with them
abbrev pub BeginsUnit : List ℕ → ℕ → Type 0
BeginsUnit bytes zeros = 0 < length bytes → (4 ≤ length bytes) × (begins_code (text_of bytes zeros) ≡ true)

-- The first start code at or behind a place, or the end of the bytes where none begins there, whatever number of zero
-- bytes stands behind them.
pub record IsNextUnit (bytes : List ℕ) (from to : ℕ) : Type 0 where
  pub behind : from ≤ to
  pub within : to ≤ length bytes
  pub value : to < length bytes → to + 3 < length bytes
  pub found : to < length bytes → (zeros : ℕ) → begins_code (drop to (text_of bytes zeros)) ≡ true
  pub first : (zeros k : ℕ) → IsZeroEnded bytes zeros → from ≤ k → k < to → begins_code (drop k (text_of bytes zeros)) ≡ false
