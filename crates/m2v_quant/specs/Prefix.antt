-- What is written of a block when the first levels are read: the others count as 0.
use Rattle.std.specs.Prelude.{ℕ, ◌≡◌, ◌/◌, ◌%◌, ◌<◌, List, take, ℤ, pos, slice_index_or, unsigned_abs}
use Rattle.std.specs.Int.{bit_at}
use Rattle.m2v_quant.specs.declared.inverse.Told.{Told}
use Rattle.m2v_quant.specs.declared.kind.BlockKind.{BlockKind}
use Rattle.m2v_quant.specs.Coefficients.{saturated_at, coefficient_sum}

-- a block has numbers other than 0 in those rows alone whose bit is 1
abbrev pub AreInRows : ℕ → List ℤ → Type 0
AreInRows rows out = (k : ℕ) → k < 64 → bit_at rows (k / 8) ≡ 0 → slice_index_or out k (pos 0) ≡ pos 0

-- the coefficients before mismatch control of the first n levels alone, the parity of their sum, and their rows
pub record IsUpTo (levels : List ℤ) (kind : BlockKind) (n : ℕ) (out : List ℤ) (told : Told) : Type 0 where
  pub value : (k : ℕ) → k < 64 → slice_index_or out k (pos 0) ≡ saturated_at (take n levels) kind k
  pub parity_is : told.parity % 2 ≡ unsigned_abs (coefficient_sum 64 (saturated_at (take n levels) kind)) % 2
  pub rows : AreInRows told.rows out

-- the coefficients of levels before mismatch control, the parity of their sum, and their rows
pub record AreSaturated (levels : List ℤ) (kind : BlockKind) (out : List ℤ) (told : Told) : Type 0 where
  pub value : (k : ℕ) → k < 64 → slice_index_or out k (pos 0) ≡ saturated_at levels kind k
  pub parity_is : told.parity % 2 ≡ unsigned_abs (coefficient_sum 64 (saturated_at levels kind)) % 2
  pub rows : AreInRows told.rows out
