-- Which levels of a block are 0, and levels that are written by raster places.
use Rattle.std.specs.Prelude.{ℕ, ◌-◌, ◌*◌, ◌/◌, ◌<◌, ◌≤◌, ◌≡◌, Bool, cond, nat_eq, List, All, map, slice_index, slice_index_or, ℤ, pos, unsigned_abs}
use Rattle.std.specs.Int.{bit_at}
use Rattle.m2v_quant.specs.declared.kind.BlockKind.{BlockKind}
use Rattle.m2v_quant.specs.Kinds.{IsLevel}
use Rattle.m2v_quant.specs.Coefficients.{position}
use Rattle.m2v_quant.specs.Quantiser.{ac_level, level_at}

-- the level of a raster place, as if it were no intra DC
abbrev pub level_of_place : List ℤ → BlockKind → ℕ → ℤ
level_of_place f kind p = ac_level kind.intra (slice_index kind.matrix p * kind.scale) (slice_index_or f p (pos 0))

-- a matrix is 16 everywhere
abbrev pub IsFlat : List ℕ → Type 0
IsFlat matrix = (p : ℕ) → p < 64 → slice_index matrix p ≡ 16

-- the product of matrix value and scale is this at each raster place
pub record IsStepOf (kind : BlockKind) (step : ℕ) : Type 0 where
  pub least : 1 ≤ step
  pub most : step ≤ 28560
  pub each : (p : ℕ) → p < 64 → slice_index kind.matrix p * kind.scale ≡ step

-- the size up to which a coefficient that is no intra DC has the level 0, by the product of matrix value and scale
abbrev pub limit_of : Bool → ℕ → ℕ
limit_of intra step = (step - 1) / cond intra 32 16

-- those of the raster places
abbrev pub limits_of : BlockKind → List ℤ
limits_of kind = map (λ m. pos (limit_of kind.intra (m * kind.scale))) kind.matrix

-- 1 where a level isn't 0
abbrev pub mark_of : ℤ → ℕ
mark_of level = cond (nat_eq (unsigned_abs level) 0) 0 1

-- bit p tells of raster place p, of those from one on, as if it were no intra DC
abbrev pub AreMarked : ℕ → List ℤ → BlockKind → ℕ → Type 0
AreMarked from f kind marks = (p : ℕ) → from ≤ p → p < 64 → bit_at marks p ≡ mark_of (level_of_place f kind p)

-- in scan order stand the levels of all raster places but of those whose bit is 1
pub record ArePlacedBut (left : ℕ) (f : List ℤ) (kind : BlockKind) (levels : List ℤ) : Type 0 where
  pub done : (p : ℕ) → p < 64 → bit_at left p ≡ 0 → slice_index_or levels (position kind.alternate p) (pos 0) ≡ level_at f kind (position kind.alternate p)
  pub within : All IsLevel levels
