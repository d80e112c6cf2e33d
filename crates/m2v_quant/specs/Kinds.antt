-- What a block is coded with, and the ranges of its numbers.
use Rattle.std.specs.Prelude.{◌<◌, ◌≤◌, ◌^◌, ℤ, pos, neg_ℤ, ◌≤ℤ◌, All}
use Rattle.m2v_quant.specs.declared.kind.BlockKind.{BlockKind}

-- the precision is a value of intra_dc_precision (clause 6.3.10), the scale one of table 7-6, and no number of the
-- matrix is 0 (clause 6.3.11)
pub record IsKind (kind : BlockKind) : Type 0 where
  pub precision : kind.precision ≤ 3
  pub least : 1 ≤ kind.scale
  pub most : kind.scale ≤ 112
  pub matrix : All (λ x. (1 ≤ x) × (x < 2 ^ 8)) kind.matrix

-- a level, of twelve bits and not the least of them
abbrev pub IsLevel : ℤ → Type 0
IsLevel z = (neg_ℤ (pos 2047) ≤ℤ z) × (z ≤ℤ pos 2047)

-- a coefficient, of twelve bits
abbrev pub IsCoefficient : ℤ → Type 0
IsCoefficient z = (neg_ℤ (pos 2048) ≤ℤ z) × (z ≤ℤ pos 2047)

-- a coefficient that the encoder's transform can give it
abbrev pub IsTransformed : ℤ → Type 0
IsTransformed z = (neg_ℤ (pos 4096) ≤ℤ z) × (z ≤ℤ pos 4095)
