-- The rows of a picture of a batch that was decoded.
use Rattle.std.specs.Prelude.{◌≡◌, ℕ, ◌+◌, ◌<◌}
use Rattle.m2v_plane.specs.Samples.{Samples}
use Rattle.m2v_plane.specs.Fields.{or_none}
use Rattle.m2v_dec_batch.specs.declared.pieces.DecodePiece.TheVariants.{Rebuilt}
use Rattle.m2v_dec_batch.specs.Pieces.{row_of}
use Rattle.m2v_dec_batch.specs.Jobs.{jobs_of}
use Rattle.m2v_dec_batch.specs.Batches.{Batch, headers}
use Rattle.m2v_dec_batch.specs.Values.{value_of}

-- rows of a batch, from a job on
pub record RowsFrom : Type 0 where
  pub batch : Batch
  pub first : ℕ

-- the samples of a row
abbrev pub samples_at : RowsFrom → ℕ → Samples
samples_at x r = or_none (row_of (value_of x.batch (x.first + r)))

-- a row is rebuilt
abbrev pub IsThere : RowsFrom → ℕ → Type 0
IsThere x r = (x.first + r < jobs_of (headers x.batch)) × (value_of x.batch (x.first + r) ≡ Rebuilt (samples_at x r))

-- the first rows are
abbrev pub AreThere : RowsFrom → ℕ → Type 0
AreThere x count = (r : ℕ) → r < count → IsThere x r
