-- What contracts see of a worker's cache.
use Rattle.std.specs.Prelude.{List}
use Rattle.m2v_plane.specs.Samples.{Samples}
use Rattle.m2v_slice.specs.declared.cache.Learned.{Learned}

-- a plan and the ledger with it, the bits and the work of slices that were added up, and rows of reference pictures
pub record Cached : Type 0 where
  pub learned : Learned
  pub open learned use *
  pub rows : List Samples
