-- Rows of reference pictures that are kept one behind another.
use Rattle.std.specs.Prelude.{ℕ, ◌≡◌, ◌+◌, ◌*◌, ◌/◌, ◌%◌, ◌<◌, ◌≤◌, List, map, length, slice_index, slice_index_or}
use Rattle.std.specs.List.{range_with_len}
use Rattle.m2v_plane.specs.declared.dims.Dims.{Dims}
use Rattle.m2v_plane.specs.declared.planes.Plane.{Plane}
use Rattle.m2v_plane.specs.Sizes.{side, columns_of}
use Rattle.m2v_plane.specs.Samples.{Samples, sample_of, plane_by}
use Rattle.m2v_plane.specs.Fields.{no_samples}

-- the plane of row k among those of rows
abbrev pub plane_of_row : ℕ → ℕ → List ℕ → ℕ → List ℕ
plane_of_row height columns xs k = plane_by height columns (λ line column. slice_index xs ((height * k + line) * columns + column))

-- row k, for frames of a size
abbrev pub kept_row : Dims → List ℕ → List ℕ → List ℕ → ℕ → Samples
kept_row d luma cb cr k = record {
  dims = d;
  luma = plane_of_row 16 (16 * d.mb_width) luma k;
  cb = plane_of_row 8 (8 * d.mb_width) cb k;
  cr = plane_of_row 8 (8 * d.mb_width) cr k;
}

-- twelve of them
unfoldable pub kept_rows : Dims → List ℕ → List ℕ → List ℕ → List Samples
kept_rows d luma cb cr = map (kept_row d luma cb cr) (range_with_len 0 12)

-- a sample by line and column, where lines are counted through all rows
abbrev pub kept_at : List Samples → Plane → ℕ → ℕ → ℕ
kept_at rows plane line = sample_of (slice_index_or rows (line / side plane) no_samples) plane (line % side plane)

-- the lines of a plane of twelve rows
pub record AreLines (rows : List Samples) (plane : Plane) (xs : List ℕ) (columns : ℕ) : Type 0 where
  pub count : length rows ≡ 12
  pub most : columns ≤ 1920
  pub len : length xs ≡ 12 * side plane * columns
  pub wide : (k : ℕ) → k < 12 → columns_of (slice_index_or rows k no_samples).dims plane ≡ columns
  pub sample : (k line column : ℕ) → k < 12 → line < side plane → column < columns
      → slice_index xs ((side plane * k + line) * columns + column) ≡ sample_of (slice_index_or rows k no_samples) plane line column
