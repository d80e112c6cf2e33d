-- A row that is read by itself is the row of the frame, and all rows of a picture are its frame.
use Rattle.std.specs.Prelude.{◌≡◌, ℕ, zero, suc, ◌+◌, ◌<◌, List, Some, None, Ok}
use Rattle.m2v_plane.specs.Samples.{Samples, HasRows, with_row}
use Rattle.m2v_pred.specs.Motion.{own_lines}
use Rattle.m2v_model.specs.declared.setup.SliceSetup.{SliceSetup}
use Rattle.m2v_model.specs.Samples.{References, put_in_frame, put_in_row}
use Rattle.m2v_dec_picture.specs.Conditions.{rows_in}
use Rattle.m2v_dec_rows.specs.Rows.{Slices, Begun, first_of, row_read, row_fault, slices_painted}
use Rattle.m2v_dec_rows.specs.ByRows.{picture_read}

-- Where the slices of a row cover it, they painted into a row, whatever its samples were, and that set into a frame give
-- what they painted into the frame give: of a field picture into the lines of that field.
pub record RowInFrame (s : SliceSetup) (refs : References) (row : ℕ) (us : Slices) : Type 0 where
  pub set : (xs : List Begun) (old frame : Samples) → HasRows old 1 → old.dims ≡ frame.dims → HasRows frame frame.dims.mb_rows → frame.dims ≡ s.dims
      → row_read s row us ≡ Ok (xs, first_of s (row + 1))
      → with_row frame (own_lines s.context.extension.structure) row (slices_painted put_in_row s refs old xs) ≡ slices_painted put_in_frame s refs frame xs

-- ---- all rows

-- a frame with the first n rows of a picture set, of a field picture as rows of its field
unfoldable pub rows_set : ℕ → (ℕ → Samples) → ℕ → Samples → Samples
rows_set structure row zero frame = frame
rows_set structure row (suc n) frame = with_row (rows_set structure row n frame) (own_lines structure) n (row n)

-- the samples of a row are those that its slices paint, whatever stood in it before
abbrev pub IsRowPainted : SliceSetup → References → Slices → ℕ → Samples → Type 0
IsRowPainted s refs us r row =
    (xs : List Begun) → row_read s r us ≡ Ok (xs, first_of s (r + 1))
    → (old : Samples) × HasRows old 1 × (old.dims ≡ s.dims) × (row ≡ slices_painted put_in_row s refs old xs)

-- Where no row of a picture has a fault, its rows, each read by itself, are the picture: set into a frame they give what
-- the picture's slices painted into the frame give.
pub record RowsInFrame (s : SliceSetup) (refs : References) (us : Slices) (end : ℕ) : Type 0 where
  pub set : (row : ℕ → Samples) (xs : List Begun) (frame : Samples) → HasRows frame frame.dims.mb_rows → frame.dims ≡ s.dims
      → ((r : ℕ) → r < rows_in s → row_fault s r us (Some end) ≡ None)
      → ((r : ℕ) → r < rows_in s → IsRowPainted s refs us r (row r))
      → picture_read s us ≡ Ok (xs, first_of s (rows_in s))
      → rows_set s.context.extension.structure row (rows_in s) frame ≡ slices_painted put_in_frame s refs frame xs
