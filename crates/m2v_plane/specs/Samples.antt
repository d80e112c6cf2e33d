-- Samples of a frame or of a macroblock row.
use Rattle.std.specs.Prelude.{ℕ, ◌≡◌, ◌+◌, ◌*◌, ◌/◌, ◌%◌, List, map, length, slice_index, slice_set, replicate, Bool, true, ◌&&◌, nat_eq, if◌then◌else◌, take, drop, ◌++◌}
use Rattle.std.specs.List.{range_with_len}
use Rattle.m2v_plane.specs.declared.dims.Dims.{Dims}
use Rattle.m2v_plane.specs.declared.planes.Plane.{Plane}
use Rattle.m2v_plane.specs.declared.planes.Plane.TheVariants.{Y, Cb, Cr}
use Rattle.m2v_plane.specs.declared.planes.Lines.{Lines}
use Rattle.m2v_plane.specs.declared.planes.Lines.TheVariants.{Whole, Top, Bottom}
use Rattle.m2v_plane.specs.Sizes.{columns_of, frame_line}

-- three planes of a size, each line by line from the top
pub record Samples : Type 0 where
  pub dims : Dims
  pub luma : List ℕ
  pub cb : List ℕ
  pub cr : List ℕ

abbrev pub plane_of : Samples → Plane → List ℕ
plane_of s Y = s.luma
plane_of s Cb = s.cb
plane_of s Cr = s.cr

-- planes of so many macroblock rows
pub record HasRows (s : Samples) (rows : ℕ) : Type 0 where
  pub luma : length s.luma ≡ 16 * rows * (16 * s.dims.mb_width)
  pub cb : length s.cb ≡ 8 * rows * (8 * s.dims.mb_width)
  pub cr : length s.cr ≡ 8 * rows * (8 * s.dims.mb_width)

-- one macroblock row, whose planes stand one after another
abbrev pub row_of : Dims → List ℕ → Samples
row_of d samples = record {
  dims = d;
  luma = take (256 * d.mb_width) samples;
  cb = take (64 * d.mb_width) (drop (256 * d.mb_width) samples);
  cr = drop (320 * d.mb_width) samples;
}

-- a sample by plane, line and column
abbrev pub sample_of : Samples → Plane → ℕ → ℕ → ℕ
sample_of s plane line column = slice_index (plane_of s plane) (line * columns_of s.dims plane + column)

-- a sample of the whole frame, or of one field
abbrev pub sample_in : Samples → Plane → Lines → ℕ → ℕ → ℕ
sample_in s plane lines line column = sample_of s plane (frame_line lines line) column

-- n samples of a line, from a column on
abbrev pub line_part : (ℕ → ℕ) → ℕ → ℕ → List ℕ
line_part at column n = map (λ k. at (column + k)) (range_with_len 0 n)

-- so many lines of so many columns, by what stands at line and column
unfoldable pub plane_by : ℕ → ℕ → (ℕ → ℕ → ℕ) → List ℕ
plane_by lines columns at = map (λ k. at (k / columns) (k % columns)) (range_with_len 0 (lines * columns))

-- all samples 0
abbrev pub blank : Dims → ℕ → Samples
blank d rows = record {
  dims = d;
  luma = replicate (16 * rows * (16 * d.mb_width)) 0;
  cb = replicate (8 * rows * (8 * d.mb_width)) 0;
  cr = replicate (8 * rows * (8 * d.mb_width)) 0;
}

-- one sample replaced
abbrev pub with_sample : Samples → Plane → ℕ → ℕ → ℕ → Samples
with_sample s Y line column value = record s { luma = slice_set s.luma (line * columns_of s.dims Y + column) value }
with_sample s Cb line column value = record s { cb = slice_set s.cb (line * columns_of s.dims Cb + column) value }
with_sample s Cr line column value = record s { cr = slice_set s.cr (line * columns_of s.dims Cr + column) value }

-- new samples in the place of as many, from one on
unfoldable pub put : List ℕ → ℕ → List ℕ → List ℕ
put old from new = take from old ++ (new ++ drop (from + length new) old)

-- a part of a line replaced, from a column on
abbrev pub with_part : Samples → Plane → ℕ → ℕ → List ℕ → Samples
with_part s Y line column new = record s { luma = put s.luma (line * columns_of s.dims Y + column) new }
with_part s Cb line column new = record s { cb = put s.cb (line * columns_of s.dims Cb + column) new }
with_part s Cr line column new = record s { cr = put s.cr (line * columns_of s.dims Cr + column) new }

-- whether a line of the frame is one of these lines
abbrev pub is_among : Lines → ℕ → Bool
is_among Whole line = true
is_among Top line = nat_eq (line % 2) 0
is_among Bottom line = nat_eq (line % 2) 1

-- which of these lines it is
abbrev pub number_among : Lines → ℕ → ℕ
number_among Whole line = line
number_among Top line = line / 2
number_among Bottom line = line / 2

-- a plane of so many lines, with one macroblock row of these lines replaced
unfoldable pub plane_with_row : ℕ → ℕ → ℕ → Lines → ℕ → List ℕ → List ℕ → List ℕ
plane_with_row lines columns height which row old new =
    plane_by lines columns
    (λ line column.
    if is_among which line && nat_eq (number_among which line / height) row
    then slice_index new (number_among which line % height * columns + column)
    else slice_index old (line * columns + column))

-- one macroblock row of these lines replaced
abbrev pub with_row : Samples → Lines → ℕ → Samples → Samples
with_row s which row new = record {
  dims = s.dims;
  luma = plane_with_row (16 * s.dims.mb_rows) (16 * s.dims.mb_width) 16 which row s.luma new.luma;
  cb = plane_with_row (8 * s.dims.mb_rows) (8 * s.dims.mb_width) 8 which row s.cb new.cb;
  cr = plane_with_row (8 * s.dims.mb_rows) (8 * s.dims.mb_width) 8 which row s.cr new.cr;
}

-- the samples of a macroblock's square of so many lines of as many columns, by line and column
abbrev pub square_of : ℕ → List ℕ → ℕ → ℕ → ℕ
square_of side samples line column = slice_index samples (side * line + column)

-- a plane of so many lines, with one macroblock's square of these lines replaced
unfoldable pub plane_with_square : ℕ → ℕ → ℕ → Lines → ℕ → ℕ → (ℕ → ℕ → ℕ) → List ℕ → List ℕ
plane_with_square lines columns side which row column new old =
    plane_by lines columns
    (λ line c.
    if is_among which line && (nat_eq (number_among which line / side) row && nat_eq (c / side) column)
    then new (number_among which line % side) (c % side)
    else slice_index old (line * columns + c))

-- planes of so many macroblock rows, with the square of one macroblock of these lines replaced in one plane
abbrev pub with_square : ℕ → Samples → Plane → Lines → ℕ → ℕ → (ℕ → ℕ → ℕ) → Samples
with_square rows s Y which row column new =
    record s { luma = plane_with_square (16 * rows) (columns_of s.dims Y) 16 which row column new s.luma }
with_square rows s Cb which row column new =
    record s { cb = plane_with_square (8 * rows) (columns_of s.dims Cb) 8 which row column new s.cb }
with_square rows s Cr which row column new =
    record s { cr = plane_with_square (8 * rows) (columns_of s.dims Cr) 8 which row column new s.cr }

-- a plane of so many lines, with these lines as they are in another one
unfoldable pub plane_with_lines : ℕ → ℕ → Lines → List ℕ → List ℕ → List ℕ
plane_with_lines lines columns which old new =
    plane_by lines columns
    (λ line c.
    if is_among which line then slice_index new (line * columns + c)
    else slice_index old (line * columns + c))

-- a frame with these lines of another one
abbrev pub with_field : Samples → Lines → Samples → Samples
with_field s which other = record {
  dims = s.dims;
  luma = plane_with_lines (16 * s.dims.mb_rows) (16 * s.dims.mb_width) which s.luma other.luma;
  cb = plane_with_lines (8 * s.dims.mb_rows) (8 * s.dims.mb_width) which s.cb other.cb;
  cr = plane_with_lines (8 * s.dims.mb_rows) (8 * s.dims.mb_width) which s.cr other.cr;
}
