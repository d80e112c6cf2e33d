-- The size of a picture, in samples and in macroblocks (clause 6.3.3).
use Rattle.std.specs.Prelude.{ℕ, ◌≡◌, ◌+◌, ◌*◌, ◌/◌, ◌≤◌}
use Rattle.m2v_plane.specs.declared.dims.Dims.{Dims}
use Rattle.m2v_plane.specs.declared.planes.Plane.{Plane}
use Rattle.m2v_plane.specs.declared.planes.Plane.TheVariants.{Y, Cb, Cr}
use Rattle.m2v_plane.specs.declared.planes.Lines.{Lines}
use Rattle.m2v_plane.specs.declared.planes.Lines.TheVariants.{Whole, Top, Bottom}

-- a size that a picture can have here: rows are more than the height asks where two fields share them
pub record IsSize (d : Dims) : Type 0 where
  pub wide : 1 ≤ d.width
  pub width : d.width ≤ 1920
  pub tall : 1 ≤ d.height
  pub height : d.height ≤ 1152
  pub mb_width : d.mb_width ≡ (d.width + 15) / 16
  pub covered : (d.height + 15) / 16 ≤ d.mb_rows
  pub mb_rows : d.mb_rows ≤ 72

-- the side of a macroblock in a plane (clause 6.1.3, 4:2:0)
abbrev pub side : Plane → ℕ
side Y = 16
side Cb = 8
side Cr = 8

-- the samples in a line of whole macroblocks
abbrev pub columns_of : Dims → Plane → ℕ
columns_of d plane = side plane * d.mb_width

-- the line of the frame that a line of the whole frame, or of one field, is
abbrev pub frame_line : Lines → ℕ → ℕ
frame_line Whole line = line
frame_line Top line = 2 * line
frame_line Bottom line = 2 * line + 1

-- how far a line of the whole frame, or of one field, begins behind the one before, in a plane of so many columns
abbrev pub stride_in : Lines → ℕ → ℕ
stride_in Whole columns = columns
stride_in Top columns = 2 * columns
stride_in Bottom columns = 2 * columns

-- how many of so many lines of a frame are lines of the whole frame, or of one field
abbrev pub part_of : Lines → ℕ → ℕ
part_of Whole count = count
part_of Top count = count / 2
part_of Bottom count = count / 2

-- the lines of a plane over whole macroblocks
abbrev pub lines_of : Dims → Plane → Lines → ℕ
lines_of d plane lines = part_of lines (side plane * d.mb_rows)
