-- References whose fields stand in two frames.
use Rattle.std.specs.Prelude.{ℕ, ◌<◌, Bool, IsTrue, ◌&&◌, is_some, Option, Some, None, []}
use Rattle.m2v_plane.specs.declared.dims.Dims.{Dims}
use Rattle.m2v_plane.specs.declared.planes.Plane.{Plane}
use Rattle.m2v_plane.specs.declared.planes.Lines.{Lines}
use Rattle.m2v_plane.specs.declared.planes.Lines.TheVariants.{Whole, Top, Bottom}
use Rattle.m2v_plane.specs.Sizes.{lines_of}
use Rattle.m2v_plane.specs.Samples.{Samples, sample_in}

-- the frame that has the top field of a reference, and the one that has its bottom field
pub record Fields : Type 0 where
  pub top : Samples
  pub bottom : Samples

-- both fields of a frame
abbrev pub fields_of : Samples → Fields
fields_of frame = record { top = frame; bottom = frame }

-- a sample of a reference; as a whole it is read where both of its fields are those of one frame
unfoldable pub sample_from : Fields → Plane → Lines → ℕ → ℕ → ℕ
sample_from f plane Whole line column = sample_in f.top plane Whole line column
sample_from f plane Top line column = sample_in f.top plane Top line column
sample_from f plane Bottom line column = sample_in f.bottom plane Bottom line column

-- a frame that isn't there has no sample
abbrev pub no_samples : Samples
no_samples = record { dims = record { width = 0; height = 0; mb_width = 0; mb_rows = 0 }; luma = []; cb = []; cr = [] }

abbrev pub or_none : Option Samples → Samples
or_none (Some frame) = frame
or_none None = no_samples

-- a size, and the frames that have the top and the bottom field, where they are there
pub record FieldFrames : Type 0 where
  pub dims : Dims
  pub top : Option Samples
  pub bottom : Option Samples

-- lines are there where their field is, and those of the whole frame where both fields are
unfoldable pub lines_there : Bool → Bool → Lines → Bool
lines_there top bottom Whole = top && bottom
lines_there top bottom Top = top
lines_there top bottom Bottom = bottom

abbrev pub sample_at : FieldFrames → Plane → Lines → ℕ → ℕ → ℕ
sample_at v = sample_from (record { top = or_none v.top; bottom = or_none v.bottom })

abbrev pub HoldsLine : FieldFrames → Plane → Lines → ℕ → Type 0
HoldsLine v plane lines line =
    IsTrue (lines_there (is_some v.top) (is_some v.bottom) lines) × (line < lines_of v.dims plane lines)
