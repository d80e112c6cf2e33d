-- Slices of pictures, painted into frames one after another.
use Rattle.std.specs.Prelude.{ℕ, zero, suc, ◌≡◌, ◌/◌, ◌%◌, Bool, List, length, nat_eq, if◌then◌else◌}
use Rattle.m2v_plane.specs.declared.dims.Dims.{Dims}
use Rattle.m2v_plane.specs.declared.planes.Plane.{Plane}
use Rattle.m2v_plane.specs.declared.planes.Lines.{Lines}
use Rattle.m2v_plane.specs.declared.planes.Lines.TheVariants.{Top, Bottom}
use Rattle.m2v_plane.specs.Samples.{Samples, blank}
use Rattle.m2v_set.specs.Numbers.{dims_of}
use Rattle.m2v_slice.specs.Slices.{SliceTask}
use Rattle.m2v_slice.specs.Laws.{IsSlice}
use Rattle.m2v_slice.specs.Books.{Book, CodedPicture, picture_sample}
use Rattle.m2v_enc_stream.specs.Streams.{picture_with}
use Rattle.m2v_model.specs.Samples.{References}
use Rattle.m2v_model.specs.Painting.{lines_in}
use Rattle.m2v_law_shown.specs.Views.{AreReferencesOf, HasRowOf, slice_in}

-- a frame with the first n slices of a picture
unfoldable pub rows_in : (ℕ → SliceTask) → List Bool → References → ℕ → Samples → Samples
rows_in tasks references refs zero now = now
rows_in tasks references refs (suc n) now = slice_in (tasks n) references refs (rows_in tasks references refs n now)

-- a slice of a row of these lines of a frame with these samples
pub record IsRowOf (t : SliceTask) (row : ℕ) (which : Lines) (d : Dims) (refs : References) (at : Plane → ℕ → ℕ → ℕ) : Type 0 where
  pub slice : IsSlice t
  pub place : t.row ≡ row
  pub lines : lines_in t.context ≡ which
  pub dims : t.source.dims ≡ d
  pub references : AreReferencesOf t refs
  pub has : HasRowOf t at

-- a frame before its first slice
abbrev pub fresh_of : Book → Samples
fresh_of b = blank (dims_of b.settings) (dims_of b.settings).mb_rows

-- the samples of a frame of a group
abbrev pub samples_of : Book → List CodedPicture → ℕ → Plane → ℕ → ℕ → ℕ
samples_of b done frame = λ plane line column.
    if nat_eq (line % 2) 0
    then picture_sample b done (picture_with b frame Top (length done)) plane Top (line / 2) column
    else picture_sample b done (picture_with b frame Bottom (length done)) plane Bottom (line / 2) column
