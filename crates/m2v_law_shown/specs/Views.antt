-- References that show the same, and the samples of a slice's row among those of its frame.
use Rattle.std.specs.Prelude.{ℕ, ◌≡◌, ◌≢◌, ◌*◌, ◌/◌, ◌%◌, ◌<◌, Bool, true, List}
use Rattle.m2v_plane.specs.declared.dims.Dims.{Dims}
use Rattle.m2v_plane.specs.declared.planes.Plane.{Plane}
use Rattle.m2v_plane.specs.declared.planes.Lines.{Lines}
use Rattle.m2v_plane.specs.Sizes.{side, lines_of, columns_of}
use Rattle.m2v_plane.specs.Samples.{Samples, sample_of, is_among, number_among}
use Rattle.m2v_model.specs.m2v_macroblock.Predictions.{View}
use Rattle.m2v_slice.specs.m2v_choose.Trials.{IsReference}
use Rattle.m2v_slice.specs.Slices.{SliceTask, slice_of}
use Rattle.m2v_model.specs.Slices.{slice_start}
use Rattle.m2v_model.specs.Samples.{References, put_in_frame, all_painted}
use Rattle.m2v_model.specs.Painting.{lines_in}
use Rattle.m2v_enc_stream.specs.Slices.{setup_of, slice_read}

-- two views show the same of every line of a frame that a picture of this structure reads: of frames and fields, or of
-- fields alone
pub record AgreeInside (structure : ℕ) (d : Dims) (v w : View) : Type 0 where
  pub same : (plane : Plane) (lines : Lines) (line column : ℕ) → IsReference structure lines → line < lines_of d plane lines → column < columns_of d plane
      → v plane lines line column ≡ w plane lines line column

-- references show what a slice was coded by, as far as its picture's type has them
pub record AreReferencesOf (t : SliceTask) (refs : References) : Type 0 where
  pub forward : t.context.kind ≢ 1 → AgreeInside t.context.extension.structure t.source.dims refs.forward t.forward
  pub backward : t.context.kind ≡ 3 → AgreeInside t.context.extension.structure t.source.dims refs.backward t.backward

-- samples of a frame are those of a slice, where its row lies
pub record HasRowOf (t : SliceTask) (at : Plane → ℕ → ℕ → ℕ) : Type 0 where
  pub same : (plane : Plane) (line column : ℕ) → is_among (lines_in t.context) line ≡ true → number_among (lines_in t.context) line / side plane ≡ t.row
      → column < columns_of t.source.dims plane
      → sample_of (slice_of t).row plane (number_among (lines_in t.context) line % side plane) column ≡ at plane line column

-- a frame with the macroblocks of a slice, as a decoder paints them
abbrev pub slice_in : SliceTask → List Bool → References → Samples → Samples
slice_in t references refs now =
    all_painted put_in_frame (setup_of t references) refs (slice_start t.context t.row (t.row * t.context.columns) t.q) (slice_read t).macroblocks now
