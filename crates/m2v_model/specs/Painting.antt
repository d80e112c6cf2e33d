-- Frames that are painted macroblock by macroblock: all their lines, or those of one field.
use Rattle.std.specs.Prelude.{◌≡◌, ℕ, ◌+◌, ◌*◌, ◌/◌, ◌%◌, ◌<◌, true, List, [], ◌∷◌, length, get_or, pos}
use Rattle.m2v_plane.specs.declared.dims.Dims.{Dims}
use Rattle.m2v_plane.specs.declared.planes.Plane.{Plane}
use Rattle.m2v_plane.specs.declared.planes.Plane.TheVariants.{Y, Cb, Cr}
use Rattle.m2v_plane.specs.declared.planes.Lines.{Lines}
use Rattle.m2v_plane.specs.Sizes.{side}
use Rattle.m2v_plane.specs.Samples.{Samples, plane_by, is_among, number_among}
use Rattle.m2v_macroblock.specs.m2v_pred.Motion.{own_lines}
use Rattle.m2v_macroblock.specs.m2v_pred.Predicted.{predicted}
use Rattle.m2v_macroblock.specs.m2v_macro.declared.values.SliceState.{SliceState}
use Rattle.m2v_macroblock.specs.m2v_macro.declared.values.PictureContext.{PictureContext}
use Rattle.m2v_macroblock.specs.m2v_macro.States.{address}
use Rattle.m2v_macroblock.specs.Macroblocks.{Macroblock, after_macroblock}
use Rattle.m2v_macroblock.specs.Modes.{place_of, address_of, skipped_before, first_skipped, skipped_mode}
use Rattle.m2v_macroblock.specs.Predictions.{prediction_of, sample_at}
use Rattle.m2v_model.specs.declared.setup.SliceSetup.{SliceSetup}
use Rattle.m2v_model.specs.Samples.{References}

-- a plane of so many macroblock rows, of these lines of which the first macroblocks, in raster order, have their samples:
-- those that stand at line and column of the plane
pub record HasPart (which : Lines) (side rows columns count : ℕ) (f : ℕ → ℕ → ℕ) (xs : List ℕ) : Type 0 where
  pub len : length xs ≡ (side * rows) * (side * columns)
  pub part : (r c : ℕ) → r < side * rows → c < side * columns → is_among which r ≡ true → number_among which r / side * columns + c / side < count
      → get_or xs (r * (side * columns) + c) 0 ≡ f r c

-- a frame, of these lines of which the first macroblocks have their samples
pub record IsPainted (which : Lines) (d : Dims) (count : ℕ) (at : Plane → ℕ → ℕ → ℕ) (now : Samples) : Type 0 where
  pub dims : now.dims ≡ d
  pub luma : HasPart which 16 d.mb_rows d.mb_width count (at Y) now.luma
  pub cb : HasPart which 8 d.mb_rows d.mb_width count (at Cb) now.cb
  pub cr : HasPart which 8 d.mb_rows d.mb_width count (at Cr) now.cr

-- the frame of these samples
abbrev pub frame_by : Dims → (Plane → ℕ → ℕ → ℕ) → Samples
frame_by d at = record {
  dims = d;
  luma = plane_by (16 * d.mb_rows) (16 * d.mb_width) (at Y);
  cb = plane_by (8 * d.mb_rows) (8 * d.mb_width) (at Cb);
  cr = plane_by (8 * d.mb_rows) (8 * d.mb_width) (at Cr);
}

-- ---- macroblocks

-- the lines of the frame that a picture has
abbrev pub lines_in : PictureContext → Lines
lines_in c = own_lines c.extension.structure

-- the samples of the macroblock at an address are those of a frame, where it lies
abbrev pub LiesIn : PictureContext → ℕ → (Plane → ℕ → ℕ → ℕ) → (Plane → ℕ → ℕ → ℕ) → Type 0
LiesIn c address new at =
    (plane : Plane) (line column : ℕ) → is_among (lines_in c) line ≡ true
    → number_among (lines_in c) line / side plane ≡ (place_of c address).row → column / side plane ≡ (place_of c address).column
    → new plane (number_among (lines_in c) line % side plane) (column % side plane) ≡ at plane line column

-- the samples of a skipped macroblock at an address are its prediction
abbrev pub skipped_sample : SliceSetup → References → SliceState → ℕ → Plane → ℕ → ℕ → ℕ
skipped_sample s refs st address = predicted refs.forward refs.backward (skipped_mode s.context st) (place_of s.context address)

-- and those of a macroblock that isn't skipped
abbrev pub own_sample : SliceSetup → References → SliceState → Macroblock → Plane → ℕ → ℕ → ℕ
own_sample s refs st x = sample_at s.context st (prediction_of refs.forward refs.backward s.context (place_of s.context (address_of st x.syntax)) x.syntax) x

-- a macroblock is part of a frame: with those skipped before it, it follows the one before, and their samples are the frame's
pub record IsPartOf (s : SliceSetup) (refs : References) (st : SliceState) (x : Macroblock) (at : Plane → ℕ → ℕ → ℕ) : Type 0 where
  pub follows : address st x.syntax.increment ≡ pos (first_skipped st + skipped_before st x.syntax)
  pub skipped : (k : ℕ) → k < skipped_before st x.syntax → LiesIn s.context (first_skipped st + k) (skipped_sample s refs st (first_skipped st + k)) at
  pub own : LiesIn s.context (address_of st x.syntax) (own_sample s refs st x) at

-- macroblocks, one behind another
unfoldable pub ArePartsOf : SliceSetup → References → SliceState → List Macroblock → (Plane → ℕ → ℕ → ℕ) → Type 0
ArePartsOf s refs st [] at = Unit {0}
ArePartsOf s refs st (x ∷ xs) at = IsPartOf s refs st x at × ArePartsOf s refs (after_macroblock s.context st x) xs at

-- the state behind macroblocks
unfoldable pub after_macroblocks : PictureContext → SliceState → List Macroblock → SliceState
after_macroblocks c st [] = st
after_macroblocks c st (x ∷ xs) = after_macroblocks c (after_macroblock c st x) xs
