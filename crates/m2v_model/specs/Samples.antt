-- The samples of pictures (clause 7.6): macroblock by macroblock in reading order.
use Rattle.std.specs.Prelude.{ℕ, zero, suc, ◌+◌, List, [], ◌∷◌}
use Rattle.m2v_order.specs.m2v_plane.declared.planes.Plane.{Plane}
use Rattle.m2v_order.specs.m2v_plane.declared.planes.Plane.TheVariants.{Y, Cb, Cr}
use Rattle.m2v_order.specs.m2v_plane.declared.planes.Lines.{Lines}
use Rattle.m2v_order.specs.m2v_plane.declared.planes.Lines.TheVariants.{Whole}
use Rattle.m2v_order.specs.m2v_plane.Samples.{Samples, with_square}
use Rattle.m2v_macroblock.specs.m2v_pred.declared.mode.MbPlace.{MbPlace}
use Rattle.m2v_macroblock.specs.m2v_pred.Motion.{own_lines}
use Rattle.m2v_macroblock.specs.m2v_pred.Predicted.{predicted}
use Rattle.m2v_macroblock.specs.m2v_macro.declared.values.SliceState.{SliceState}
use Rattle.m2v_macroblock.specs.Macroblocks.{Macroblock, after_macroblock}
use Rattle.m2v_macroblock.specs.Modes.{place_of, address_of, skipped_before, first_skipped, skipped_mode}
use Rattle.m2v_macroblock.specs.Predictions.{View, prediction_of, sample_at}
use Rattle.m2v_model.specs.declared.setup.SliceSetup.{SliceSetup}

-- what a picture is predicted from
pub record References : Type 0 where
  pub forward : View
  pub backward : View

-- ---- where macroblocks are put

-- how the samples of a macroblock are put among others: into a frame, or into one macroblock row
abbrev pub Put : Type 0
Put = MbPlace → (Plane → ℕ → ℕ → ℕ) → Samples → Samples

-- planes of so many macroblock rows, with one macroblock of these lines replaced
abbrev pub with_squares : ℕ → Lines → ℕ → ℕ → (Plane → ℕ → ℕ → ℕ) → Samples → Samples
with_squares rows which row column new s =
    let luma = with_square rows s Y which row column (new Y) in
    let cb = with_square rows luma Cb which row column (new Cb) in
    with_square rows cb Cr which row column (new Cr)

-- a frame with the macroblock at a place replaced: of a field picture it has lines of that field alone
abbrev pub put_in_frame : Put
put_in_frame at new s = with_squares s.dims.mb_rows (own_lines at.structure) at.row at.column new s

-- a macroblock row with the macroblock in its column replaced
abbrev pub put_in_row : Put
put_in_row at new s = with_squares 1 Whole 0 at.column new s

-- ---- macroblocks

-- macroblocks that are skipped, from an address on: their samples are those of their prediction (clause 7.6.6)
unfoldable pub skipped_painted : Put → SliceSetup → References → SliceState → ℕ → ℕ → Samples → Samples
skipped_painted put s refs st at zero now = now
skipped_painted put s refs st at (suc n) now =
    skipped_painted put s refs st (at + 1) n
    (put (place_of s.context at) (predicted refs.forward refs.backward (skipped_mode s.context st) (place_of s.context at)) now)

-- a macroblock
unfoldable pub own_painted : Put → SliceSetup → References → SliceState → Macroblock → Samples → Samples
own_painted put s refs st x now =
    let at = place_of s.context (address_of st x.syntax) in
    put at (sample_at s.context st (prediction_of refs.forward refs.backward s.context at x.syntax) x) now

-- a macroblock, and those skipped before it
unfoldable pub painted : Put → SliceSetup → References → SliceState → Macroblock → Samples → Samples
painted put s refs st x now =
    own_painted put s refs st x (skipped_painted put s refs st (first_skipped st) (skipped_before st x.syntax) now)

-- macroblocks, one behind another
unfoldable pub all_painted : Put → SliceSetup → References → SliceState → List Macroblock → Samples → Samples
all_painted put s refs st [] now = now
all_painted put s refs st (x ∷ xs) now = all_painted put s refs (after_macroblock s.context st x) xs (painted put s refs st x now)
