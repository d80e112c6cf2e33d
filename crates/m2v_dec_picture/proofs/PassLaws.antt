-- Slices that are read and not painted.
use Rattle.std.proofs.Common.{◌≡◌, ℕ, zero, suc, ◌+◌, ◌<◌, List, Bool, refl, sym, subst, Result, Ok, Err}
use Rattle.m2v_plane.specs.declared.dims.Dims.{Dims}
use Rattle.m2v_plane.specs.Sizes.{lines_of}
use Rattle.m2v_plane.specs.Samples.{Samples}
use Rattle.m2v_pred.specs.Predicted.{predicted}
use Rattle.m2v_macro.specs.declared.values.SliceState.{SliceState}
use Rattle.m2v_macroblock.specs.Macroblocks.{Macroblock}
use Rattle.m2v_macroblock.specs.Modes.{place_of, skipped_mode}
use Rattle.m2v_model.specs.declared.setup.SliceSetup.{SliceSetup}
use Rattle.m2v_model.specs.declared.stop.Stop.{Stop}
use Rattle.m2v_model.specs.Samples.{References, Put, skipped_painted, own_painted}
use Rattle.m2v_dec_picture.specs.declared.slices.SliceEnd.{SliceEnd}
use Rattle.m2v_dec_picture.specs.Conditions.{HoldsDecoded}
use Rattle.m2v_dec_picture.specs.Reads.{PutsNothing, TellsSlice, PassesSlice}

-- where what is put changes nothing, painting changes nothing: macroblocks that are skipped, and one that was read
pub gap_same : (put : Put) → PutsNothing put → (s : SliceSetup) (refs : References) (st : SliceState) (at count : ℕ) (now : Samples) → now ≡ skipped_painted put s refs st at count now
unfolding skipped_painted
gap_same put same s refs st at zero now = refl
gap_same put same s refs st at (suc n) now =
    rw (same (place_of s.context at) (predicted refs.forward refs.backward (skipped_mode s.context st) (place_of s.context at)) now) (gap_same put same s refs st (at + 1) n now)

pub own_same : (put : Put) → PutsNothing put → (s : SliceSetup) (refs : References) (st : SliceState) (x : Macroblock) (now : Samples) → now ≡ own_painted put s refs st x now
unfolding own_painted
own_same put same s refs st x now = rw (same _ _ now) refl

-- a view that holds every line holds those of the fields that were decoded
pub all_held : (s : SliceSetup) (size : Dims) (top bottom : Bool) → size ≡ s.dims → HoldsDecoded s size (λ plane which line. line < lines_of size plane which) top bottom
all_held s size top bottom is = record {
  size_is = is;
  lines = λ plane which line there below. subst (λ (d : Dims). line < lines_of d plane which) (sym is) below;
}

-- what a slice tells beside its samples
pub slice_passed : (put : Put) (s : SliceSetup) (refs : References) (covered row : ℕ) (old new : List Bool) (before now : Samples) (r : Result SliceEnd Stop)
    → TellsSlice put s refs covered row old before r new now → PassesSlice s covered row old r new
slice_passed put s refs covered row old new before now (Ok end) told = (told.0, told.1, told.2, told.3)
slice_passed put s refs covered row old new before now (Err e) told = told
