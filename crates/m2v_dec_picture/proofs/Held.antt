-- What a view holds of the fields that were decoded is what predictions read.
use Rattle.std.proofs.Common.{◌≡◌, ℕ, zero, suc, ◌<◌, Bool, true, false, ◌&&◌, ◌||◌, not, nat_eq, cond, refl, sym, subst, arith}
use Rattle.std.specs.Prelude.{IsTrue}
use Rattle.m2v_plane.specs.declared.dims.Dims.{Dims}
use Rattle.m2v_plane.specs.declared.planes.Plane.{Plane}
use Rattle.m2v_plane.specs.declared.planes.Lines.{Lines}
use Rattle.m2v_plane.specs.Sizes.{side}
use Rattle.m2v_plane.specs.Fields.{lines_there}
use Rattle.m2v_pred.specs.declared.mode.Mode.{Mode}
use Rattle.m2v_pred.specs.declared.mode.MbPlace.{MbPlace}
use Rattle.m2v_pred.specs.declared.source.Parts.{Parts}
use Rattle.m2v_pred.specs.declared.source.Parts.TheVariants.{One, Fields, Halves}
use Rattle.m2v_pred.specs.Motion.{parts_of, part_of_line, is_dual, own_source, opposite_source, source_of}
use Rattle.m2v_pred.specs.Vectors.{reading, source_at, HoldsRead, DirectionInside, size_read}
use Rattle.m2v_pred.specs.Patches.{part_count}
use Rattle.m2v_pred.proofs.Parts.{part_known}
use Rattle.m2v_pred.proofs.WholeFrames.{frame_holds}
use Rattle.m2v_model.specs.declared.setup.SliceSetup.{SliceSetup}
use Rattle.m2v_model.specs.Modes.{part_decoded, direction_decoded}
use Rattle.m2v_dec_picture.specs.Conditions.{HoldsDecoded}

both_hold : (a b : Bool) → (a && b) ≡ true → (a ≡ true) × (b ≡ true)
both_hold true b h = (refl, h)
both_hold false b h = absurd cc

-- a test that holds of each part
each_part : (q : Parts) (p : ℕ → Bool) (part : ℕ) → part < part_count q → (p 0 && (nat_eq (part_count q) 1 || p 1)) ≡ true → p part ≡ true
each_part One p part lt h = let e : part ≡ 0 = omega (arith, lt) in subst (λ (n : ℕ). p n ≡ true) (sym e) (both_hold _ _ h).0
each_part Fields p zero lt h = (both_hold _ _ h).0
each_part Fields p (suc zero) lt h = (both_hold _ _ h).1
each_part Fields p (suc (suc n)) lt h = absurd (omega (arith, lt))
each_part Halves p zero lt h = (both_hold _ _ h).0
each_part Halves p (suc zero) lt h = (both_hold _ _ h).1
each_part Halves p (suc (suc n)) lt h = absurd (omega (arith, lt))

part_held : (top bottom : Bool) (mode : Mode) (direction structure : ℕ) (plane : Plane) (line : ℕ) → line < side plane → direction_decoded top bottom mode direction structure ≡ true
    → part_decoded top bottom mode direction structure (part_of_line (parts_of mode.form structure) plane line) ≡ true
unfolding direction_decoded
part_held top bottom mode direction structure plane line lt h =
    let q = parts_of mode.form structure in
    each_part q (part_decoded top bottom mode direction structure) (part_of_line q plane line) (part_known q plane line lt) h

own_held : (top bottom : Bool) (mode : Mode) (direction : ℕ) (place : MbPlace) (plane : Plane) (line : ℕ) → line < side plane → direction_decoded top bottom mode direction place.structure ≡ true
    → lines_there top bottom (source_at (reading mode direction false place) plane line).lines ≡ true
unfolding part_decoded source_of own_source
own_held top bottom mode direction place plane line lt h = (both_hold _ _ (part_held top bottom mode direction place.structure plane line lt h)).0

dual_held : (dual there : Bool) → dual ≡ true → (not dual || there) ≡ true → there ≡ true
dual_held true there e h = h
dual_held false there e h = absurd cc

opposite_held : (top bottom : Bool) (mode : Mode) (direction : ℕ) (place : MbPlace) (plane : Plane) (line : ℕ) → line < side plane → IsTrue (is_dual mode.form)
    → direction_decoded top bottom mode direction place.structure ≡ true → lines_there top bottom (source_at (reading mode direction true place) plane line).lines ≡ true
unfolding part_decoded source_of opposite_source
opposite_held top bottom mode direction place plane line lt dual h =
    dual_held (is_dual mode.form) _ dual (both_hold _ _ (part_held top bottom mode direction place.structure plane line lt h)).1

-- a view that holds the lines of decoded fields holds those that a macroblock reads
pub held_read : (s : SliceSetup) (size : Dims) (holds : Plane → Lines → ℕ → Type 0) (top bottom : Bool) (mode : Mode) (direction : ℕ) (place : MbPlace)
    → HoldsDecoded s size holds top bottom → DirectionInside mode direction place s.dims → direction_decoded top bottom mode direction place.structure ≡ true
    → HoldsRead holds mode direction place
held_read s size holds top bottom mode direction place view inside there =
    let f = frame_holds mode direction place s.dims inside in
    record {
      own = λ plane. record {
        upper = λ line lt. view.lines plane _ _ (own_held top bottom mode direction place plane line lt there) ((f.own plane).upper line lt);
        lower = λ line lt. view.lines plane _ _ (own_held top bottom mode direction place plane line lt there) ((f.own plane).lower line lt);
      };
      opposite = λ dual plane. record {
        upper = λ line lt. view.lines plane _ _ (opposite_held top bottom mode direction place plane line lt dual there) ((f.opposite dual plane).upper line lt);
        lower = λ line lt. view.lines plane _ _ (opposite_held top bottom mode direction place plane line lt dual there) ((f.opposite dual plane).lower line lt);
      };
    }

-- a direction that the mode has
pub has_direction : (has test : Bool) → IsTrue has → (not has || test) ≡ true → test ≡ true
has_direction true test e h = h
has_direction false test e h = absurd cc

-- the view that is read has the size of both
pub read_size : (mode : Mode) (d forward backward : Dims) → forward ≡ d → backward ≡ d → size_read mode forward backward ≡ d
read_size mode d forward backward f b = by_case mode.forward
  where
    by_case : (has : Bool) → cond has forward backward ≡ d
    by_case true = f
    by_case false = b
