-- Views that show the same inside a frame predict the same, where predictions stay inside.
use Rattle.std.proofs.Common.{◌≡◌, ℕ, ◌+◌, ◌/◌, ◌%◌, ◌<◌, Bool, true, false, inl, inr, ◌⊎◌, ◌++◌, refl, ◌∙◌, arith}
use Rattle.std.specs.Prelude.{unsigned_abs, nat_eq, cond, ◌&&◌, if◌then◌else◌}
use Rattle.std.proofs.lemmas.Bool.{eqb-true}
use Rattle.m2v_plane.specs.declared.dims.Dims.{Dims}
use Rattle.m2v_plane.specs.declared.planes.Plane.{Plane}
use Rattle.m2v_plane.specs.declared.planes.Plane.TheVariants.{Y, Cb, Cr}
use Rattle.m2v_plane.specs.Sizes.{side, lines_of, columns_of}
use Rattle.m2v_plane.specs.Samples.{plane_by}
use Rattle.m2v_plane.proofs.Places.{plane_is}
use Rattle.m2v_plane.proofs.RawVideo.{plane_at, length-plane_by}
use Rattle.m2v_pred.specs.declared.mode.Form.{Form}
use Rattle.m2v_pred.specs.declared.mode.Form.TheVariants.{Frame, Field, Half, Dual}
use Rattle.m2v_pred.specs.declared.mode.Mode.{Mode}
use Rattle.m2v_pred.specs.declared.mode.MbPlace.{MbPlace}
use Rattle.m2v_pred.specs.Motion.{lines_read, field_lines, own_lines, own_field, other_field, is_bottom, is_dual, source_of, own_source, opposite_source, part_of_line}
use Rattle.m2v_pred.specs.Vectors.{Reading, reading, parts, source_at, down_at, across_at, ReadsInside, DirectionInside, IsInside}
use Rattle.m2v_pred.specs.Predicted.{interpolated, is_half, sample_read, from_direction, predicted, block_by}
use Rattle.m2v_pred.proofs.Planes.{plane_inside}
use Rattle.m2v_model.specs.m2v_macroblock.Predictions.{View}
use Rattle.m2v_slice.specs.m2v_choose.Trials.{IsReference}
use Rattle.m2v_law_shown.specs.Views.{AgreeInside}

-- ---- samples between samples

-- two planes that are the same where a place needs them show the same there
between_same : (f g : ℕ → ℕ → ℕ) (y x lines columns : ℕ) → ((r c : ℕ) → r < lines → c < columns → f r c ≡ g r c)
    → (y + 1) / 2 < lines → (x + 1) / 2 < columns → interpolated f y x ≡ interpolated g y x
unfolding interpolated
between_same f g y x lines columns same low small =
    by_half (is_half y) (is_half x) (λ e. eqb-true (y % 2) 1 e) (λ e. eqb-true (x % 2) 1 e)
  where
    here : f (y / 2) (x / 2) ≡ g (y / 2) (x / 2)
    here = same (y / 2) (x / 2) (omega (arith, low)) (omega (arith, small))

    right : x % 2 ≡ 1 → f (y / 2) (x / 2 + 1) ≡ g (y / 2) (x / 2 + 1)
    right e = same (y / 2) (x / 2 + 1) (omega (arith, low)) (omega (arith, small, e))

    below : y % 2 ≡ 1 → f (y / 2 + 1) (x / 2) ≡ g (y / 2 + 1) (x / 2)
    below e = same (y / 2 + 1) (x / 2) (omega (arith, low, e)) (omega (arith, small))

    across : y % 2 ≡ 1 → x % 2 ≡ 1 → f (y / 2 + 1) (x / 2 + 1) ≡ g (y / 2 + 1) (x / 2 + 1)
    across e h = same (y / 2 + 1) (x / 2 + 1) (omega (arith, low, e)) (omega (arith, small, h))

    by_half : (a b : Bool) → (a ≡ true → y % 2 ≡ 1) → (b ≡ true → x % 2 ≡ 1)
        → (if a then (if b then (f (y / 2) (x / 2) + f (y / 2) (x / 2 + 1) + f (y / 2 + 1) (x / 2) + f (y / 2 + 1) (x / 2 + 1) + 2) / 4 else (f (y / 2) (x / 2) + f (y / 2 + 1) (x / 2) + 1) / 2)
        else (if b then (f (y / 2) (x / 2) + f (y / 2) (x / 2 + 1) + 1) / 2 else f (y / 2) (x / 2)))
        ≡ (if a then (if b then (g (y / 2) (x / 2) + g (y / 2) (x / 2 + 1) + g (y / 2 + 1) (x / 2) + g (y / 2 + 1) (x / 2 + 1) + 2) / 4 else (g (y / 2) (x / 2) + g (y / 2 + 1) (x / 2) + 1) / 2)
        else (if b then (g (y / 2) (x / 2) + g (y / 2) (x / 2 + 1) + 1) / 2 else g (y / 2) (x / 2)))
    by_half true true hy hx = λ i. (here i + right (hx refl) i + below (hy refl) i + across (hy refl) (hx refl) i + 2) / 4
    by_half true false hy hx = λ i. (here i + below (hy refl) i + 1) / 2
    by_half false true hy hx = λ i. (here i + right (hx refl) i + 1) / 2
    by_half false false hy hx = here

-- ---- lines that pictures read

-- a field picture reads fields
field_read : (structure : ℕ) (b : Bool) → IsReference structure (field_lines b)
field_read structure true = inr refl
field_read structure false = inr refl

own_read : (structure : ℕ) → IsReference structure (own_lines structure)
own_read structure = by_frame (nat_eq structure 3) (λ e. eqb-true structure 3 e)
  where
    by_frame : (b : Bool) → (b ≡ true → structure ≡ 3) → IsReference structure (if b then own_lines 3 else field_lines (nat_eq structure 2))
    by_frame true h = inl (h refl)
    by_frame false h = field_read structure (nat_eq structure 2)

own_field_read : (structure part : ℕ) → IsReference structure (own_field structure part)
own_field_read structure part = by_frame (nat_eq structure 3)
  where
    by_frame : (b : Bool) → IsReference structure (if b then field_lines (nat_eq part 1) else field_lines (nat_eq structure 2))
    by_frame true = field_read structure (nat_eq part 1)
    by_frame false = field_read structure (nat_eq structure 2)

other_read : (structure part : ℕ) → IsReference structure (other_field (own_field structure part))
other_read structure part = by_frame (nat_eq structure 3)
  where
    other_of : (b : Bool) → IsReference structure (other_field (field_lines b))
    other_of true = inr refl
    other_of false = inr refl

    by_frame : (b : Bool) → IsReference structure (other_field (if b then field_lines (nat_eq part 1) else field_lines (nat_eq structure 2)))
    by_frame true = other_of (nat_eq part 1)
    by_frame false = other_of (nat_eq structure 2)

form_read : (form : Form) (mode : Mode) (direction structure part : ℕ) → IsReference structure (lines_read form mode direction structure part)
form_read Frame mode direction structure part = own_read structure
form_read Field mode direction structure part = field_read structure (is_bottom mode part direction)
form_read Half mode direction structure part = field_read structure (is_bottom mode part direction)
form_read Dual mode direction structure part = own_field_read structure part

source_read : (mode : Mode) (direction : ℕ) (opposite : Bool) (structure part : ℕ) → IsReference structure (source_of mode direction opposite structure part).lines
unfolding source_of own_source opposite_source
source_read mode direction true structure part = other_read structure part
source_read mode direction false structure part = form_read mode.form mode direction structure part

-- ---- predictions

abbrev mean : ℕ → ℕ → ℕ
mean a b = (a + b + 1) / 2

-- one value, or what it makes with another
with_other : (m : ℕ → ℕ → ℕ) (b : Bool) (x y p q : ℕ) → x ≡ p → (b ≡ true → y ≡ q) → cond b (m x y) x ≡ cond b (m p q) p
with_other m true x y p q e f = λ i. m (e i) (f refl i)
with_other m false x y p q e f = e

-- two values, or one of them
of_two : (m : ℕ → ℕ → ℕ) (a b : Bool) (x y p q : ℕ) → (a ≡ true → x ≡ p) → (b ≡ true → y ≡ q) → (a ≡ true) ⊎ (b ≡ true)
    → cond (a && b) (m x y) (cond a x y) ≡ cond (a && b) (m p q) (cond a p q)
of_two m true true x y p q e f some = λ i. m (e refl i) (f refl i)
of_two m true false x y p q e f some = e refl
of_two m false true x y p q e f some = f refl
of_two m false false x y p q e f (inl h) = absurd cc
of_two m false false x y p q e f (inr h) = absurd cc

module _ (d : Dims) (v w : View) where
  read_same : (r : Reading) (plane : Plane) (line column : ℕ) → AgreeInside r.place.structure d v w → ReadsInside d r plane → line < side plane → column < side plane
      → sample_read v r plane line column ≡ sample_read w r plane line column
  unfolding sample_read
  read_same r plane line column agree inside low small =
      let s = source_at r plane line in
      let reference = source_read r.mode r.direction r.opposite r.place.structure (part_of_line (parts r) plane line) in
      between_same (v plane s.lines) (w plane s.lines) (unsigned_abs (down_at r plane line)) (unsigned_abs (across_at r plane line column)) (lines_of d plane s.lines) (columns_of d plane)
      (λ a b la lb. agree.same plane s.lines a b reference la lb) (inside.lines line low).last (inside.columns line column low small).last

  direction_same : (mode : Mode) (direction : ℕ) (place : MbPlace) (plane : Plane) (line column : ℕ) → AgreeInside place.structure d v w → DirectionInside mode direction place d
      → line < side plane → column < side plane
      → from_direction v mode direction place plane line column ≡ from_direction w mode direction place plane line column
  unfolding from_direction
  direction_same mode direction place plane line column agree inside low small =
      let own = reading mode direction false place in
      let other = reading mode direction true place in
      with_other mean (is_dual mode.form) (sample_read v own plane line column) (sample_read v other plane line column) (sample_read w own plane line column) (sample_read w other plane line column)
      (read_same own plane line column agree (plane_inside d own plane inside.own) low small)
      (λ dual. read_same other plane line column agree (plane_inside d other plane (inside.opposite dual)) low small)

-- a macroblock is predicted alike from views that show the same
pub predicted_same : (d : Dims) (f g b k : View) (mode : Mode) (place : MbPlace) → (mode.forward ≡ true) ⊎ (mode.backward ≡ true) → IsInside mode place d
    → (mode.forward ≡ true → AgreeInside place.structure d f g) → (mode.backward ≡ true → AgreeInside place.structure d b k)
    → (plane : Plane) (line column : ℕ) → line < side plane → column < side plane
    → predicted f b mode place plane line column ≡ predicted g k mode place plane line column
unfolding predicted
predicted_same d f g b k mode place some inside ahead behind plane line column low small =
    of_two mean mode.forward mode.backward _ _ _ _
    (λ e. direction_same d f g mode 0 place plane line column (ahead e) (inside.forward e) low small)
    (λ e. direction_same d b k mode 1 place plane line column (behind e) (inside.backward e) low small)
    some

-- ---- the samples of a macroblock

pub plane_same : (lines columns : ℕ) (f g : ℕ → ℕ → ℕ) → ((r c : ℕ) → r < lines → c < columns → f r c ≡ g r c) → plane_by lines columns f ≡ plane_by lines columns g
plane_same lines columns f g same =
    plane_is (plane_by lines columns f) lines columns g (length-plane_by lines columns f)
    (λ r c lt small. plane_at lines columns f r c lt small ∙ same r c lt small)

pub block_same : (f g : Plane → ℕ → ℕ → ℕ) → ((plane : Plane) (line column : ℕ) → line < side plane → column < side plane → f plane line column ≡ g plane line column) → block_by f ≡ block_by g
unfolding block_by
block_same f g same =
    let luma = plane_same 16 16 (f Y) (g Y) (same Y) in
    let cb = plane_same 8 8 (f Cb) (g Cb) (same Cb) in
    let cr = plane_same 8 8 (f Cr) (g Cr) (same Cr) in
    λ i. luma i ++ (cb i ++ cr i)
