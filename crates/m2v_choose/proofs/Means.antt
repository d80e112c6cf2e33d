-- The prediction in both directions is the mean of those in each, by the same vectors.
use Rattle.std.proofs.Common.{◌≡◌, ◌≢◌, ℕ, zero, suc, ◌+◌, ◌*◌, Bool, true, false, refl, ap, ◌∙◌, arith}
use Rattle.std.specs.Prelude.{nat_eq, if◌then◌else◌, unsigned_abs}
use Rattle.std.specs.Simd.Lanes.{zip2}
use Rattle.std.proofs.lemmas.Bool.Decides.{nat_tests}
use Rattle.m2v_plane.specs.declared.planes.Plane.{Plane}
use Rattle.m2v_plane.specs.Sizes.{side}
use Rattle.m2v_kernel.specs.Sums.{mean}
use Rattle.m2v_macro.specs.declared.values.PictureContext.{PictureContext}
use Rattle.m2v_macro.specs.declared.values.Direction.{Direction}
use Rattle.m2v_macro.specs.States.{is_field}
use Rattle.m2v_pred.specs.declared.mode.Form.{Form}
use Rattle.m2v_pred.specs.declared.mode.Form.TheVariants.{Frame, Field, Half, Dual}
use Rattle.m2v_pred.specs.declared.mode.Mode.{Mode}
use Rattle.m2v_pred.specs.declared.mode.MbPlace.{MbPlace}
use Rattle.m2v_pred.specs.declared.source.Source.{Source}
use Rattle.m2v_pred.specs.Motion.{component, is_bottom, is_dual, field_lines, own_lines, parts_of, part_of_line, line_number, own_source, source_of}
use Rattle.m2v_pred.specs.Vectors.{in_plane, moved, reading}
use Rattle.m2v_pred.specs.Predicted.{interpolated, sample_read, from_direction, predicted, block_by}
use Rattle.m2v_pred.proofs.Blocks.{means_are}
use Rattle.m2v_macroblock.specs.Modes.{form_of, mode_of, told_mode}
use Rattle.m2v_macroblock.specs.Predictions.{View, prediction_of}
use Rattle.m2v_choose.specs.Trials.{moving_syntax}

-- the vectors of a direction are the same
record IsSameWay (x y : Mode) (way : ℕ) : Type 0 where
  vector : (n k : ℕ) → component x n way k ≡ component y n way k
  bottom : (n : ℕ) → is_bottom x n way ≡ is_bottom y n way

-- a mode by its form
abbrev formed : Form → Mode → Mode
formed form m = record { form = form; forward = m.forward; backward = m.backward; vectors = m.vectors; bottom = m.bottom; opposite = m.opposite }

-- what a part is predicted from is the same then, but by dual prime
same_source : (form : Form) (x y : Mode) (way structure part : ℕ) → is_dual form ≡ false → IsSameWay x y way
    → own_source (formed form x) way structure part ≡ own_source (formed form y) way structure part
unfolding own_source
same_source Frame x y way structure part single same =
    λ i. record { lines = own_lines structure; across = same.vector part 0 i; down = same.vector part 1 i }
same_source Field x y way structure part single same =
    λ i. record { lines = field_lines (same.bottom part i); across = same.vector part 0 i; down = same.vector part 1 i }
same_source Half x y way structure part single same =
    λ i. record { lines = field_lines (same.bottom part i); across = same.vector part 0 i; down = same.vector part 1 i }
same_source Dual x y way structure part single same = absurd cc

same_read : (at : View) (form : Form) (x y : Mode) (way : ℕ) (place : MbPlace) (plane : Plane) (line column : ℕ) → is_dual form ≡ false → IsSameWay x y way
    → sample_read at (reading (formed form x) way false place) plane line column ≡ sample_read at (reading (formed form y) way false place) plane line column
unfolding sample_read source_of
same_read at form x y way place plane line column single same =
    let parts = parts_of form place.structure in
    ap (λ (s : Source).
    interpolated (at plane s.lines) (unsigned_abs (moved (line_number parts plane place.row line) (in_plane plane s.down)))
    (unsigned_abs (moved (side plane * place.column + column) (in_plane plane s.across))))
    (same_source form x y way place.structure (part_of_line parts plane line) single same)

same_direction : (at : View) (form : Form) (x y : Mode) (way : ℕ) (place : MbPlace) (plane : Plane) (line column : ℕ) → is_dual form ≡ false → IsSameWay x y way
    → from_direction at (formed form x) way place plane line column ≡ from_direction at (formed form y) way place plane line column
unfolding from_direction
same_direction at Frame x y way place plane line column single same = same_read at Frame x y way place plane line column single same
same_direction at Field x y way place plane line column single same = same_read at Field x y way place plane line column single same
same_direction at Half x y way place plane line column single same = same_read at Half x y way place plane line column single same
same_direction at Dual x y way place plane line column single same = absurd cc

not_dual : (field : Bool) (form : ℕ) → form ≢ 3 → is_dual (form_of field form) ≡ false
unfolding form_of
not_dual field form other = by_tests (nat_eq form 3) field (nat_eq form 2) (nat_eq form 1) (not_same form 3 other)
  where
    not_same : (m n : ℕ) → m ≢ n → nat_eq m n ≡ false
    not_same m n ne = grind (arith, nat_tests)

    by_tests : (three field two one : Bool) → three ≡ false
        → is_dual (if three then Dual else if field then (if two then Half else Field) else if one then Field else Frame) ≡ false
    by_tests true field two one e = absurd cc
    by_tests false true true one e = refl
    by_tests false true false one e = refl
    by_tests false false two true e = refl
    by_tests false false two false e = refl

-- two functions that agree at 0, at 1 and from 2 on
from_two : {A : Type 0} (f g : ℕ → A) → f 0 ≡ g 0 → f 1 ≡ g 1 → ((n : ℕ) → f (suc (suc n)) ≡ g (suc (suc n))) → (n : ℕ) → f n ≡ g n
from_two f g p q r zero = p
from_two f g p q r (suc zero) = q
from_two f g p q r (suc (suc n)) = r n

module _ (c : PictureContext) (increment form : ℕ) (a b : Direction) where
  -- how a macroblock is predicted in directions
  abbrev by : Bool → Bool → Mode
  by hf hb = mode_of c (moving_syntax increment form hf hb a b)

  ahead_same : IsSameWay (by true false) (by true true) 0
  unfolding mode_of told_mode moving_syntax
  ahead_same = record {
    vector = λ n k. from_two (λ i. component (by true false) i 0 k) (λ i. component (by true true) i 0 k) refl refl (λ i. refl) n;
    bottom = from_two (λ i. is_bottom (by true false) i 0) (λ i. is_bottom (by true true) i 0) refl refl (λ i. refl);
  }

  behind_same : IsSameWay (by false true) (by true true) 1
  unfolding mode_of told_mode moving_syntax
  behind_same = record {
    vector = λ n k. from_two (λ i. component (by false true) i 1 k) (λ i. component (by true true) i 1 k) refl refl (λ i. refl) n;
    bottom = from_two (λ i. is_bottom (by false true) i 1) (λ i. is_bottom (by true true) i 1) refl refl (λ i. refl);
  }

  pub both_is : (f g : View) (place : MbPlace) → form ≢ 3
      → zip2 mean (prediction_of f g c place (moving_syntax increment form true false a b)) (prediction_of f g c place (moving_syntax increment form false true a b))
      ≡ prediction_of f g c place (moving_syntax increment form true true a b)
  unfolding prediction_of predicted mode_of told_mode moving_syntax
  both_is f g place other =
      let shape = form_of (is_field c) form in
      let single = not_dual (is_field c) form other in
      means_are (prediction_of f g c place (moving_syntax increment form true false a b)) (prediction_of f g c place (moving_syntax increment form false true a b))
      (from_direction f (by true false) 0 place) (from_direction g (by false true) 1 place) refl refl
      ∙ (λ i. block_by (λ p l k.
      mean (same_direction f shape (by true false) (by true true) 0 place p l k single ahead_same i)
      (same_direction g shape (by false true) (by true true) 1 place p l k single behind_same i)))
