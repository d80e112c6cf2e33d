-- Vectors that are too short to leave the picture.
use Rattle.std.proofs.Common.{◌≡◌, ◌≢◌, ℕ, ◌+◌, ◌*◌, ◌/◌, ◌<◌, ◌≤◌, Bool, true, false, ◌&&◌, ◌⊎◌, inl, inr, refl, ap, sym, ◌∙◌, arith, ℤ, pos, negsuc, ◌≤ℤ◌, if◌then◌else◌}
use Rattle.std.specs.Prelude.{unsigned_abs, int_le, nat_eq}
use Rattle.std.specs.Cmp.Derive.{both_true}
use Rattle.std.proofs.lemmas.Bool.{true≢false, le-leb, eqb-true}
use Rattle.std.proofs.lemmas.Int.{ints}
use Rattle.m2v_plane.specs.declared.dims.Dims.{Dims}
use Rattle.m2v_plane.specs.declared.planes.Lines.{Lines}
use Rattle.m2v_plane.specs.declared.planes.Plane.TheVariants.{Y}
use Rattle.m2v_plane.specs.Sizes.{lines_of, columns_of}
use Rattle.m2v_pred.specs.declared.mode.Form.{Form}
use Rattle.m2v_pred.specs.declared.mode.Form.TheVariants.{Frame, Field}
use Rattle.m2v_pred.specs.declared.mode.Mode.{Mode}
use Rattle.m2v_pred.specs.declared.mode.MbPlace.{MbPlace}
use Rattle.m2v_pred.specs.declared.source.Parts.{Parts}
use Rattle.m2v_pred.specs.declared.source.Parts.TheVariants.{One, Fields, Halves}
use Rattle.m2v_plane.specs.declared.planes.Lines.TheVariants.{Whole}
use Rattle.m2v_pred.specs.Motion.{component, parts_of, lines_read, vector_number, field_lines, own_lines, own_source, source_of, is_dual}
use Rattle.m2v_pred.specs.Vectors.{reading, moved}
use Rattle.m2v_pred.specs.Patches.{part_height, part_number}
use Rattle.m2v_pred.specs.Inside.{spans, part_inside, all_parts_inside, direction_inside}

least_zero : (z : ℤ) → pos 0 ≤ℤ z → int_le (pos 0) z ≡ true
least_zero (pos n) le = le-leb 0 n (omega arith)
least_zero (negsuc n) le = absurd (omega (arith, ints, le))

-- samples that both ends leave room to move
spans_near : (n m count room : ℕ) (v : ℤ) → unsigned_abs v ≤ room → room ≤ 2 * m → room + 2 * m + 2 * count ≤ 2 * n
    → spans n (moved m v) count ≡ true
unfolding spans
spans_near n m count room v short low high =
    let first : pos 0 ≤ℤ moved m v = omega (arith, ints, short, low) in
    let last : unsigned_abs (moved m v) + 2 * count ≤ 2 * n = omega (arith, ints, short, low, high) in
    both_true (least_zero (moved m v) first) (le-leb (unsigned_abs (moved m v) + 2 * count) (2 * n) last)

-- a picture of so many macroblock rows, and a direction's vectors
module _ (d : Dims) (mode : Mode) (direction : ℕ) (place : MbPlace) (room rows : ℕ)
    (short : (number k : ℕ) → number < 2 → k < 2 → unsigned_abs (component mode number direction k) ≤ room)
    (above : room ≤ 16 * place.row) (below : room + 16 * place.row + 16 ≤ 16 * rows)
    (left : room ≤ 32 * place.column) (right : room + 32 * place.column + 32 ≤ 32 * d.mb_width)
    (frame : place.structure ≡ 3 → rows ≡ d.mb_rows) (field : place.structure ≢ 3 → rows ≡ d.mb_rows / 2) where
  columns_near : (number : ℕ) → number < 2 → spans (columns_of d Y) (moved (16 * place.column) (component mode number direction 0)) 16 ≡ true
  columns_near number two =
      spans_near (columns_of d Y) (16 * place.column) 16 room (component mode number direction 0) (short number 0 two (omega arith))
      (omega (arith, left)) (omega (arith, right))

  half_rows : nat_eq place.structure 3 ≡ false → rows ≡ d.mb_rows / 2
  half_rows other = field (λ e. true≢false (sym (ap (λ (n : ℕ). nat_eq n 3) e) ∙ other))

  in_field : (bottom : Bool) → rows ≡ d.mb_rows / 2 → 16 * rows ≤ lines_of d Y (field_lines bottom)
  in_field true half = omega (arith, half)
  in_field false half = omega (arith, half)

  in_frame : (bottom : Bool) → rows ≡ d.mb_rows → 16 * rows ≤ 2 * lines_of d Y (field_lines bottom)
  in_frame true all = omega (arith, all)
  in_frame false all = omega (arith, all)

  in_picture : (whole : Bool) → nat_eq place.structure 3 ≡ whole
      → 16 * rows ≤ lines_of d Y (if whole then Whole else field_lines (nat_eq place.structure 2))
  in_picture true e = omega (arith, frame (eqb-true place.structure 3 e))
  in_picture false e = in_field (nat_eq place.structure 2) (half_rows e)

  -- all lines by one vector
  one_near : (lines : Lines) (number : ℕ) → number < 2 → 16 * rows ≤ lines_of d Y lines
      → spans (lines_of d Y lines) (moved (16 * place.row) (component mode number direction 1)) 16 ≡ true
  one_near lines number two fits =
      spans_near (lines_of d Y lines) (16 * place.row) 16 room (component mode number direction 1) (short number 1 two (omega arith))
      (omega (arith, above)) (omega (arith, below, fits))

  field_near : (whole : Bool) → nat_eq place.structure 3 ≡ whole → (bottom : Bool) (part : ℕ) → part < 2
      → spans (lines_of d Y (field_lines bottom)) (moved (part_number (if whole then Fields else One) Y place.row part) (component mode part direction 1))
      (part_height (if whole then Fields else One) Y) ≡ true
  field_near true e bottom part two =
      let fits = in_frame bottom (frame (eqb-true place.structure 3 e)) in
      spans_near (lines_of d Y (field_lines bottom)) (8 * place.row) 8 room (component mode part direction 1) (short part 1 two (omega arith))
      (omega (arith, above)) (omega (arith, below, fits))
  field_near false e bottom part two = one_near (field_lines bottom) part two (in_field bottom (half_rows e))

  form_near : (f : Form) → (f ≡ Frame) ⊎ (f ≡ Field) → (part : ℕ) → part < 2
      → (spans (lines_of d Y (lines_read f mode direction place.structure part))
      (moved (part_number (parts_of f place.structure) Y place.row part) (component mode (vector_number f part) direction 1))
      (part_height (parts_of f place.structure) Y)
      && spans (columns_of d Y) (moved (16 * place.column) (component mode (vector_number f part) direction 0)) 16) ≡ true
  form_near f (inl e) part two = rw e (both_true (one_near (own_lines place.structure) part two (in_picture (nat_eq place.structure 3) refl)) (columns_near part two))
  form_near f (inr e) part two = rw e (both_true (field_near (nat_eq place.structure 3) refl _ part two) (columns_near part two))

  part_near : (mode.form ≡ Frame) ⊎ (mode.form ≡ Field) → (part : ℕ) → part < 2 → part_inside d (reading mode direction false place) part ≡ true
  unfolding part_inside source_of own_source
  part_near is part two = form_near mode.form is part two

  all_near : (q : Parts) → part_inside d (reading mode direction false place) 0 ≡ true → part_inside d (reading mode direction false place) 1 ≡ true
      → all_parts_inside q d (reading mode direction false place) ≡ true
  unfolding all_parts_inside
  all_near One first second = first
  all_near Fields first second = both_true first second
  all_near Halves first second = both_true first second

  not_dual : (f : Form) → (f ≡ Frame) ⊎ (f ≡ Field) → is_dual f ≡ false
  not_dual f (inl e) = ap is_dual e
  not_dual f (inr e) = ap is_dual e

  pub near_is : (mode.form ≡ Frame) ⊎ (mode.form ≡ Field) → direction_inside mode direction place d ≡ true
  unfolding direction_inside
  near_is is =
      both_true (all_near (parts_of mode.form place.structure) (part_near is 0 (omega arith)) (part_near is 1 (omega arith)))
      (rw (not_dual mode.form is) refl)
