-- The test whether a prediction lies inside its references, as the rule that it tests.
use Rattle.std.proofs.Common.{◌≡◌, ℕ, zero, suc, ◌+◌, ◌*◌, ◌<◌, Bool, true, false, ◌||◌, not, arith, ℤ, pos, ◌≤ℤ◌}
use Rattle.std.specs.Prelude.{IsTrue, unsigned_abs, int_le, nat_le}
use Rattle.std.proofs.lemmas.Bool.{and_parts, leb-true}
use Rattle.std.proofs.lemmas.Int.{ints}
use Rattle.m2v_plane.specs.declared.dims.Dims.{Dims}
use Rattle.m2v_plane.specs.declared.planes.Plane.TheVariants.{Y}
use Rattle.m2v_plane.specs.Sizes.{lines_of, columns_of}
use Rattle.m2v_pred.specs.declared.mode.Mode.{Mode}
use Rattle.m2v_pred.specs.declared.mode.MbPlace.{MbPlace}
use Rattle.m2v_pred.specs.declared.source.Parts.{Parts}
use Rattle.m2v_pred.specs.declared.source.Parts.TheVariants.{One, Fields, Halves}
use Rattle.m2v_pred.specs.Motion.{is_dual}
use Rattle.m2v_pred.specs.Vectors.{Reading, reading, parts, moved, Lies, ReadsInside, DirectionInside, IsInside}
use Rattle.m2v_pred.specs.Patches.{part_count, part_height, part_number, source_of_part, PartInside}
use Rattle.m2v_pred.specs.Inside.{spans, part_inside, all_parts_inside, reads_inside, direction_inside, is_inside}
use Rattle.m2v_pred.proofs.Places.{lie_all}
use Rattle.m2v_pred.proofs.Areas.{reads_from_parts}

least : (z : ℤ) → int_le (pos 0) z ≡ true → pos 0 ≤ℤ z
least z e = grind (arith, ints)

-- so many samples lie inside where the test says so
spanned : (total n count : ℕ) (v : ℤ) → spans total (moved n v) count ≡ true → (k : ℕ) → k < count → Lies total (moved (n + k) v)
unfolding spans
spanned total n count v e =
    let p = and_parts (int_le (pos 0) (moved n v)) (nat_le (unsigned_abs (moved n v) + 2 * count) (2 * total)) e in
    lie_all n count total v (least (moved n v) p.0) (leb-true (unsigned_abs (moved n v) + 2 * count) (2 * total) p.1)

part_is_inside : (d : Dims) (r : Reading) (part : ℕ) → part_inside d r part ≡ true → PartInside d r part
unfolding part_inside
part_is_inside d r part e =
    let lines = spans (lines_of d Y (source_of_part r part).lines) (moved (part_number (parts r) Y r.place.row part) (source_of_part r part).down) (part_height (parts r) Y) in
    let columns = spans (columns_of d Y) (moved (16 * r.place.column) (source_of_part r part).across) 16 in
    let p = and_parts lines columns e in
    record {
      lines = spanned (lines_of d Y (source_of_part r part).lines) (part_number (parts r) Y r.place.row part) (part_height (parts r) Y) (source_of_part r part).down p.0;
      columns = spanned (columns_of d Y) (16 * r.place.column) 16 (source_of_part r part).across p.1;
    }

each_inside : (q : Parts) (d : Dims) (r : Reading) → all_parts_inside q d r ≡ true → (part : ℕ) → part < part_count q → part_inside d r part ≡ true
unfolding all_parts_inside
each_inside One d r e zero lt = e
each_inside One d r e (suc n) lt = absurd (omega (arith, lt))
each_inside Fields d r e zero lt = (and_parts (part_inside d r 0) (part_inside d r 1) e).0
each_inside Fields d r e (suc zero) lt = (and_parts (part_inside d r 0) (part_inside d r 1) e).1
each_inside Fields d r e (suc (suc n)) lt = absurd (omega (arith, lt))
each_inside Halves d r e zero lt = (and_parts (part_inside d r 0) (part_inside d r 1) e).0
each_inside Halves d r e (suc zero) lt = (and_parts (part_inside d r 0) (part_inside d r 1) e).1
each_inside Halves d r e (suc (suc n)) lt = absurd (omega (arith, lt))

reads_are_inside : (d : Dims) (r : Reading) → reads_inside d r ≡ true → ReadsInside d r Y
reads_are_inside d r e = reads_from_parts d r (λ part lt. part_is_inside d r part (each_inside (parts r) d r e part lt))

either_given : (has test : Bool) → IsTrue has → (not has || test) ≡ true → test ≡ true
either_given true test e h = h
either_given false test e h = absurd cc

direction_is_inside : (mode : Mode) (direction : ℕ) (place : MbPlace) (d : Dims) → direction_inside mode direction place d ≡ true → DirectionInside mode direction place d
unfolding direction_inside
direction_is_inside mode direction place d e =
    let own = reads_inside d (reading mode direction false place) in
    let other = reads_inside d (reading mode direction true place) in
    let p = and_parts own (not (is_dual mode.form) || other) e in
    record {
      own = reads_are_inside d (reading mode direction false place) p.0;
      opposite = λ dual. reads_are_inside d (reading mode direction true place) (either_given (is_dual mode.form) other dual p.1);
    }

-- the rule holds where the test says so
pub inside_is : (mode : Mode) (place : MbPlace) (d : Dims) → is_inside mode place d ≡ true → IsInside mode place d
unfolding is_inside
inside_is mode place d e =
    let f = direction_inside mode 0 place d in
    let b = direction_inside mode 1 place d in
    let p = and_parts (not mode.forward || f) (not mode.backward || b) e in
    record {
      forward = λ has. direction_is_inside mode 0 place d (either_given mode.forward f has p.0);
      backward = λ has. direction_is_inside mode 1 place d (either_given mode.backward b has p.1);
    }
