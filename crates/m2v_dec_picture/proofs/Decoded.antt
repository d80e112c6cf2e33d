-- Where both fields of a reference were decoded, all that is read of it was.
use Rattle.std.proofs.Common.{◌≡◌, ℕ, Bool, true, false, refl}
use Rattle.std.specs.Prelude.{◌||◌, not, nat_eq}
use Rattle.m2v_plane.specs.declared.planes.Lines.{Lines}
use Rattle.m2v_plane.specs.declared.planes.Lines.TheVariants.{Whole, Top, Bottom}
use Rattle.m2v_plane.specs.Fields.{lines_there}
use Rattle.m2v_pred.specs.declared.mode.Mode.{Mode}
use Rattle.m2v_pred.specs.Motion.{parts_of, lines_read, other_field, own_field, is_dual}
use Rattle.m2v_pred.specs.Patches.{part_count}
use Rattle.m2v_model.specs.Modes.{part_decoded, direction_decoded}

there : (lines : Lines) → lines_there true true lines ≡ true
unfolding lines_there
there Whole = refl
there Top = refl
there Bottom = refl

or_true : (b : Bool) → (b || true) ≡ true
or_true true = refl
or_true false = refl

part_there : (mode : Mode) (direction structure part : ℕ) → part_decoded true true mode direction structure part ≡ true
unfolding part_decoded
part_there mode direction structure part =
    rw (there (lines_read mode.form mode direction structure part), there (other_field (own_field structure part))) (or_true (not (is_dual mode.form)))

whole : (mode : Mode) (direction structure : ℕ) → direction_decoded true true mode direction structure ≡ true
unfolding direction_decoded
whole mode direction structure =
    rw (part_there mode direction structure 0, part_there mode direction structure 1) (or_true (nat_eq (part_count (parts_of mode.form structure)) 1))

-- whichever two flags these are
pub whole_decoded : (top bottom : Bool) (mode : Mode) (direction structure : ℕ) → top ≡ true → bottom ≡ true → direction_decoded top bottom mode direction structure ≡ true
whole_decoded top bottom mode direction structure t b = rw (t, b) (whole mode direction structure)
