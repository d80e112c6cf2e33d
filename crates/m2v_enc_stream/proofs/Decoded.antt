-- What macroblocks are predicted from was decoded, where the picture's references were.
use Rattle.std.proofs.Common.{◌≡◌, ◌≢◌, ℕ, ◌≤◌, Bool, true, false, ◌||◌, not, List, ◌⊎◌, inl, inr, refl, ap, ◌∙◌, arith}
use Rattle.std.specs.Prelude.{nat_eq, slice_index_or}
use Rattle.std.proofs.lemmas.Bool.{and_from}
use Rattle.std.proofs.Math.Bool.{or-true}
use Rattle.m2v_plane.specs.declared.planes.Lines.{Lines}
use Rattle.m2v_plane.specs.declared.planes.Lines.TheVariants.{Whole, Top, Bottom}
use Rattle.m2v_plane.specs.Fields.{lines_there}
use Rattle.m2v_macro.specs.declared.values.MacroSyntax.{MacroSyntax}
use Rattle.m2v_macro.specs.declared.values.PictureContext.{PictureContext}
use Rattle.m2v_macro.specs.declared.values.SliceState.{SliceState}
use Rattle.m2v_macro.specs.Conditions.{has_type}
use Rattle.m2v_pred.specs.declared.mode.Mode.{Mode}
use Rattle.m2v_pred.specs.Motion.{is_dual, parts_of, lines_read, other_field, own_field}
use Rattle.m2v_pred.specs.Patches.{part_count}
use Rattle.m2v_slice.proofs.Motions.{type_tells}
use Rattle.m2v_macroblock.specs.Modes.{mode_of, told_mode, without_motion_type, skipped_mode}
use Rattle.m2v_model.specs.Modes.{part_decoded, direction_decoded, is_decoded}
use Rattle.m2v_enc_stream.specs.Slices.{AreDecoded}

-- ---- where both fields were decoded

lines_all : (l : Lines) → lines_there true true l ≡ true
unfolding lines_there
lines_all Whole = refl
lines_all Top = refl
lines_all Bottom = refl

part_all : (mode : Mode) (direction structure part : ℕ) → part_decoded true true mode direction structure part ≡ true
unfolding part_decoded
part_all mode direction structure part =
    and_from _ _ (lines_all (lines_read mode.form mode direction structure part))
    (ap (λ (b : Bool). not (is_dual mode.form) || b) (lines_all (other_field (own_field structure part))) ∙ or-true (not (is_dual mode.form)))

direction_all : (mode : Mode) (direction structure : ℕ) → direction_decoded true true mode direction structure ≡ true
unfolding direction_decoded
direction_all mode direction structure =
    let one = nat_eq (part_count (parts_of mode.form structure)) 1 in
    and_from _ _ (part_all mode direction structure 0) (ap (λ (b : Bool). one || b) (part_all mode direction structure 1) ∙ or-true one)

direction_by : (top bottom : Bool) (mode : Mode) (direction structure : ℕ) → top ≡ true → bottom ≡ true → direction_decoded top bottom mode direction structure ≡ true
direction_by top bottom mode direction structure t b = (λ i. direction_decoded (t i) (b i) mode direction structure) ∙ direction_all mode direction structure

where_told : (told decoded : Bool) → (told ≡ true → decoded ≡ true) → (not told || decoded) ≡ true
where_told true decoded h = h refl
where_told false decoded h = refl

-- a prediction, whose directions the picture has references for
pub decoded_by : (kind : ℕ) (references : List Bool) (structure : ℕ) (mode : Mode) → AreDecoded kind references → (mode.forward ≡ true → kind ≢ 1) → (mode.backward ≡ true → kind ≡ 3)
    → is_decoded references structure mode ≡ true
unfolding is_decoded
decoded_by kind references structure mode h forward backward =
    let r = λ (k : ℕ). slice_index_or references k false in
    and_from _ _
    (where_told mode.forward (direction_decoded (r 0) (r 1) mode 0 structure) (λ e. direction_by (r 0) (r 1) mode 0 structure (h.forward_top (forward e)) (h.forward_bottom (forward e))))
    (where_told mode.backward (direction_decoded (r 2) (r 3) mode 1 structure) (λ e. direction_by (r 2) (r 3) mode 1 structure (h.backward_top (backward e)) (h.backward_bottom (backward e))))

-- ---- the directions of a macroblock

-- the directions that a mode may have in a picture
pub record MayRead (kind : ℕ) (mode : Mode) : Type 0 where
  pub forward : mode.forward ≡ true → kind ≢ 1
  pub backward : mode.backward ≡ true → kind ≡ 3

kind_may : (c : PictureContext) (m : MacroSyntax) (f b : Bool) → m.kind.intra ≡ false → m.kind.forward ≡ f → m.kind.backward ≡ b → c.kind ≢ 1 → (m.kind.backward ≡ true → c.kind ≡ 3)
    → MayRead c.kind (mode_of c m)
unfolding mode_of told_mode without_motion_type
kind_may c m true b other ef eb moves three = rw (other, ef) (record { forward = λ e. moves; backward = three })
kind_may c m false true other ef eb moves three = rw (other, ef, eb) (record { forward = λ e. moves; backward = λ e. three eb })
kind_may c m false false other ef eb moves three = rw (other, ef, eb) (record { forward = λ e. moves; backward = λ e. absurd cc })

intra_may : (c : PictureContext) (m : MacroSyntax) → m.kind.intra ≡ true → MayRead c.kind (mode_of c m)
unfolding mode_of
intra_may c m intra = rw intra (record { forward = λ e. absurd cc; backward = λ e. absurd cc })

pub mode_may : (c : PictureContext) (m : MacroSyntax) → has_type c.kind m.kind ≡ true → 1 ≤ c.kind → c.kind ≤ 3 → MayRead c.kind (mode_of c m)
mode_may c m h least most = elim (m.kind.intra) as (λ k. m.kind.intra ≡ k → MayRead c.kind (mode_of c m)) [
  | true ↦ λ intra. intra_may c m intra
  | false ↦ λ other. let tells = type_tells c.kind m.kind h other least most in kind_may c m m.kind.forward m.kind.backward other refl refl tells.0 tells.1
] refl

pub skipped_may : (c : PictureContext) (st : SliceState) → (c.kind ≡ 2) ⊎ (c.kind ≡ 3) → MayRead c.kind (skipped_mode c st)
unfolding skipped_mode without_motion_type
skipped_may c st (inl two) = rw two (record { forward = λ e. (λ one. absurd (omega (arith, one))); backward = λ e. absurd cc })
skipped_may c st (inr three) = rw three (record { forward = λ e. (λ one. absurd (omega (arith, one))); backward = λ e. refl })
