-- In a P picture the prediction by vector zero is one: that of the held macroblock, of a skipped one, and of the type without a
-- direction.
use Rattle.std.proofs.Common.{◌≡◌, ℕ, ◌+◌, ◌*◌, Bool, true, false, not, List, [], ◌∷◌, refl, ap, sym, subst, ◌∙◌}
use Rattle.std.specs.Prelude.{nat_eq, if◌then◌else◌, unsigned_abs}
use Rattle.std.proofs.lemmas.Bool.{eq-eqb}
use Rattle.m2v_plane.specs.declared.planes.Plane.{Plane}
use Rattle.m2v_macro.specs.declared.values.PictureContext.{PictureContext}
use Rattle.m2v_macro.specs.declared.values.SliceState.{SliceState}
use Rattle.m2v_macro.specs.declared.values.MacroSyntax.{MacroSyntax}
use Rattle.m2v_macro.specs.declared.values.Direction.{Direction}
use Rattle.m2v_macro.specs.States.{is_field}
use Rattle.m2v_pred.specs.declared.mode.MbPlace.{MbPlace}
use Rattle.m2v_pred.specs.declared.mode.Mode.{Mode}
use Rattle.m2v_pred.specs.declared.mode.Form.{Form}
use Rattle.m2v_pred.specs.declared.mode.Form.TheVariants.{Frame, Field}
use Rattle.m2v_pred.specs.declared.source.Source.{Source}
use Rattle.m2v_pred.specs.declared.source.Parts.{Parts}
use Rattle.m2v_pred.specs.declared.source.Parts.TheVariants.{One, Fields}
use Rattle.m2v_pred.specs.Motion.{parts_of, part_of_line, line_number, own_source, source_of}
use Rattle.m2v_pred.specs.Vectors.{in_plane, moved}
use Rattle.m2v_pred.specs.Predicted.{interpolated, sample_read, from_direction, predicted, block_by}
use Rattle.m2v_plane.specs.Sizes.{side}
use Rattle.m2v_vector.specs.Predictors.{zero, zeros}
use Rattle.m2v_macroblock.specs.Modes.{form_of, mode_of, told_mode, own_parity, opposite_parity_vectors, zero_motion, without_motion_type, skipped_mode}
use Rattle.m2v_macroblock.specs.Predictions.{View, prediction_of}
use Rattle.m2v_choose.specs.declared.task.Task.{Task}
use Rattle.m2v_choose.specs.Decisions.{uncoded_syntax}
use Rattle.m2v_choose.specs.Candidates.{plain_form, still_vector, zero_prediction, samples_by}
use Rattle.m2v_choose.proofs.Leading.{no_is}
use Rattle.m2v_choose.specs.Trials.{References, decided, place_for, moving_syntax, IsStill}

pub skipped_zero : (c : PictureContext) (st : SliceState) → c.kind ≡ 2 → skipped_mode c st ≡ zero_motion c
unfolding skipped_mode
skipped_zero c st two = rw two refl

pub zero_samples : (t : Task) (r : References) → samples_by (decided r t) (zero_prediction (decided r t)) ≡ block_by (predicted r.forward r.backward (zero_motion t.context.now) (place_for t))
unfolding samples_by prediction_of mode_of uncoded_syntax
zero_samples t r = refl

-- ---- the held macroblock

-- forward by vector zero, from these reference fields
abbrev by_zero : Form → List (List Bool) → Mode
by_zero form bottom = record { form = form; forward = true; backward = false; vectors = zero.at; bottom = bottom; opposite = zeros ∷ zeros ∷ [] }

abbrev form_by : Bool → Form
form_by frame = if frame then Frame else Field

-- the second field isn't read in a field picture, and none is named in a frame picture
same_field : (f g : View) (place : MbPlace) (own : Bool) (x y : List Bool) (xs ys : List (List Bool)) (frame : Bool) → nat_eq place.structure 3 ≡ frame → (plane : Plane) (line k : ℕ)
    → predicted f g (by_zero (form_by frame) ((own ∷ x) ∷ xs)) place plane line k ≡ predicted f g (by_zero (form_by frame) ((own ∷ y) ∷ ys)) place plane line k
unfolding predicted from_direction sample_read source_of own_source
same_field f g place own x y xs ys true e plane line k = refl
same_field f g place own x y xs ys false e plane line k =
    let parts = parts_of Field place.structure in
    let one : parts ≡ One = no_is (nat_eq place.structure 3) Fields One e in
    let source = λ (bottom : List (List Bool)) (q : Parts). own_source (by_zero Field bottom) 0 place.structure (part_of_line q plane line) in
    let same : source ((own ∷ x) ∷ xs) parts ≡ source ((own ∷ y) ∷ ys) parts =
    subst (λ (q : Parts). source ((own ∷ x) ∷ xs) q ≡ source ((own ∷ y) ∷ ys) q) (sym one) refl in
    ap (λ (s : Source).
    interpolated (f plane s.lines) (unsigned_abs (moved (line_number parts plane place.row line) (in_plane plane s.down)))
    (unsigned_abs (moved (side plane * place.column + k) (in_plane plane s.across)))) same

module _ (c : PictureContext) (n : ℕ) where
  held : MacroSyntax
  held = moving_syntax n (plain_form c) true false (still_vector c) (still_vector c)

  held_form : (frame : Bool) → nat_eq c.extension.structure 3 ≡ frame → form_of (is_field c) (plain_form c) ≡ form_by frame
  unfolding form_of plain_form
  held_form true e = ap (λ (b : Bool). form_of (not b) (if not b then 1 else 2)) e
  held_form false e = ap (λ (b : Bool). form_of (not b) (if not b then 1 else 2)) e

  not_three : (frame : Bool) → nat_eq c.extension.structure 3 ≡ frame → nat_eq (plain_form c) 3 ≡ false
  unfolding plain_form
  not_three true e = ap (λ (b : Bool). nat_eq (if not b then 1 else 2) 3) e
  not_three false e = ap (λ (b : Bool). nat_eq (if not b then 1 else 2) 3) e

  held_mode : (frame : Bool) → nat_eq c.extension.structure 3 ≡ frame → mode_of c held ≡ by_zero (form_by frame) held.bottom
  unfolding held mode_of told_mode moving_syntax
  held_mode frame e =
      let opposite = no_is (nat_eq (plain_form c) 3) (opposite_parity_vectors c held) (zeros ∷ zeros ∷ []) (not_three frame e) in
      λ i. record { form = held_form frame e i; forward = true; backward = false; vectors = zero.at; bottom = held.bottom; opposite = opposite i }

  zero_mode : (frame : Bool) → nat_eq c.extension.structure 3 ≡ frame → zero_motion c ≡ by_zero (form_by frame) (own_parity c)
  unfolding without_motion_type
  zero_mode true e = λ i. record { form = ap (λ (b : Bool). if not b then Field else Frame) e i; forward = true; backward = false; vectors = zero.at; bottom = own_parity c; opposite = zeros ∷ zeros ∷ [] }
  zero_mode false e = λ i. record { form = ap (λ (b : Bool). if not b then Field else Frame) e i; forward = true; backward = false; vectors = zero.at; bottom = own_parity c; opposite = zeros ∷ zeros ∷ [] }

  still_sample : (f g : View) (place : MbPlace) (frame : Bool) → place.structure ≡ c.extension.structure → nat_eq c.extension.structure 3 ≡ frame → (plane : Plane) (line k : ℕ)
      → predicted f g (mode_of c held) place plane line k ≡ predicted f g (zero_motion c) place plane line k
  unfolding held moving_syntax
  still_sample f g place frame same e plane line k =
      let own = nat_eq c.extension.structure 2 in
      ap (λ (m : Mode). predicted f g m place plane line k) (held_mode frame e)
      ∙ same_field f g place own (false ∷ []) (own ∷ []) _ ((own ∷ own ∷ []) ∷ []) frame (ap (λ (s : ℕ). nat_eq s 3) same ∙ e) plane line k
      ∙ ap (λ (m : Mode). predicted f g m place plane line k) (sym (zero_mode frame e))

still_block : (t : Task) (r : References) → prediction_of r.forward r.backward t.context.now (place_for t)
    (moving_syntax t.increment (plain_form t.context.now) true false (still_vector t.context.now) (still_vector t.context.now))
    ≡ block_by (predicted r.forward r.backward (zero_motion t.context.now) (place_for t))
unfolding prediction_of moving_syntax held
still_block t r =
    let c = t.context.now in
    λ i. block_by (λ plane line k. still_sample c t.increment r.forward r.backward (place_for t) (nat_eq c.extension.structure 3) refl refl plane line k i)

pub still_known : (t : Task) (r : References) (m : MacroSyntax) (form : ℕ) (v : Direction) (samples : List ℕ) → m ≡ moving_syntax t.increment form (nat_eq t.context.now.kind 2) (nat_eq t.context.now.kind 3) v v
    → form ≡ plain_form t.context.now → v ≡ still_vector t.context.now → samples ≡ prediction_of r.forward r.backward t.context.now (place_for t) m → IsStill r t samples
still_known t r m form v samples made same still predicts two =
    let c = t.context.now in
    let ahead : nat_eq c.kind 2 ≡ true = eq-eqb c.kind 2 two in
    let behind : nat_eq c.kind 3 ≡ false = rw two refl in
    let is : m ≡ moving_syntax t.increment (plain_form c) true false (still_vector c) (still_vector c) =
    made ∙ (λ i. moving_syntax t.increment (same i) (ahead i) (behind i) (still i) (still i)) in
    predicts ∙ ap (prediction_of r.forward r.backward c (place_for t)) is ∙ still_block t r
