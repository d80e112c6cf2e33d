-- What is searched can be tried.
use Rattle.std.proofs.Common.{◌≡◌, ◌≢◌, ℕ, Bool, true, false, cond, ◌||◌, ◌⊎◌, inl, inr, List, [], ◌∷◌, ◌++◌, refl, ap, sym, ◌∙◌, subst, arith}
use Rattle.std.specs.Prelude.{nat_eq, if◌then◌else◌, ⊤}
use Rattle.std.specs.List.{flat_map}
use Rattle.std.proofs.lemmas.Bool.{eqb-true, eq-eqb}
use Rattle.std.proofs.lemmas.Grind.{flat_map-append}
use Rattle.m2v_plane.specs.declared.dims.Dims.{Dims}
use Rattle.m2v_plane.specs.declared.planes.Plane.{Plane}
use Rattle.m2v_plane.specs.declared.planes.Lines.{Lines}
use Rattle.m2v_plane.specs.Sizes.{IsSize}
use Rattle.m2v_macro.specs.declared.values.MacroSyntax.{MacroSyntax}
use Rattle.m2v_macro.specs.declared.values.PictureContext.{PictureContext}
use Rattle.m2v_macro.specs.declared.values.Direction.{Direction}
use Rattle.m2v_macro.specs.States.{is_field}
use Rattle.m2v_macro.specs.Macros.{no_vectors, macro_of, no_form}
use Rattle.m2v_pred.specs.Motion.{no_motion}
use Rattle.m2v_pred.specs.declared.source.Parts.{Parts}
use Rattle.m2v_pred.specs.declared.source.Parts.TheVariants.{One, Fields}
use Rattle.m2v_pred.specs.Vectors.{IsPlace}
use Rattle.m2v_macroblock.specs.Modes.{mode_of, told_mode, zero_motion, without_motion_type}
use Rattle.m2v_search.specs.Near.{HasNear}
use Rattle.m2v_choose.specs.declared.task.Task.{Task}
use Rattle.m2v_choose.specs.declared.trial.Best.{Best}
use Rattle.m2v_choose.specs.Decisions.{Decision, Candidate, Prediction, has_dct_type, uncoded_syntax, coded_syntax}
use Rattle.m2v_choose.specs.Candidates.{plain_form, plain_direction, field_direction, prediction, predictions_by, zero_prediction, still_vector, still_prediction, by_prediction}
use Rattle.m2v_choose.specs.Trials.{References, decided, IsTask, IsReference, AreReferences, Goes, has_types, CanCode, CanTry, moving_syntax, place_for, IsRated, Tried, later_predictions}
use Rattle.m2v_choose.proofs.IntraCoded.{no_references}
use Rattle.m2v_choose.proofs.Stands.{PredictionStands, uncoded_macro, coded_macro, first_of, second_of, plain_told_one, fields_one, zero_one, still_prediction_stands}
use Rattle.m2v_choose.proofs.Inside.{ModeFits, fits_inside, fits_forward, fits_backward, plain_fits, fields_fit, still_prediction_fits}
use Rattle.m2v_choose.proofs.Tried.{first_step, tried_on, tried_none}

-- which directions a macroblock's motion has
mode_some : (c : PictureContext) (m : MacroSyntax) → m.kind.intra ≡ false → ((mode_of c m).forward ≡ true) ⊎ ((mode_of c m).backward ≡ true)
unfolding mode_of told_mode without_motion_type
mode_some c m other = by_test m.kind.intra m.kind.forward m.kind.backward other
  where
    by_test : (i f b : Bool) → i ≡ false
        → ((if i then no_motion else if f || b then record (told_mode c m) { forward = f; backward = b } else zero_motion c).forward ≡ true)
        ⊎ ((if i then no_motion else if f || b then record (told_mode c m) { forward = f; backward = b } else zero_motion c).backward ≡ true)
    by_test true f b e = absurd cc
    by_test false true b e = inl refl
    by_test false false true e = inr refl
    by_test false false false e = inl refl

mode_backward : (c : PictureContext) (m : MacroSyntax) → m.kind.intra ≡ false → (mode_of c m).backward ≡ true → m.kind.backward ≡ true
unfolding mode_of told_mode without_motion_type
mode_backward c m other = by_test m.kind.intra m.kind.forward m.kind.backward other
  where
    by_test : (i f b : Bool) → i ≡ false
        → (if i then no_motion else if f || b then record (told_mode c m) { forward = f; backward = b } else zero_motion c).backward ≡ true → b ≡ true
    by_test true f b e back = absurd cc
    by_test false true b e back = back
    by_test false false true e back = refl
    by_test false false false e back = back

-- a prediction that stands and stays inside can be tried
module _ (t : Task) (r : References) (ahead behind : Plane → Lines → ℕ → Type 0) (task : IsTask t) (p : Prediction) (stands : PredictionStands t.context.now p) where
  code : CanCode t (uncoded_syntax (decided r t) p)
  unfolding uncoded_syntax coded_syntax
  code = record {
    increment = sym (task.increment r);
    other = refl;
    macro = λ q dct pattern is types some most. coded_macro (decided r t) task.asked.own t.first (first_step t r task) p (record { q = q; dct_field = dct }) pattern stands is types some most;
  }

  pub can_try : (m : MacroSyntax) (uncoded : Bool) (q : Parts) → m ≡ uncoded_syntax (decided r t) p → p.uncoded ≡ uncoded → ModeFits r.dims (place_for t) (mode_of t.context.now (uncoded_syntax (decided r t) p)) q
      → IsPlace (place_for t) r.dims
      → ((mode_of t.context.now (uncoded_syntax (decided r t) p)).forward ≡ true → (l : Lines) → IsReference t.context.now.extension.structure l → HasNear ahead r.dims (place_for t) l)
      → (p.has_backward ≡ true → (l : Lines) → IsReference t.context.now.extension.structure l → HasNear behind r.dims (place_for t) l)
      → CanTry t r.dims ahead behind m uncoded
  unfolding uncoded_syntax
  can_try m uncoded q same bare fits lies near_ahead near_behind =
      let x = uncoded_syntax (decided r t) p in
      let mode = mode_of t.context.now x in
      let place = place_for t in
      subst (λ (y : MacroSyntax). CanTry t r.dims ahead behind y uncoded) (sym same) (record {
        code = code;
        macro = λ e. uncoded_macro (decided r t) task.asked.own t.first (first_step t r task) p stands (bare ∙ e);
        pattern = refl;
        predict = record {
          some = mode_some t.context.now x refl;
          lies = lies;
          inside = fits_inside r.dims place mode q fits;
          forward = λ e. fits_forward ahead r.dims place (near_ahead e) mode q fits e;
          backward = λ e. fits_backward behind r.dims place (near_behind (mode_backward t.context.now x refl e)) mode q fits e;
          told = mode_backward t.context.now x refl;
        };
      })

-- ---- syntax

told_same : (told : Bool) (a b : Direction) → (told ≡ true → a ≡ b) → cond told a no_vectors ≡ cond told b no_vectors
told_same true a b e = e refl
told_same false a b e = refl

pub moving_is : (t : Task) (r : References) (form : ℕ) (hf hb : Bool) (a b f g : Direction) → IsTask t → (hf ≡ true → a ≡ f) → (hb ≡ true → b ≡ g)
    → moving_syntax t.increment form hf hb a b ≡ uncoded_syntax (decided r t) (prediction form hf hb f g)
unfolding moving_syntax uncoded_syntax
moving_is t r form hf hb a b f g task p q =
    λ i. macro_of (task.increment r i) (record { quant = false; forward = hf; backward = hb; pattern = false; intra = false }) form false 0 (told_same hf a f p i) (told_same hb b g q i) 0

pub moving_backward : (increment form : ℕ) (hf hb : Bool) (a b : Direction) → (moving_syntax increment form hf hb a b).kind.backward ≡ hb
unfolding moving_syntax
moving_backward increment form hf hb a b = refl

pub moving_pattern : (increment form : ℕ) (hf hb : Bool) (a b : Direction) → (moving_syntax increment form hf hb a b).pattern ≡ 0
unfolding moving_syntax
moving_pattern increment form hf hb a b = refl

-- the motion type of one vector isn't dual prime
pub plain_single : (c : PictureContext) (form : ℕ) → form ≡ plain_form c → form ≢ 3
unfolding plain_form
plain_single c form same = by_test (is_field c) form same
  where
    by_test : (field : Bool) (n : ℕ) → n ≡ (if field then 1 else 2) → n ≢ 3
    by_test true n e = λ three. omega (arith, e, three)
    by_test false n e = λ three. omega (arith, e, three)

pub zero_is : (t : Task) (r : References) (form : ℕ) (a b : Direction) → IsTask t → form ≡ no_form t.context.now
    → moving_syntax t.increment form false false a b ≡ uncoded_syntax (decided r t) (zero_prediction (decided r t))
unfolding moving_syntax uncoded_syntax
zero_is t r form a b task same =
    λ i. macro_of (task.increment r i) (record { quant = false; forward = false; backward = false; pattern = false; intra = false }) (same i) false 0 no_vectors no_vectors 0

pub still_is : (t : Task) (r : References) (form : ℕ) (hf hb : Bool) (a b : Direction) → IsTask t → form ≡ plain_form t.context.now
    → hf ≡ nat_eq t.context.now.kind 2 → hb ≡ nat_eq t.context.now.kind 3 → a ≡ still_vector t.context.now → b ≡ still_vector t.context.now
    → moving_syntax t.increment form hf hb a b ≡ uncoded_syntax (decided r t) (still_prediction t.context.now)
unfolding moving_syntax uncoded_syntax still_prediction
still_is t r form hf hb a b task same is_p is_b p q =
    λ i. macro_of (task.increment r i) (record { quant = false; forward = is_p i; backward = is_b i; pattern = false; intra = false }) (same i) false 0 (cond (is_p i) (p i) no_vectors) (cond (is_b i) (q i) no_vectors) 0

still_bare : (c : PictureContext) → (still_prediction c).uncoded ≡ true
unfolding still_prediction
still_bare c = refl

back_kind : (c : PictureContext) → (c.kind ≡ 2) ⊎ (c.kind ≡ 3) → (still_prediction c).has_backward ≡ true → c.kind ≡ 3
unfolding still_prediction
back_kind c kind e = eqb-true c.kind 3 e

goes_some : (kind : ℕ) (hf hb : Bool) → Goes kind hf hb → (hf || hb) ≡ true
goes_some kind hf hb (inl (k, (f, b))) = rw f refl
goes_some kind hf hb (inr (k, e)) = e

goes_back : (kind : ℕ) (hf hb : Bool) → Goes kind hf hb → hb ≡ true → kind ≡ 3
goes_back kind hf hb (inl (k, (f, b))) e = absurd cc
goes_back kind hf hb (inr (k, some)) e = k

module _ (t : Task) (r : References) (ahead behind : Plane → Lines → ℕ → Type 0) (task : IsTask t) (other : Dims) (refs : AreReferences t.context.now.kind (place_for t) r.dims other ahead behind)
    (size : IsSize r.dims) (moves : t.context.now.kind ≢ 1) where
  near_behind : t.context.now.kind ≡ 3 → (l : Lines) → IsReference t.context.now.extension.structure l → HasNear behind r.dims (place_for t) l
  near_behind three l is = subst (λ (d : Dims). HasNear behind d (place_for t) l) (refs.sizes three) ((refs.backward three).near l is)

  pub plain_can : (form : ℕ) (hf hb : Bool) (a b : Direction) → form ≡ plain_form t.context.now → Goes t.context.now.kind hf hb
      → a ≡ plain_direction (decided r t) r.forward → (t.context.now.kind ≡ 3 → b ≡ plain_direction (decided r t) r.backward)
      → CanTry t r.dims ahead behind (moving_syntax t.increment form hf hb a b) true
  plain_can form hf hb a b same goes p q =
      let d = decided r t in
      let back = goes_back t.context.now.kind hf hb goes in
      let x = prediction (plain_form t.context.now) hf hb (plain_direction d d.forward) (plain_direction d d.backward) in
      let read = refs.forward moves in
      can_try t r ahead behind task x (plain_told_one d task.asked.own task.asked.bounds.search hf hb goes) (moving_syntax t.increment form hf hb a b) true One
      (ap (λ (f : ℕ). moving_syntax t.increment f hf hb a b) same ∙ moving_is t r (plain_form t.context.now) hf hb a b (plain_direction d d.forward) (plain_direction d d.backward) task (λ e. p) (λ e. q (back e)))
      refl (plain_fits d size read.lies task.asked.bounds.search hf hb (goes_some t.context.now.kind hf hb goes)) read.lies (λ e. read.near) (λ e. near_behind (back e))

  pub fields_can : (hf hb : Bool) (a b : Direction) → has_dct_type (decided r t) ≡ true → t.context.now.extension.structure ≡ 3 → Goes t.context.now.kind hf hb
      → a ≡ field_direction (decided r t) r.forward → (t.context.now.kind ≡ 3 → b ≡ field_direction (decided r t) r.backward)
      → CanTry t r.dims ahead behind (moving_syntax t.increment 1 hf hb a b) true
  fields_can hf hb a b has frame goes p q =
      let d = decided r t in
      let back = goes_back t.context.now.kind hf hb goes in
      let x = prediction 1 hf hb (field_direction d d.forward) (field_direction d d.backward) in
      let read = refs.forward moves in
      can_try t r ahead behind task x (fields_one d task.asked.own task.asked.bounds.search has hf hb goes) (moving_syntax t.increment 1 hf hb a b) true Fields
      (moving_is t r 1 hf hb a b (field_direction d d.forward) (field_direction d d.backward) task (λ e. p) (λ e. q (back e)))
      refl (fields_fit d size read.lies task.asked.bounds.search hf hb (goes_some t.context.now.kind hf hb goes) frame) read.lies (λ e. read.near) (λ e. near_behind (back e))

pub zero_code : (t : Task) → IsTask t → (form : ℕ) (a b : Direction) → form ≡ no_form t.context.now → t.context.now.kind ≡ 2 → CanCode t (moving_syntax t.increment form false false a b)
zero_code t task form a b same two =
    let r = no_references in
    let d = decided r t in
    let none = λ (plane : Plane) (lines : Lines) (line : ℕ). ⊤ in
    subst (CanCode t) (sym (zero_is t r form a b task same)) (code t r none none task (zero_prediction d) (zero_one d task.asked.own two))

-- by vector zero nothing is searched
module _ (t : Task) (r : References) (ahead behind : Plane → Lines → ℕ → Type 0) (task : IsTask t) (other : Dims) (refs : AreReferences t.context.now.kind (place_for t) r.dims other ahead behind) where
  pub still_can : (form : ℕ) (hf hb : Bool) (a b : Direction) → form ≡ plain_form t.context.now → (t.context.now.kind ≡ 2) ⊎ (t.context.now.kind ≡ 3)
      → hf ≡ nat_eq t.context.now.kind 2 → hb ≡ nat_eq t.context.now.kind 3 → a ≡ still_vector t.context.now → b ≡ still_vector t.context.now
      → CanTry t r.dims ahead behind (moving_syntax t.increment form hf hb a b) true
  still_can form hf hb a b same kind is_p is_b p q =
      let d = decided r t in
      let read = refs.forward (λ one. moves kind one) in
      can_try t r ahead behind task (still_prediction t.context.now) (still_prediction_stands d task.asked.own kind) (moving_syntax t.increment form hf hb a b) true One
      (still_is t r form hf hb a b task same is_p is_b p q)
      (still_bare t.context.now) (still_prediction_fits d read.lies kind) read.lies (λ e. read.near) (λ e. still_back (back_kind t.context.now kind e))
    where
      moves : (t.context.now.kind ≡ 2) ⊎ (t.context.now.kind ≡ 3) → t.context.now.kind ≡ 1 → ⊥
      moves (inl e) one = omega (arith, e, one)
      moves (inr e) one = omega (arith, e, one)

      still_back : t.context.now.kind ≡ 3 → (l : Lines) → IsReference t.context.now.extension.structure l → HasNear behind r.dims (place_for t) l
      still_back three l is = subst (λ (x : Dims). HasNear behind x (place_for t) l) (refs.sizes three) ((refs.backward three).near l is)

-- ---- in order

nothing : (xs : List Candidate) → xs ≡ xs ++ []
nothing [] = refl
nothing (x ∷ xs) = ap (λ (ys : List Candidate). x ∷ ys) (nothing xs)

module _ (d : Decision) (form : ℕ) (f b : Direction) where
  pub one_direction : (old new : Best) → nat_eq d.context.kind 2 ≡ true → Tried d old new (by_prediction d (prediction form true false f b)) → Tried d old new (flat_map (by_prediction d) (predictions_by d form f b))
  unfolding predictions_by
  one_direction old new e tried =
      let ahead = prediction form true false f b in
      first_of (λ (ps : List Prediction). Tried d old new (flat_map (by_prediction d) ps)) (nat_eq d.context.kind 2) (ahead ∷ []) (ahead ∷ prediction form false true f b ∷ prediction form true true f b ∷ []) e
      (subst (Tried d old new) (nothing (by_prediction d ahead)) tried)

  pub three_directions : (a m n z : Best) → nat_eq d.context.kind 2 ≡ false → Tried d a m (by_prediction d (prediction form true false f b)) → Tried d m n (by_prediction d (prediction form false true f b))
      → Tried d n z (by_prediction d (prediction form true true f b)) → Tried d a z (flat_map (by_prediction d) (predictions_by d form f b))
  unfolding predictions_by
  three_directions a m n z e p q s =
      let x = prediction form true false f b in
      let y = prediction form false true f b in
      let w = prediction form true true f b in
      second_of (λ (ps : List Prediction). Tried d a z (flat_map (by_prediction d) ps)) (nat_eq d.context.kind 2) (x ∷ []) (x ∷ y ∷ w ∷ []) e
      (tried_on d a m z (by_prediction d x) (by_prediction d y ++ (by_prediction d w ++ [])) p
      (tried_on d m n z (by_prediction d y) (by_prediction d w ++ []) q (subst (Tried d n z) (nothing (by_prediction d w)) s)))

module _ (d : Decision) where
  pub zero_tried : (old new : Best) → nat_eq d.context.kind 2 ≡ true → Tried d old new (by_prediction d (zero_prediction d))
      → Tried d old new (flat_map (by_prediction d) (cond (nat_eq d.context.kind 2) (zero_prediction d ∷ []) []))
  zero_tried old new e tried =
      first_of (λ (ps : List Prediction). Tried d old new (flat_map (by_prediction d) ps)) (nat_eq d.context.kind 2) (zero_prediction d ∷ []) [] e
      (subst (Tried d old new) (nothing (by_prediction d (zero_prediction d))) tried)

  pub nothing_tried : (b : Bool) (ps : List Prediction) (old : Best) → b ≡ false → IsRated d old → Tried d old old (flat_map (by_prediction d) (cond b ps []))
  nothing_tried b ps old e rated = second_of (λ (qs : List Prediction). Tried d old old (flat_map (by_prediction d) qs)) b ps [] e (tried_none d old rated)

  pub fields_tried : (b : Bool) (ps : List Prediction) (old new : Best) → b ≡ true → Tried d old new (flat_map (by_prediction d) ps) → Tried d old new (flat_map (by_prediction d) (cond b ps []))
  fields_tried b ps old new e tried = first_of (λ (qs : List Prediction). Tried d old new (flat_map (by_prediction d) qs)) b ps [] e tried

  pub no_later_tried : (old : Best) → d.context.kind ≡ 1 → IsRated d old → Tried d old old (flat_map (by_prediction d) (later_predictions d))
  unfolding later_predictions
  no_later_tried old one rated =
      first_of (λ (ps : List Prediction). Tried d old old (flat_map (by_prediction d) ps)) (nat_eq d.context.kind 1) []
      (predictions_by d (plain_form d.context) (plain_direction d d.forward) (plain_direction d d.backward) ++ cond (has_dct_type d) (predictions_by d 1 (field_direction d d.forward) (field_direction d d.backward)) [])
      (eq-eqb d.context.kind 1 one) (tried_none d old rated)

  pub later_tried : (a m z : Best) → nat_eq d.context.kind 1 ≡ false
      → Tried d a m (flat_map (by_prediction d) (predictions_by d (plain_form d.context) (plain_direction d d.forward) (plain_direction d d.backward)))
      → Tried d m z (flat_map (by_prediction d) (cond (has_dct_type d) (predictions_by d 1 (field_direction d d.forward) (field_direction d d.backward)) []))
      → Tried d a z (flat_map (by_prediction d) (later_predictions d))
  unfolding later_predictions
  later_tried a m z e p q =
      let f = by_prediction d in
      let y = predictions_by d (plain_form d.context) (plain_direction d d.forward) (plain_direction d d.backward) in
      let w = cond (has_dct_type d) (predictions_by d 1 (field_direction d d.forward) (field_direction d d.backward)) [] in
      second_of (λ (ps : List Prediction). Tried d a z (flat_map f ps)) (nat_eq d.context.kind 1) [] (y ++ w) e
      (subst (Tried d a z) (sym (flat_map-append f y w)) (tried_on d a m z (flat_map f y) (flat_map f w) p q))

pub zero_bare : (d : Decision) → (zero_prediction d).uncoded ≡ false
zero_bare d = refl

-- dct_type stands in frames alone
pub frame_of : (c : PictureContext) → has_types c ≡ true → c.extension.structure ≡ 3
frame_of c e = by_tests (nat_eq c.extension.structure 3) refl
  where
    by_tests : (b : Bool) → nat_eq c.extension.structure 3 ≡ b → c.extension.structure ≡ 3
    by_tests true is = eqb-true c.extension.structure 3 is
    by_tests false is = let no : has_types c ≡ false = rw is refl in absurd cc
