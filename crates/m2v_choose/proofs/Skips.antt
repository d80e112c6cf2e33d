-- A skipped macroblock's prediction.
use Rattle.std.proofs.Common.{◌≡◌, ℕ, ◌<◌, ◌≤◌, Bool, true, false, cond, ◌&&◌, ◌||◌, not, ◌⊎◌, inl, inr, List, [], ◌∷◌, ◌++◌, ◌+◌, filter, append_assoc, refl, ap, sym, ◌∙◌, subst, arith, ℤ}
use Rattle.std.specs.Prelude.{nat_eq, unsigned_abs, map}
use Rattle.std.specs.List.{flat_map}
use Rattle.std.proofs.lemmas.Int.{ints}
use Rattle.std.proofs.lemmas.Bool.{and_parts, eqb-true, ne_eqb, not-true, true≢false}
use Rattle.std.proofs.lemmas.Grind.{flat_map-append}
use Rattle.m2v_plane.specs.declared.dims.Dims.{Dims}
use Rattle.m2v_plane.specs.declared.planes.Plane.{Plane}
use Rattle.m2v_plane.specs.declared.planes.Lines.{Lines}
use Rattle.m2v_vector.specs.Predictors.{number_of}
use Rattle.m2v_macro.specs.declared.values.PictureContext.{PictureContext}
use Rattle.m2v_pred.specs.declared.mode.Mode.{Mode}
use Rattle.m2v_pred.specs.declared.mode.MbPlace.{MbPlace}
use Rattle.m2v_pred.specs.declared.source.Parts.TheVariants.{One}
use Rattle.m2v_pred.specs.Motion.{own_source, own_lines, parts_of}
use Rattle.m2v_pred.specs.Vectors.{IsPlace, IsInside, DirectionInside, HoldsRead}
use Rattle.m2v_pred.specs.Inside.{is_inside}
use Rattle.m2v_macroblock.specs.Modes.{zero_motion, without_motion_type, skipped_mode}
use Rattle.m2v_search.specs.Near.{HasNear}
use Rattle.m2v_search.specs.Least.{least}
use Rattle.m2v_choose.specs.declared.task.Task.{Task}
use Rattle.m2v_choose.specs.declared.trial.Best.{Best}
use Rattle.m2v_choose.specs.Decisions.{Decision, increment_of, Candidate, Prediction, place_of, skipped, has_dct_type}
use Rattle.m2v_choose.specs.Candidates.{may_skip, hold, codings, intra_by, by_prediction, plain_form, plain_direction, field_direction, predictions_by, zero_prediction, predictions, others}
use Rattle.m2v_choose.specs.Choice.{bits_taken, choice_of, samples_of, score, fits}
use Rattle.m2v_choose.specs.Own.{IsOwn, AreNear}
use Rattle.m2v_choose.specs.Laws.{Fits}
use Rattle.m2v_choose.proofs.Chosen.{choice_fits}
use Rattle.m2v_choose.proofs.Held.{hold_fits}
use Rattle.m2v_choose.specs.Trials.{References, decided, IsTask, IsReference, AreReferences, HasDirection, place_for, candidate_of, IsRated, Leader, leader_of, led, Tried, zero_predictions, later_predictions}
use Rattle.m2v_choose.proofs.Stands.{first_of, second_of}
use Rattle.m2v_choose.proofs.Stays.{SourceNear, direction_held}
use Rattle.m2v_choose.proofs.Inside.{fits_inside, fits_forward, zero_fits, plain_source, plain_parts, plain_single, only_part, own_near}
use Rattle.m2v_choose.proofs.Tried.{tried_on, tried_none}
use Rattle.m2v_choose.proofs.Leading.{led_on, swapped_on, led_least}

-- what a skipped macroblock's motion reads can be read
pub record SkipReads (kind : ℕ) (place : MbPlace) (d : Dims) (ahead behind : Plane → Lines → ℕ → Type 0) (mode : Mode) : Type 0 where
  pub some : (mode.forward ≡ true) ⊎ (mode.backward ≡ true)
  pub lies : IsPlace place d
  pub inside : IsInside mode place d
  pub forward : mode.forward ≡ true → HoldsRead ahead mode 0 place
  pub backward : mode.backward ≡ true → HoldsRead behind mode 1 place
  pub three : mode.backward ≡ true → kind ≡ 3

-- by near predictors
pub plain_held : (holds : Plane → Lines → ℕ → Type 0) (d : Dims) (place : MbPlace) (c : PictureContext) → place.structure ≡ c.extension.structure → (hf hb : Bool) (at : List (List (List ℤ))) → AreNear at
    → ((l : Lines) → IsReference c.extension.structure l → HasNear holds d place l) → (direction : ℕ) → direction < 2
    → DirectionInside (without_motion_type c hf hb at) direction place d → HoldsRead holds (without_motion_type c hf hb at) direction place
plain_held holds d place c same hf hb at small near direction lt inside =
    let mode = without_motion_type c hf hb at in
    let s = place.structure in
    let down = number_of at 0 direction 1 in
    let bounds = small 0 direction 1 in
    let few : unsigned_abs down ≤ 32 = omega (arith, ints, bounds.0, bounds.1) in
    let h = own_near s down few in
    let here : SourceNear holds d place One (record { lines = own_lines s; across = number_of at 0 direction 0; down = down }) =
    record { few = h.0; rows = h.1.0; near = near (own_lines s) (subst (λ (n : ℕ). IsReference n (own_lines s)) same h.1.1) } in
    direction_held holds d place mode direction One (subst (λ (n : ℕ). parts_of mode.form n ≡ One) (sym same) (plain_parts c hf hb at)) (λ e. absurd cc) (plain_single c hf hb at) inside
    (λ part below. subst (λ (k : ℕ). SourceNear holds d place One (own_source mode direction s k)) (only_part part below)
    (subst (SourceNear holds d place One) (source_at s same) here))
  where
    source_at : (n : ℕ) → n ≡ c.extension.structure → record { lines = own_lines n; across = number_of at 0 direction 0; down = number_of at 0 direction 1 } ≡ own_source (without_motion_type c hf hb at) direction n 0
    source_at n e = subst (λ (k : ℕ). record { lines = own_lines k; across = number_of at 0 direction 0; down = number_of at 0 direction 1 } ≡ own_source (without_motion_type c hf hb at) direction k 0) (sym e)
        (sym (plain_source c hf hb at direction lt))

one_of : (x y : Bool) → (x || y) ≡ true → (x ≡ true) ⊎ (y ≡ true)
one_of true y e = inl refl
one_of false y e = inr e

module _ (t : Task) (r : References) (ahead behind : Plane → Lines → ℕ → Type 0) (task : IsTask t) (other : Dims) (refs : AreReferences t.context.now.kind (place_for t) r.dims other ahead behind) where
  skip_two : t.context.now.kind ≡ 2 → SkipReads t.context.now.kind (place_for t) r.dims ahead behind (skipped_mode t.context.now t.state.now)
  unfolding skipped_mode without_motion_type
  skip_two two =
      let read = refs.forward (λ one. omega (arith, one, two)) in
      let fits = zero_fits (decided r t) read.lies in
      second_of (SkipReads t.context.now.kind (place_for t) r.dims ahead behind) (nat_eq t.context.now.kind 3)
      (without_motion_type t.context.now t.state.now.forward t.state.now.backward t.state.now.pmv.at) (zero_motion t.context.now) (rw two refl)
      (record {
        some = inl refl;
        lies = read.lies;
        inside = fits_inside r.dims (place_for t) (zero_motion t.context.now) One fits;
        forward = λ e. fits_forward ahead r.dims (place_for t) read.near (zero_motion t.context.now) One fits e;
        backward = λ e. absurd cc;
        three = λ e. absurd cc;
      })

  skip_three : t.context.now.kind ≡ 3 → (t.state.now.forward ≡ true) ⊎ (t.state.now.backward ≡ true) → IsInside (skipped_mode t.context.now t.state.now) (place_for t) r.dims
      → SkipReads t.context.now.kind (place_for t) r.dims ahead behind (skipped_mode t.context.now t.state.now)
  unfolding skipped_mode without_motion_type
  skip_three three some inside =
      let read = refs.forward (λ one. omega (arith, one, three)) in
      let c = t.context.now in
      let st = t.state.now in
      let near_behind = λ (l : Lines) (is : IsReference c.extension.structure l). subst (λ (x : Dims). HasNear behind x (place_for t) l) (refs.sizes three) ((refs.backward three).near l is) in
      first_of (λ (m : Mode). IsInside m (place_for t) r.dims → SkipReads c.kind (place_for t) r.dims ahead behind m) (nat_eq c.kind 3)
      (without_motion_type c st.forward st.backward st.pmv.at) (zero_motion c) (rw three refl)
      (λ is. record {
        some = some;
        lies = read.lies;
        inside = is;
        forward = λ e. plain_held ahead r.dims (place_for t) c refl st.forward st.backward st.pmv.at task.asked.state.predictors read.near 0 (omega arith) (is.forward e);
        backward = λ e. plain_held behind r.dims (place_for t) c refl st.forward st.backward st.pmv.at task.asked.state.predictors near_behind 1 (omega arith) (is.backward e);
        three = λ e. three;
      }) inside

  pub skip_reads : may_skip (decided r t) ≡ true → HasDirection t.context.now t.state.now t.limits.now
      → (t.context.now.kind ≡ 3 → IsInside (skipped_mode t.context.now t.state.now) (place_for t) r.dims)
      → SkipReads t.context.now.kind (place_for t) r.dims ahead behind (skipped_mode t.context.now t.state.now)
  unfolding may_skip
  skip_reads may told inside =
      let d = decided r t in
      let stays = is_inside (skipped_mode d.context d.state) (place_of d) d.dims in
      let h = and_parts (not d.limits.first && not d.limits.last) (nat_eq d.context.kind 2 || (nat_eq d.context.kind 3 && not d.state.intra && stays)) may in
      let first = not-true d.limits.first (and_parts (not d.limits.first) (not d.limits.last) h.0).0 in
      elim (one_of (nat_eq d.context.kind 2) (nat_eq d.context.kind 3 && not d.state.intra && stays) h.1) [
        | inl two ↦ skip_two (eqb-true d.context.kind 2 two)
        | inr is ↦
            let k = and_parts (nat_eq d.context.kind 3) (not d.state.intra) (and_parts (nat_eq d.context.kind 3 && not d.state.intra) stays is).0 in
            let three = eqb-true d.context.kind 3 k.0 in
            skip_three three (moved (not-true d.state.intra k.1) (told three first)) (inside three)
      ]
    where
      moved : t.state.now.intra ≡ false → (t.state.now.forward ≡ true) ⊎ ((t.state.now.backward ≡ true) ⊎ (t.state.now.intra ≡ true)) → (t.state.now.forward ≡ true) ⊎ (t.state.now.backward ≡ true)
      moved none (inl f) = inl f
      moved none (inr (inl b)) = inr b
      moved none (inr (inr i)) = absurd (true≢false (sym i ∙ none))

-- ---- in order

module _ (d : Decision) where
  pub skip_tried : (b : Bool) (old new : Best) → may_skip d ≡ b → b ≡ true → Tried d old new (skipped ∷ []) → Tried d old new (cond (may_skip d) (skipped ∷ []) [])
  skip_tried b old new same e tried = first_of (Tried d old new) (may_skip d) (skipped ∷ []) [] (same ∙ e) tried

  pub skip_left : (b : Bool) (old : Best) → may_skip d ≡ b → b ≡ false → IsRated d old → Tried d old old (cond (may_skip d) (skipped ∷ []) [])
  skip_left b old same e rated = second_of (Tried d old old) (may_skip d) (skipped ∷ []) [] (same ∙ e) (tried_none d old rated)

  -- the candidates behind hold by the order in which they are tried
  before_all : List Candidate
  before_all = cond (may_skip d) (skipped ∷ []) []

  earlier : List Candidate
  earlier = map (intra_by d) (codings d) ++ flat_map (by_prediction d) (zero_predictions d)

  later : List Candidate
  later = flat_map (by_prediction d) (later_predictions d)

  predictions_split : predictions d ≡ zero_predictions d ++ later_predictions d
  unfolding predictions later_predictions
  predictions_split =
      parts (nat_eq d.context.kind 1) (nat_eq d.context.kind 2) (zero_prediction d ∷ []) (predictions_by d (plain_form d.context) (plain_direction d d.forward) (plain_direction d d.backward))
      (cond (has_dct_type d) (predictions_by d 1 (field_direction d d.forward) (field_direction d d.backward)) [])
      (λ one. ne_eqb d.context.kind 2 (λ two. omega (arith, two, eqb-true d.context.kind 1 one)))
    where
      parts : (one two : Bool) (z y w : List Prediction) → (one ≡ true → two ≡ false) → cond one [] (cond two z [] ++ y ++ w) ≡ cond two z [] ++ cond one [] (y ++ w)
      parts true true z y w h = absurd (true≢false (h refl))
      parts true false z y w h = refl
      parts false true z y w h = append_assoc z y w
      parts false false z y w h = refl

  others_split : others d ≡ before_all ++ (earlier ++ later)
  unfolding others before_all earlier later
  others_split =
      let f = by_prediction d in
      let s = cond (may_skip d) (skipped ∷ []) [] in
      let i = map (intra_by d) (codings d) in
      let x = flat_map f (zero_predictions d) in
      let l = flat_map f (later_predictions d) in
      ap (λ (zs : List Candidate). s ++ i ++ zs) (ap (flat_map f) predictions_split ∙ flat_map-append f (zero_predictions d) (later_predictions d))
      ∙ append_assoc s i (x ++ l) ∙ ap (λ (zs : List Candidate). s ++ zs) (sym (append_assoc i x l))

  pub earlier_tried : (a m z : Best) → Tried d a m (map (intra_by d) (codings d)) → Tried d m z (flat_map (by_prediction d) (zero_predictions d))
      → Tried d a z (map (intra_by d) (codings d) ++ flat_map (by_prediction d) (zero_predictions d))
  earlier_tried a m z p q = tried_on d a m z (map (intra_by d) (codings d)) (flat_map (by_prediction d) (zero_predictions d)) p q

  module _ (h a p i : Best) (limit : ℕ) (held : candidate_of h.choice ≡ hold d) (scored : h.below ≡ score d (candidate_of h.choice))
      (skip : Tried d h a (cond (may_skip d) (skipped ∷ []) [])) (behind : Tried d a p (flat_map (by_prediction d) (later_predictions d)))
      (before : Tried d (record p { below = limit }) i (map (intra_by d) (codings d) ++ flat_map (by_prediction d) (zero_predictions d)))
      (most : limit ≤ a.below) (near : limit ≤ p.below + 1) (one : (limit ≡ a.below) ⊎ (limit ≡ p.below + 1)) where
    pub chosen_all : candidate_of i.choice ≡ choice_of d
    unfolding choice_of before_all earlier later
    chosen_all =
        let rest = earlier ++ later in
        swapped_on d (leader_of a) (leader_of p) (leader_of i) earlier later limit behind.best before.best most near one
        ∙ ap (λ (l : Leader). (led d l rest).candidate) skip.best ∙ ap (λ (l : Leader). l.candidate) (sym (led_on d (leader_of h) before_all rest))
        ∙ ap (λ (xs : List Candidate). (led d (leader_of h) xs).candidate) (sym others_split)
        ∙ (led_least d (leader_of h) (others d) scored).0
        ∙ ap (λ (x : Candidate). least (score d) x (filter (fits d) (others d))) held

    pub bits_all : i.choice.bits ≡ bits_taken d (choice_of d)
    bits_all = before.rated.bits ∙ ap (bits_taken d) chosen_all

    pub samples_all : i.choice.samples.at ≡ samples_of d (choice_of d)
    samples_all = before.rated.samples ∙ ap (samples_of d) chosen_all

-- ---- bits

-- hold is short enough where it has room, so the choice is
pub choice_short : (d : Decision) → IsOwn d.context → AreNear d.state.pmv.at → 1 ≤ increment_of d → increment_of d ≤ d.context.columns → bits_taken d (hold d) ≤ d.limits.room → Fits d (choice_of d)
choice_short d own near some most room =
    choice_fits d (record { most = omega (arith, hold_fits d own near (omega (arith, some)), most, own.columns.1); room = room })
