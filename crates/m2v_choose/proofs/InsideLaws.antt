-- What is chosen stays inside.
use Rattle.std.proofs.Common.{◌≡◌, ◌≢◌, ℕ, ◌≤◌, Bool, true, false, cond, ◌&&◌, ◌||◌, not, ◌⊎◌, inl, inr, All, List, [], ◌∷◌, ◌++◌, filter, map, refl, sym, subst, arith, ℤ}
use Rattle.std.specs.Prelude.{nat_eq, replicate}
use Rattle.std.specs.List.{flat_map}
use Rattle.std.proofs.lemmas.Bool.{cases_lt, and_parts, eqb-true}
use Rattle.std.proofs.lemmas.List.Elements.{All-nil, All-cons, All-append, All-map, All-filter}
use Rattle.m2v_plane.specs.Sizes.{IsSize}
use Rattle.m2v_macro.specs.declared.values.Direction.{Direction}
use Rattle.m2v_pred.specs.declared.mode.Mode.{Mode}
use Rattle.m2v_pred.specs.declared.source.Parts.{Parts}
use Rattle.m2v_pred.specs.declared.source.Parts.TheVariants.{One, Fields}
use Rattle.m2v_pred.specs.Vectors.{IsPlace}
use Rattle.m2v_pred.specs.Inside.{is_inside}
use Rattle.m2v_macroblock.specs.Modes.{mode_of, skipped_mode, zero_motion, told_mode, opposite_parity_vectors}
use Rattle.m2v_choose.specs.Decisions.{Decision, Prediction, Coding, place_of, has_dct_type, levels_by, pattern_of, skipped, written, no_levels, intra_syntax, uncoded_syntax, coded_syntax}
use Rattle.m2v_choose.specs.Candidates.{plain_direction, field_direction, plain_form, prediction, predictions_by, zero_prediction, predictions, still_prediction, held_intra, held_levels, hold, may_skip, codings, samples_by, intra_by, uncoded_by, coded_by, has_block, by_prediction, others}
use Rattle.m2v_choose.specs.Choice.{score, fits, choice_of}
use Rattle.m2v_choose.specs.Own.{IsOwn, AreLimits}
use Rattle.m2v_choose.specs.Laws.{StaysInside}
use Rattle.m2v_choose.proofs.Chosen.{either}
use Rattle.m2v_search.proofs.Products.{least_in}
use Rattle.m2v_search.proofs.Reached.{flat_all}
use Rattle.m2v_choose.proofs.Stands.{first_of, second_of, two_three}
use Rattle.m2v_choose.proofs.Inside.{ModeFits, fits_is_inside, zero_fits, zero_prediction_fits, plain_fits, fields_fit, still_prediction_fits}

-- the motion of a prediction stays inside
pub record Fits (d : Decision) (p : Prediction) : Type 0 where
  pub parts : Parts
  pub mode : ModeFits d.dims (place_of d) (mode_of d.context (uncoded_syntax d p)) parts

-- blocks change no motion
pub same_mode : (d : Decision) (p : Prediction) (k : Coding) (pattern : ℕ) → mode_of d.context (uncoded_syntax d p) ≡ mode_of d.context (coded_syntax d p k pattern)
unfolding mode_of told_mode opposite_parity_vectors uncoded_syntax coded_syntax
same_mode d p k pattern = refl

module _ (d : Decision) (size : IsSize d.dims) (place : IsPlace (place_of d) d.dims) (le : d.limits.search ≤ 15) where
  plain_one : (hf hb : Bool) → (hf || hb) ≡ true → Fits d (prediction (plain_form d.context) hf hb (plain_direction d d.forward) (plain_direction d d.backward))
  plain_one hf hb some = record { parts = One; mode = plain_fits d size place le hf hb some }

  by_fit : (form : ℕ) (f b : Direction) → ((hf hb : Bool) → (hf || hb) ≡ true → Fits d (prediction form hf hb f b)) → All (Fits d) (predictions_by d form f b)
  unfolding predictions_by
  by_fit form f b h =
      let P = Fits d in
      let ahead = prediction form true false f b in
      let behind = prediction form false true f b in
      let both = prediction form true true f b in
      either (All P) (nat_eq d.context.kind 2) (ahead ∷ []) (ahead ∷ behind ∷ both ∷ []) (All-cons P ahead [] (h true false refl) (All-nil P))
      (All-cons P ahead (behind ∷ both ∷ []) (h true false refl) (All-cons P behind (both ∷ []) (h false true refl) (All-cons P both [] (h true true refl) (All-nil P))))

  where_fits : (b : Bool) (xs : List Prediction) → (b ≡ true → All (Fits d) xs) → All (Fits d) (cond b xs [])
  where_fits true xs h = h refl
  where_fits false xs h = All-nil (Fits d)

  frame_if : has_dct_type d ≡ true → d.context.extension.structure ≡ 3
  frame_if e =
      let h = and_parts (not (not (nat_eq d.context.extension.structure 3))) (not d.context.extension.frame_pred_frame_dct) e in
      eqb-true d.context.extension.structure 3 (twice (nat_eq d.context.extension.structure 3) h.0)
    where
      twice : (b : Bool) → not (not b) ≡ true → b ≡ true
      twice true is = refl
      twice false is = absurd cc

  moving_fit : All (Fits d)
      (cond (nat_eq d.context.kind 2) (zero_prediction d ∷ []) []
      ++ predictions_by d (plain_form d.context) (plain_direction d d.forward) (plain_direction d d.backward)
      ++ cond (has_dct_type d) (predictions_by d 1 (field_direction d d.forward) (field_direction d d.backward)) [])
  moving_fit =
      let P = Fits d in
      let still = cond (nat_eq d.context.kind 2) (zero_prediction d ∷ []) [] in
      let plain = predictions_by d (plain_form d.context) (plain_direction d d.forward) (plain_direction d d.backward) in
      let fields = predictions_by d 1 (field_direction d d.forward) (field_direction d d.backward) in
      let zero : P (zero_prediction d) = record { parts = One; mode = zero_prediction_fits d place } in
      All-append P (still ++ plain) (cond (has_dct_type d) fields [])
      (All-append P still plain (where_fits (nat_eq d.context.kind 2) (zero_prediction d ∷ []) (λ e. All-cons P (zero_prediction d) [] zero (All-nil P)))
      (by_fit (plain_form d.context) (plain_direction d d.forward) (plain_direction d d.backward) plain_one))
      (where_fits (has_dct_type d) fields (λ e. by_fit 1 (field_direction d d.forward) (field_direction d d.backward)
      (λ hf hb some. record { parts = Fields; mode = fields_fit d size place le hf hb some (frame_if e) })))

  pub predictions_fit : All (Fits d) (predictions d)
  unfolding predictions
  predictions_fit =
      let moving = cond (nat_eq d.context.kind 2) (zero_prediction d ∷ []) []
      ++ predictions_by d (plain_form d.context) (plain_direction d d.forward) (plain_direction d d.backward)
      ++ cond (has_dct_type d) (predictions_by d 1 (field_direction d d.forward) (field_direction d d.backward)) [] in
      either (All (Fits d)) (nat_eq d.context.kind 1) [] moving (All-nil (Fits d)) moving_fit

-- ---- candidates

pub no_predictions : (d : Decision) → d.context.kind ≡ 1 → predictions d ≡ []
unfolding predictions
no_predictions d e = rw e refl

module _ (d : Decision) where
  intra_inside : (k : Coding) (ls : List (List ℤ)) → StaysInside d (written (intra_syntax d k) ls)
  unfolding mode_of intra_syntax is_inside
  intra_inside k ls = refl

  prediction_inside : (p : Prediction) → Fits d p → All (StaysInside d) (by_prediction d p)
  unfolding by_prediction uncoded_by coded_by
  prediction_inside p h =
      let P = StaysInside d in
      let inside = fits_is_inside d.dims (place_of d) (mode_of d.context (uncoded_syntax d p)) h.parts h.mode in
      let bare = written (uncoded_syntax d p) no_levels in
      All-append P (cond p.uncoded (bare ∷ []) []) (filter has_block (map (coded_by d p) (codings d)))
      (either (All P) p.uncoded (bare ∷ []) [] (All-cons P bare [] inside (All-nil P)) (All-nil P))
      (All-filter has_block P (map (coded_by d p) (codings d))
      (All-map P (coded_by d p) (codings d) (each (codings d) (λ k. subst (λ (m : Mode). is_inside m (place_of d) d.dims ≡ true) (same_mode d p k (pattern_of (levels_by d (samples_by d p) false k))) inside))))
    where
      each : {Q : Coding → Type 0} (ks : List Coding) → ((k : Coding) → Q k) → All Q ks
      each {Q = Q} [] h1 = All-nil Q
      each {Q = Q} (k ∷ ks) h1 = All-cons Q k ks (h1 k) (each ks h1)

  intra_all : All (StaysInside d) (map (intra_by d) (codings d))
  unfolding intra_by
  intra_all = All-map (StaysInside d) (intra_by d) (codings d) (each (codings d))
    where
      each : (ks : List Coding) → All (λ k. StaysInside d (intra_by d k)) ks
      each [] = All-nil (λ k. StaysInside d (intra_by d k))
      each (k ∷ ks) = All-cons (λ k1. StaysInside d (intra_by d k1)) k ks (intra_inside k (levels_by d (replicate 384 0) true k)) (each ks)

  one_of : (x y : Bool) → (x || y) ≡ true → (x ≡ true) ⊎ (y ≡ true)
  one_of true y e = inl refl
  one_of false y e = inr e

  -- where it may be skipped
  skip_inside : (d.context.kind ≡ 2 → IsPlace (place_of d) d.dims) → may_skip d ≡ true → StaysInside d skipped
  unfolding may_skip skipped_mode
  skip_inside place e =
      let inside = is_inside (skipped_mode d.context d.state) (place_of d) d.dims in
      let h = and_parts (not d.limits.first && not d.limits.last) (nat_eq d.context.kind 2 || (nat_eq d.context.kind 3 && not d.state.intra && inside)) e in
      elim (one_of (nat_eq d.context.kind 2) (nat_eq d.context.kind 3 && not d.state.intra && inside) h.1) [
        | inl two ↦
            let kind = eqb-true d.context.kind 2 two in
            second_of (λ (m : Mode). is_inside m (place_of d) d.dims ≡ true) (nat_eq d.context.kind 3) _ (zero_motion d.context) (rw kind refl)
            (fits_is_inside d.dims (place_of d) (zero_motion d.context) One (zero_fits d (place kind)))
        | inr three ↦ (and_parts (nat_eq d.context.kind 3 && not d.state.intra) inside three).1
      ]

  skip_all : (d.context.kind ≡ 2 → IsPlace (place_of d) d.dims) → (b : Bool) → may_skip d ≡ b → All (StaysInside d) (cond b (skipped ∷ []) [])
  skip_all place true e = All-cons (StaysInside d) skipped [] (skip_inside place e) (All-nil (StaysInside d))
  skip_all place false e = All-nil (StaysInside d)

  others_inside : (d.context.kind ≡ 2 → IsPlace (place_of d) d.dims) → All (Fits d) (predictions d) → All (StaysInside d) (others d)
  unfolding others
  others_inside place fit =
      let P = StaysInside d in
      let skip = cond (may_skip d) (skipped ∷ []) [] in
      let intra = map (intra_by d) (codings d) in
      All-append P (skip ++ intra) (flat_map (by_prediction d) (predictions d)) (All-append P skip intra (skip_all place (may_skip d) refl) intra_all)
      (flat_all P (Fits d) (by_prediction d) prediction_inside (predictions d) fit)

  chosen_inside : (d.context.kind ≡ 2 → IsPlace (place_of d) d.dims) → All (Fits d) (predictions d) → StaysInside d (hold d) → StaysInside d (choice_of d)
  unfolding choice_of
  chosen_inside place fit held =
      least_in (StaysInside d) (score d) (hold d) (filter (fits d) (others d)) held (All-filter (fits d) (StaysInside d) (others d) (others_inside place fit))

pub choice_inside : (d : Decision) → IsOwn d.context → AreLimits d.limits → (d.context.kind ≢ 1 → IsSize d.dims × IsPlace (place_of d) d.dims) → StaysInside d (choice_of d)
unfolding hold
choice_inside d own limits read = elim (cases_lt d.context.kind 2) [
  | inl less ↦
      let one : d.context.kind ≡ 1 = omega (arith, less, own.kind.0) in
      let k : Coding = record { q = d.state.quantiser; dct_field = false } in
      chosen_inside d (λ two. absurd (omega (arith, one, two))) (subst (All (Fits d)) (sym (no_predictions d one)) (All-nil (Fits d)))
      (first_of (StaysInside d) (nat_eq d.context.kind 1) (written (held_intra d) (held_levels d)) (written (uncoded_syntax d (still_prediction d.context)) no_levels) (rw one refl)
      (intra_inside d k (held_levels d)))
  | inr more ↦
      let h = read (λ one. omega (arith, one, more)) in
      let kind = two_three d.context.kind more own.kind.1 in
      let p = still_prediction d.context in
      let still = fits_is_inside d.dims (place_of d) (mode_of d.context (uncoded_syntax d p)) One (still_prediction_fits d h.1 kind) in
      chosen_inside d (λ two. h.1) (predictions_fit d h.0 h.1 limits.search)
      (second_of (StaysInside d) (nat_eq d.context.kind 1) (written (held_intra d) (held_levels d)) (written (uncoded_syntax d p) no_levels) (other kind) still)
]
  where
    other : (d.context.kind ≡ 2) ⊎ (d.context.kind ≡ 3) → nat_eq d.context.kind 1 ≡ false
    other (inl e) = rw e refl
    other (inr e) = rw e refl
