-- The motion of a choice reads what the references hold.
use Rattle.std.proofs.Common.{◌≡◌, ◌≢◌, ℕ, ◌≤◌, Bool, true, false, cond, ◌⊎◌, inl, inr, All, List, [], ◌∷◌, ◌++◌, filter, map, refl, sym, subst, arith, ℤ}
use Rattle.std.specs.Prelude.{nat_eq, if◌then◌else◌}
use Rattle.std.specs.List.{flat_map}
use Rattle.std.proofs.lemmas.List.Elements.{All-nil, All-cons, All-append, All-map, All-filter}
use Rattle.std.proofs.lemmas.Bool.{cases_lt, eqb-false}
use Rattle.m2v_macroblock.specs.m2v_vlc.declared.values.MbType.{MbType}
use Rattle.m2v_plane.specs.declared.dims.Dims.{Dims}
use Rattle.m2v_plane.specs.declared.planes.Plane.{Plane}
use Rattle.m2v_plane.specs.declared.planes.Lines.{Lines}
use Rattle.m2v_plane.specs.Sizes.{IsSize}
use Rattle.m2v_macroblock.specs.m2v_macro.declared.values.MacroSyntax.{MacroSyntax}
use Rattle.m2v_macroblock.specs.m2v_macro.declared.values.PictureContext.{PictureContext}
use Rattle.m2v_macroblock.specs.m2v_macro.Conditions.{has_type}
use Rattle.m2v_pred.specs.declared.mode.Mode.{Mode}
use Rattle.m2v_pred.specs.declared.source.Parts.{Parts}
use Rattle.m2v_pred.specs.declared.source.Parts.TheVariants.{One}
use Rattle.m2v_pred.specs.Vectors.{IsPlace, IsInside}
use Rattle.m2v_pred.specs.Inside.{is_inside}
use Rattle.m2v_pred.proofs.Tested.{inside_is}
use Rattle.m2v_macroblock.specs.Modes.{mode_of, told_mode, without_motion_type, zero_motion, skipped_mode}
use Rattle.m2v_choose.specs.m2v_search.Near.{HasNear}
use Rattle.m2v_choose.specs.Decisions.{Decision, Candidate, Prediction, Coding, pattern_of, place_of, skipped, written, no_levels, levels_by, uncoded_syntax, intra_syntax}
use Rattle.m2v_choose.specs.Candidates.{held_intra, held_levels, hold, still_prediction, may_skip, codings, predictions, intra_by, uncoded_by, coded_by, has_block, samples_by, by_prediction, others}
use Rattle.m2v_choose.specs.Choice.{score, fits, choice_of}
use Rattle.m2v_choose.specs.Own.{IsOwn, IsOwnState, AreLimits}
use Rattle.m2v_choose.specs.Laws.{IsWritable}
use Rattle.m2v_choose.specs.Trials.{IsReference}
use Rattle.m2v_choose.proofs.m2v_search.Products.{least_in}
use Rattle.m2v_choose.proofs.m2v_search.Reached.{flat_all}
use Rattle.m2v_choose.proofs.Chosen.{either}
use Rattle.m2v_choose.proofs.Stands.{first_of, second_of, two_three}
use Rattle.m2v_choose.proofs.Inside.{ModeFits, fits_inside, fits_forward, fits_backward, zero_fits, still_prediction_fits}
use Rattle.m2v_choose.proofs.InsideLaws.{Fits, same_mode, predictions_fit, no_predictions}
use Rattle.m2v_choose.proofs.Skips.{plain_held}
use Rattle.m2v_slice.specs.Steps.{HasReferences, CanPredict}
use Rattle.m2v_slice.proofs.Choices.{all_of}

-- ---- motion of the candidates

-- the motion of a candidate that isn't intra stays inside
StaysIn : Decision → Candidate → Type 0
StaysIn d x = x.skip ≡ false → x.macroblock.syntax.kind.intra ≡ false → (q : Parts) × ModeFits d.dims (place_of d) (mode_of d.context x.macroblock.syntax) q

module _ (d : Decision) where
  uncoded_in : (p : Prediction) → Fits d p → StaysIn d (written (uncoded_syntax d p) no_levels)
  unfolding StaysIn
  uncoded_in p h = λ told other. (h.parts, h.mode)

  coded_in : (p : Prediction) (k : Coding) → Fits d p → StaysIn d (coded_by d p k)
  unfolding StaysIn coded_by
  coded_in p k h = λ told other.
      (h.parts, subst (λ (m : Mode). ModeFits d.dims (place_of d) m h.parts) (same_mode d p k (pattern_of (levels_by d (samples_by d p) false k))) h.mode)

  intra_in : (k : Coding) (ls : List (List ℤ)) → StaysIn d (written (intra_syntax d k) ls)
  unfolding StaysIn intra_syntax
  intra_in k ls = λ told other. absurd cc

  intra_by_in : (k : Coding) → StaysIn d (intra_by d k)
  unfolding intra_by
  intra_by_in k = intra_in k _

  skipped_in : StaysIn d skipped
  unfolding StaysIn
  skipped_in = λ told other. absurd cc

  prediction_in : (p : Prediction) → Fits d p → All (StaysIn d) (by_prediction d p)
  unfolding by_prediction uncoded_by
  prediction_in p h =
      let P = StaysIn d in
      let bare = written (uncoded_syntax d p) no_levels in
      All-append P (cond p.uncoded (bare ∷ []) []) (filter has_block (map (coded_by d p) (codings d)))
      (either (All P) p.uncoded (bare ∷ []) [] (All-cons P bare [] (uncoded_in p h) (All-nil P)) (All-nil P))
      (All-filter has_block P (map (coded_by d p) (codings d)) (All-map P (coded_by d p) (codings d) (all_of (λ k. P (coded_by d p k)) (λ k. coded_in p k h) (codings d))))

  others_in : All (Fits d) (predictions d) → All (StaysIn d) (others d)
  unfolding others
  others_in fit =
      let P = StaysIn d in
      let skip = cond (may_skip d) (skipped ∷ []) [] in
      let intra = map (intra_by d) (codings d) in
      All-append P (skip ++ intra) (flat_map (by_prediction d) (predictions d))
      (All-append P skip intra (either (All P) (may_skip d) (skipped ∷ []) [] (All-cons P skipped [] skipped_in (All-nil P)) (All-nil P))
      (All-map P (intra_by d) (codings d) (all_of (λ k. P (intra_by d k)) intra_by_in (codings d))))
      (flat_all P (Fits d) (by_prediction d) prediction_in (predictions d) fit)

  hold_in : (d.context.kind ≢ 1 → Fits d (still_prediction d.context)) → StaysIn d (hold d)
  unfolding hold
  hold_in fit = elim (nat_eq d.context.kind 1) as (λ b. nat_eq d.context.kind 1 ≡ b → StaysIn d (if b then written (held_intra d) (held_levels d) else written (uncoded_syntax d (still_prediction d.context)) no_levels)) [
    | true ↦ λ e. intra_in (record { q = d.state.quantiser; dct_field = false }) (held_levels d)
    | false ↦ λ e. uncoded_in (still_prediction d.context) (fit (eqb-false d.context.kind 1 e))
  ] refl

  choice_in : All (Fits d) (predictions d) → (d.context.kind ≢ 1 → Fits d (still_prediction d.context)) → StaysIn d (choice_of d)
  unfolding choice_of
  choice_in fit still =
      least_in (StaysIn d) (score d) (hold d) (filter (fits d) (others d)) (hold_in still) (All-filter (fits d) (StaysIn d) (others d) (others_in fit))

choice_stays : (d : Decision) → IsOwn d.context → AreLimits d.limits → (d.context.kind ≢ 1 → IsSize d.dims × IsPlace (place_of d) d.dims) → StaysIn d (choice_of d)
choice_stays d own limits read = elim (cases_lt d.context.kind 2) [
  | inl less ↦
      let one : d.context.kind ≡ 1 = omega (arith, less, own.kind.0) in
      choice_in d (subst (All (Fits d)) (sym (no_predictions d one)) (All-nil (Fits d))) (λ other. absurd (other one))
  | inr more ↦
      let h = read (λ one. omega (arith, one, more)) in
      choice_in d (predictions_fit d h.0 h.1 limits.search)
      (λ other. record { parts = One; mode = still_prediction_fits d h.1 (two_three d.context.kind more own.kind.1) })
]

-- ---- what types and modes tell

-- a type that isn't intra stands in no I picture, and one with a backward direction in B pictures alone
pub type_tells : (k : ℕ) (v : MbType) → has_type k v ≡ true → v.intra ≡ false → 1 ≤ k → k ≤ 3 → (k ≢ 1) × (v.backward ≡ true → k ≡ 3)
unfolding has_type
type_tells k v h other least most = (
  not_one,
  λ back. elim (cases_lt k 3) [
    | inl less ↦ elim (cases_lt k 2) [ inl few ↦ absurd (not_one (omega (arith, few, least))) | inr two ↦ absurd (not_two (omega (arith, two, less)) back) ]
    | inr last ↦ omega (arith, last, most)
  ],
)
  where
    not_one : k ≡ 1 → ⊥
    not_one one = let none : false ≡ true = rw (one, other) at h in absurd cc

    not_two : k ≡ 2 → v.backward ≡ true → ⊥
    not_two two back = let none : false ≡ true = rw (two, other, back) at h in absurd cc

mode_tells : (c : PictureContext) (m : MacroSyntax) (f b : Bool) → m.kind.intra ≡ false → m.kind.forward ≡ f → m.kind.backward ≡ b
    → (((mode_of c m).forward ≡ true) ⊎ ((mode_of c m).backward ≡ true)) × ((mode_of c m).backward ≡ true → m.kind.backward ≡ true)
unfolding mode_of told_mode without_motion_type
mode_tells c m true b other ef eb = rw (other, ef) (inl refl, λ e. e)
mode_tells c m false true other ef eb = rw (other, ef, eb) (inr refl, λ e. refl)
mode_tells c m false false other ef eb = rw (other, ef, eb) (inl refl, λ e. absurd cc)

-- ---- a choice can be predicted

module _ (d : Decision) (f b : Dims) (ahead behind : Plane → Lines → ℕ → Type 0) (own : IsOwn d.context) (refs : HasReferences d.context.kind d.dims (place_of d) f b ahead behind) where
  near_ahead : d.context.kind ≢ 1 → (l : Lines) → IsReference d.context.extension.structure l → HasNear ahead d.dims (place_of d) l
  near_ahead moves l is = subst (λ (x : Dims). HasNear ahead x (place_of d) l) (refs.forward_size moves) ((refs.forward moves).near l is)

  near_behind : d.context.kind ≡ 3 → (l : Lines) → IsReference d.context.extension.structure l → HasNear behind d.dims (place_of d) l
  near_behind three l is = subst (λ (x : Dims). HasNear behind x (place_of d) l) (refs.backward_size three) ((refs.backward three).near l is)

  can_by : (mode : Mode) (q : Parts) → ModeFits d.dims (place_of d) mode q → IsPlace (place_of d) d.dims → d.context.kind ≢ 1 → (mode.forward ≡ true) ⊎ (mode.backward ≡ true)
      → (mode.backward ≡ true → d.context.kind ≡ 3) → CanPredict d.dims (place_of d) f b ahead behind mode
  can_by mode q h lies moves some three = record {
    some = some;
    lies = lies;
    inside = fits_inside d.dims (place_of d) mode q h;
    forward = λ e. fits_forward ahead d.dims (place_of d) (near_ahead moves) mode q h e;
    forward_size = λ e. refs.forward_size moves;
    backward = λ e. fits_backward behind d.dims (place_of d) (near_behind (three e)) mode q h e;
    backward_size = λ e. refs.backward_size (three e);
  }

  -- a choice that is written, and isn't intra
  pub written_can : AreLimits d.limits → IsSize d.dims → IsPlace (place_of d) d.dims → (choice_of d).skip ≡ false
      → IsWritable d.context d.state (choice_of d).macroblock → (choice_of d).macroblock.syntax.kind.intra ≡ false
      → CanPredict d.dims (place_of d) f b ahead behind (mode_of d.context (choice_of d).macroblock.syntax)
  unfolding StaysIn
  written_can limits size lies told written other =
      let m = (choice_of d).macroblock.syntax in
      let h = choice_stays d own limits (λ moves. (size, lies)) told other in
      let kinds = type_tells d.context.kind m.kind written.macro.kind other own.kind.0 own.kind.1 in
      let mode = mode_tells d.context m m.kind.forward m.kind.backward other refl refl in
      can_by (mode_of d.context m) h.0 h.1 lies kinds.0 mode.0 (λ e. kinds.1 (mode.1 e))

  still_can : IsPlace (place_of d) d.dims → d.context.kind ≡ 2 → CanPredict d.dims (place_of d) f b ahead behind (zero_motion d.context)
  unfolding without_motion_type
  still_can lies two = can_by (zero_motion d.context) One (zero_fits d lies) lies (λ one. omega (arith, one, two)) (inl refl) (λ is. absurd cc)

  moving_can : IsOwnState d.state → IsPlace (place_of d) d.dims → d.context.kind ≡ 3 → (d.state.forward ≡ true) ⊎ (d.state.backward ≡ true)
      → IsInside (without_motion_type d.context d.state.forward d.state.backward d.state.pmv.at) (place_of d) d.dims
      → CanPredict d.dims (place_of d) f b ahead behind (without_motion_type d.context d.state.forward d.state.backward d.state.pmv.at)
  unfolding without_motion_type
  moving_can state lies three some is =
      let c = d.context in
      let st = d.state in
      let moves : c.kind ≢ 1 = λ one. omega (arith, one, three) in
      record {
        some = some;
        lies = lies;
        inside = is;
        forward = λ e. plain_held ahead d.dims (place_of d) c refl st.forward st.backward st.pmv.at state.predictors (near_ahead moves) 0 (omega arith) (is.forward e);
        forward_size = λ e. refs.forward_size moves;
        backward = λ e. plain_held behind d.dims (place_of d) c refl st.forward st.backward st.pmv.at state.predictors (near_behind three) 1 (omega arith) (is.backward e);
        backward_size = λ e. refs.backward_size three;
      }

  -- one that is skipped
  pub skipped_can : IsOwnState d.state → IsPlace (place_of d) d.dims → is_inside (skipped_mode d.context d.state) (place_of d) d.dims ≡ true
      → (d.context.kind ≡ 2) ⊎ ((d.context.kind ≡ 3) × ((d.state.forward ≡ true) ⊎ (d.state.backward ≡ true)))
      → CanPredict d.dims (place_of d) f b ahead behind (skipped_mode d.context d.state)
  unfolding skipped_mode
  skipped_can state lies inside (inl two) =
      second_of (CanPredict d.dims (place_of d) f b ahead behind) (nat_eq d.context.kind 3) (without_motion_type d.context d.state.forward d.state.backward d.state.pmv.at) (zero_motion d.context) (rw two refl)
      (still_can lies two)
  skipped_can state lies inside (inr h) =
      first_of (λ (m : Mode). IsInside m (place_of d) d.dims → CanPredict d.dims (place_of d) f b ahead behind m) (nat_eq d.context.kind 3)
      (without_motion_type d.context d.state.forward d.state.backward d.state.pmv.at) (zero_motion d.context) (rw (h.0) refl)
      (moving_can state lies h.0 h.1) (inside_is (skipped_mode d.context d.state) (place_of d) d.dims inside)
