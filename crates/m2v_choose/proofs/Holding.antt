-- How a macroblock is held.
use Rattle.std.proofs.Common.{◌≡◌, ℕ, Bool, true, false, ◌&&◌, not, ◌⊎◌, inl, inr, List, [], ◌∷◌, refl, ap, sym, ◌∙◌, subst, ℤ, pos, replicate}
use Rattle.std.specs.Prelude.{nat_eq, if◌then◌else◌, slice_index_or}
use Rattle.m2v_macro.specs.declared.values.MacroSyntax.{MacroSyntax}
use Rattle.m2v_macro.specs.declared.values.SliceState.{SliceState}
use Rattle.m2v_macro.specs.declared.values.Direction.{Direction}
use Rattle.m2v_macro.specs.States.{skips, dc_reset, dc_behind, after}
use Rattle.m2v_macroblock.specs.Macroblocks.{Macroblock}
use Rattle.m2v_macroblock.specs.Predictions.{prediction_of}
use Rattle.m2v_choose.specs.declared.task.Task.{Task}
use Rattle.m2v_choose.specs.Decisions.{increment_of, Candidate, place_of, written, no_levels, intra_syntax, uncoded_syntax}
use Rattle.m2v_choose.specs.Candidates.{plain_form, still_vector, still_prediction, held_intra, held_levels, hold}
use Rattle.m2v_choose.specs.Laws.{IsWritable}
use Rattle.m2v_choose.specs.Trials.{References, decided, IsTask, Predicts, as_first, AreReferences, CanTry, moving_syntax, place_for}
use Rattle.std.proofs.lemmas.Bool.{eqb-true}
use Rattle.m2v_plane.specs.declared.dims.Dims.{Dims}
use Rattle.m2v_plane.specs.declared.planes.Plane.{Plane}
use Rattle.m2v_plane.specs.declared.planes.Lines.{Lines}
use Rattle.m2v_choose.proofs.Motions.{still_is, still_can, moving_backward}
use Rattle.m2v_choose.proofs.Stands.{first_of, second_of}
use Rattle.m2v_choose.proofs.Written.{held_written}
use Rattle.m2v_choose.proofs.Tried.{first_step}
use Rattle.m2v_choose.proofs.IntraCoded.{no_references}

turned : (s : Bool) (a b : List ℤ) → (if s then b else a) ≡ (if true && not s then a else b)
turned true a b = refl
turned false a b = refl

-- the DC predictors that a held macroblock goes by
first_dc_is : (t : Task) (r : References) → IsTask t → t.first.dc ≡ (after t.context.now t.state.now (held_intra (decided r t))).dc
unfolding as_first after dc_behind intra_syntax
first_dc_is t r task =
    ap (λ (st : SliceState). st.dc) task.first
    ∙ (λ i. if skips t.state.now (task.increment r i) then dc_reset t.context.now else t.state.now.dc)
    ∙ turned (skips t.state.now (increment_of (decided r t))) t.state.now.dc (dc_reset t.context.now)

-- six blocks of a DC level alone
abbrev dc_only : ℤ → List ℤ
dc_only z = z ∷ replicate 63 (pos 0)

pub levels_held : (t : Task) (r : References) → IsTask t
    → dc_only (slice_index_or t.first.dc 0 (pos 0)) ∷ dc_only (slice_index_or t.first.dc 0 (pos 0)) ∷ dc_only (slice_index_or t.first.dc 0 (pos 0)) ∷ dc_only (slice_index_or t.first.dc 0 (pos 0))
    ∷ dc_only (slice_index_or t.first.dc 1 (pos 0)) ∷ dc_only (slice_index_or t.first.dc 2 (pos 0)) ∷ []
    ≡ held_levels (decided r t)
unfolding held_levels
levels_held t r task =
    ap (λ (dc : List ℤ). dc_only (slice_index_or dc 0 (pos 0)) ∷ dc_only (slice_index_or dc 0 (pos 0)) ∷ dc_only (slice_index_or dc 0 (pos 0)) ∷ dc_only (slice_index_or dc 0 (pos 0))
    ∷ dc_only (slice_index_or dc 1 (pos 0)) ∷ dc_only (slice_index_or dc 2 (pos 0)) ∷ []) (first_dc_is t r task)

module _ (t : Task) (m : MacroSyntax) (ls : List (List ℤ)) (task : IsTask t)
    (syntax : (r : References) → m ≡ intra_syntax (decided r t) (record { q = t.state.now.quantiser; dct_field = false })) (levels : (r : References) → ls ≡ held_levels (decided r t)) where
  pub held_writable : IsWritable t.context.now t.first (record { syntax = m; levels = ls })
  held_writable =
      let r = no_references in
      let same : held_by r ≡ record { syntax = m; levels = ls } = λ i. record { syntax = sym (syntax r) i; levels = sym (levels r) i } in
      subst (IsWritable t.context.now t.first) same (held_written (decided r t) task.asked.own t.first (first_step t r task) task.asked.dc task.asked.state.quantiser)
    where
      held_by : References → Macroblock
      held_by s = record { syntax = held_intra (decided s t); levels = held_levels (decided s t) }

  pub held_is : (r : References) → t.context.now.kind ≡ 1 → written m ls ≡ hold (decided r t)
  unfolding hold
  held_is r one =
      let d = decided r t in
      (λ i. written (syntax r i) (levels r i))
      ∙ first_of (λ (x : Candidate). written (held_intra d) (held_levels d) ≡ x) (nat_eq d.context.kind 1) (written (held_intra d) (held_levels d)) (written (uncoded_syntax d (still_prediction d.context)) no_levels) (rw one refl) refl

  pub held_predicts : (r : References) (prediction : List ℕ) → prediction ≡ replicate 384 0 → Predicts r t m prediction
  unfolding prediction_of intra_syntax
  held_predicts r prediction e = e ∙ ap (prediction_of r.forward r.backward t.context.now (place_of (decided r t))) (sym (syntax r))

pub still_held : (t : Task) (r : References) (m : MacroSyntax) (ls : List (List ℤ)) → (t.context.now.kind ≡ 2) ⊎ (t.context.now.kind ≡ 3)
    → m ≡ uncoded_syntax (decided r t) (still_prediction t.context.now) → ls ≡ no_levels → written m ls ≡ hold (decided r t)
unfolding hold
still_held t r m ls kind same levels =
    let d = decided r t in
    let x = written (uncoded_syntax d (still_prediction d.context)) no_levels in
    (λ i. written (same i) (levels i))
    ∙ second_of (λ (y : Candidate). x ≡ y) (nat_eq d.context.kind 1) (written (held_intra d) (held_levels d)) x (other kind) refl
  where
    other : (t.context.now.kind ≡ 2) ⊎ (t.context.now.kind ≡ 3) → nat_eq t.context.now.kind 1 ≡ false
    other (inl e) = rw e refl
    other (inr e) = rw e refl

-- the still macroblock as it is made
module _ (t : Task) (r : References) (task : IsTask t) (m : MacroSyntax) (form : ℕ) (v : Direction) (made : m ≡ moving_syntax t.increment form (nat_eq t.context.now.kind 2) (nat_eq t.context.now.kind 3) v v)
    (same : form ≡ plain_form t.context.now) (still : v ≡ still_vector t.context.now) (kind : (t.context.now.kind ≡ 2) ⊎ (t.context.now.kind ≡ 3)) where
  pub still_made : m ≡ uncoded_syntax (decided r t) (still_prediction t.context.now)
  still_made = made ∙ still_is t r form (nat_eq t.context.now.kind 2) (nat_eq t.context.now.kind 3) v v task same refl refl still still

  pub still_try : (ahead behind : Plane → Lines → ℕ → Type 0) (other : Dims) → AreReferences t.context.now.kind (place_for t) r.dims other ahead behind → CanTry t r.dims ahead behind m true
  still_try ahead behind other refs =
      subst (λ (x : MacroSyntax). CanTry t r.dims ahead behind x true) (sym made)
      (still_can t r ahead behind task other refs form (nat_eq t.context.now.kind 2) (nat_eq t.context.now.kind 3) v v same kind refl refl still still)

  pub still_backward : m.kind.backward ≡ true → t.context.now.kind ≡ 3
  still_backward e =
      eqb-true t.context.now.kind 3
      (sym (moving_backward t.increment form (nat_eq t.context.now.kind 2) (nat_eq t.context.now.kind 3) v v) ∙ ap (λ (x : MacroSyntax). x.kind.backward) (sym made) ∙ e)
