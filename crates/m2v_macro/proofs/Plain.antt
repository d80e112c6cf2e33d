-- What a plain macroblock leaves of the predictors of vectors.
use Rattle.std.proofs.Common.{◌≡◌, ℕ, Bool, true, false, [], ◌∷◌, refl, inl, inr}
use Rattle.std.specs.Prelude.{cond, ◌&&◌, not, nat_eq}
use Rattle.std.proofs.lemmas.Bool.{cases_Bool, and_parts, eqb-true}
use Rattle.m2v_vector.specs.declared.predictors.Pmv.{Pmv}
use Rattle.m2v_vector.specs.Predictors.{resets, has_vectors, has_two, is_halved, entry_after, predictors_after}
use Rattle.m2v_macro.specs.declared.values.MacroSyntax.{MacroSyntax}
use Rattle.m2v_macro.specs.declared.values.PictureContext.{PictureContext}
use Rattle.m2v_macro.specs.States.{is_field, motion}
use Rattle.m2v_macro.specs.Plain.{is_plain, plain_entry}

one_whole : (field : Bool) (form : ℕ) → form ≡ cond field 1 2 → (is_halved field form ≡ false) × (has_two field form ≡ false)
unfolding is_halved has_two
one_whole true form e = rw e (refl, refl)
one_whole false form e = rw e (refl, refl)

pub plain_after : (c : PictureContext) (m : MacroSyntax) (p : Pmv) → is_plain c m ≡ true
    → predictors_after (motion c m) p ≡ record {
      at = (plain_entry m m.kind.forward p 0 0 ∷ plain_entry m m.kind.backward p 0 1 ∷ [])
          ∷ (plain_entry m m.kind.forward p 1 0 ∷ plain_entry m m.kind.backward p 1 1 ∷ []) ∷ [];
    }
unfolding predictors_after entry_after resets has_vectors
plain_after c m p e =
    let parts = and_parts (not m.kind.intra) (m.kind.forward && nat_eq m.form (cond (is_field c) 1 2)) e in
    let own = and_parts m.kind.forward (nat_eq m.form (cond (is_field c) 1 2)) parts.1 in
    let whole = one_whole (is_field c) m.form (eqb-true m.form (cond (is_field c) 1 2) own.1) in
    elim (cases_Bool m.kind.intra) [
      | inl intra ↦ absurd (let g = rw intra at parts.0 in cc)
      | inr other ↦ elim (cases_Bool (nat_eq c.kind 2)) [
        | inl two ↦ rw (other, own.0, two, whole.0, whole.1) refl
        | inr not_two ↦ rw (other, own.0, not_two, whole.0, whole.1) refl
      ]
    ]
