-- Codings of an intra macroblock, as they are tried.
use Rattle.std.proofs.Common.{◌≡◌, ℕ, Bool, true, false, cond, not, All, List, [], ◌∷◌, ◌++◌, map, refl, ap, sym, ◌∙◌, subst, replicate, ℤ}
use Rattle.std.specs.Prelude.{nat_eq, if◌then◌else◌}
use Rattle.std.proofs.lemmas.Bool.{eqb-true}
use Rattle.std.proofs.lemmas.List.{map-append}
use Rattle.m2v_quant.specs.declared.kind.BlockKind.{BlockKind}
use Rattle.m2v_quant.specs.Kinds.{IsKind}
use Rattle.m2v_macro.specs.declared.values.MacroSyntax.{MacroSyntax}
use Rattle.m2v_macro.specs.States.{after}
use Rattle.m2v_recon.specs.Macro.{kind_at}
use Rattle.m2v_macroblock.specs.Macroblocks.{Macroblock, kind_for}
use Rattle.m2v_macroblock.specs.Predictions.{prediction_of}
use Rattle.m2v_choose.specs.declared.task.Task.{Task}
use Rattle.m2v_choose.specs.declared.trial.Best.{Best}
use Rattle.m2v_choose.specs.Decisions.{Decision, Candidate, Coding, place_of, written, levels_by, intra_syntax, has_dct_type}
use Rattle.m2v_choose.specs.Candidates.{codings_at, codings, second_q, intra_by}
use Rattle.m2v_choose.specs.Own.{IsCode}
use Rattle.m2v_choose.specs.Laws.{IsWritable}
use Rattle.m2v_choose.specs.Trials.{References, decided, IsTask, Predicts, Tried, has_types, transforms_of, quantised_by, CanTryIntra}
use Rattle.m2v_choose.proofs.Written.{intra_written}
use Rattle.m2v_choose.proofs.Tried.{tried_on, first_step}
use Rattle.m2v_choose.proofs.Coded.{same_levels, kinds_plain}

-- some references: an intra macroblock needs none
pub no_references : References
no_references = record {
  dims = record { width = 0; height = 0; mb_width = 0; mb_rows = 0 };
  forward = λ plane lines line column. 0;
  backward = λ plane lines line column. 0;
}

module _ (t : Task) (m : MacroSyntax) (transforms ls : List (List ℤ)) (q : ℕ) (dct : Bool) (kinds : List BlockKind)
    (syntax : (r : References) → m ≡ intra_syntax (decided r t) (record { q = q; dct_field = dct }))
    (made : transforms ≡ transforms_of t.source.now.at (replicate 384 0) dct)
    (known : kinds ≡ kind_for t.context.now true true q ∷ kind_for t.context.now true false q ∷ [])
    (levels : ls ≡ quantised_by transforms (kind_at kinds 0) (kind_at kinds 1)) where
  intra_levels : (r : References) → ls ≡ levels_by (decided r t) (replicate 384 0) true (record { q = q; dct_field = dct })
  intra_levels r =
      levels ∙ (λ i. quantised_by (made i) (kind_at (known i) 0) (kind_at (known i) 1))
      ∙ same_levels (decided r t) (replicate 384 0) true (record { q = q; dct_field = dct })

  pub intra_writable : IsTask t → IsCode q → (dct ≡ true → has_types t.context.now ≡ true) → IsWritable t.context.now t.first (record { syntax = m; levels = ls })
  unfolding intra_by
  intra_writable task code types =
      let r = no_references in
      let k : Coding = record { q = q; dct_field = dct } in
      let same : held_by r ≡ record { syntax = m; levels = ls } = λ i. record { syntax = sym (syntax r) i; levels = sym (intra_levels r) i } in
      subst (IsWritable t.context.now t.first) same (intra_written (decided r t) task.asked.own t.first (first_step t r task) k code types)
    where
      held_by : References → Macroblock
      held_by s = record { syntax = intra_syntax (decided s t) (record { q = q; dct_field = dct }); levels = levels_by (decided s t) (replicate 384 0) true (record { q = q; dct_field = dct }) }

  intra_is : (r : References) → written m ls ≡ intra_by (decided r t) (record { q = q; dct_field = dct })
  unfolding intra_by
  intra_is r = λ i. written (syntax r i) (intra_levels r i)

  pub intra_predicts : (r : References) (prediction : List ℕ) → prediction ≡ replicate 384 0 → Predicts r t m prediction
  unfolding prediction_of intra_syntax
  intra_predicts r prediction e =
      e ∙ ap (prediction_of r.forward r.backward t.context.now (place_of (decided r t))) (sym (syntax r))

  pub intra_tried : (r : References) (old new : Best) → Tried (decided r t) old new (written m ls ∷ [])
      → Tried (decided r t) old new (intra_by (decided r t) (record { q = q; dct_field = dct }) ∷ [])
  intra_tried r old new tried = subst (λ (x : Candidate). Tried (decided r t) old new (x ∷ [])) (intra_is r) tried

-- ---- what can be tried

not_false : (b : Bool) → not b ≡ false → b ≡ true
not_false true e = refl
not_false false e = absurd cc

own_quantiser : (b : Bool) (q s : ℕ) → not (nat_eq q s) ≡ b → (if b then cond b q 0 else s) ≡ q
own_quantiser true q s e = refl
own_quantiser false q s e = sym (eqb-true q s (not_false (nat_eq q s) e))

module _ (t : Task) (q : ℕ) (dct : Bool) (kinds : List BlockKind) (known : kinds ≡ kind_for t.context.now true true q ∷ kind_for t.context.now true false q ∷ []) where
  quantiser_is : (r : References) → (after t.context.now t.state.now (intra_syntax (decided r t) (record { q = q; dct_field = dct }))).quantiser ≡ q
  unfolding after intra_syntax
  quantiser_is r = own_quantiser (not (nat_eq q t.state.now.quantiser)) q t.state.now.quantiser refl

  module _ (each : All IsKind kinds) (task : IsTask t) (code : IsCode q) (types : dct ≡ true → has_types t.context.now ≡ true)
      (syntax : (r : References) → intra_syntax (decided no_references t) (record { q = q; dct_field = dct }) ≡ intra_syntax (decided r t) (record { q = q; dct_field = dct })) where
    can_by : CanTryIntra t (intra_syntax (decided no_references t) (record { q = q; dct_field = dct })) kinds
    unfolding intra_syntax
    can_by =
        let n = intra_syntax (decided no_references t) (record { q = q; dct_field = dct }) in
        let ts = transforms_of t.source.now.at (replicate 384 0) dct in
        record {
          intra = refl;
          pattern = refl;
          known = known ∙ ap (λ (z : ℕ). kind_for t.context.now true true z ∷ kind_for t.context.now true false z ∷ []) (sym (quantiser_is no_references));
          each = each;
          precision = kinds_plain t.context.now true q kinds task.asked.own.precision known;
          writable = intra_writable t n ts (quantised_by ts (kind_at kinds 0) (kind_at kinds 1)) q dct kinds syntax refl known refl task code types;
        }

    pub intra_can : (m : MacroSyntax) → ((r : References) → m ≡ intra_syntax (decided r t) (record { q = q; dct_field = dct })) → CanTryIntra t m kinds
    intra_can m e = subst (λ (n : MacroSyntax). CanTryIntra t n kinds) (sym (e no_references)) can_by

pub intra_form : (t : Task) (q : ℕ) (dct : Bool) (m : MacroSyntax) → ((r : References) → m ≡ intra_syntax (decided r t) (record { q = q; dct_field = dct })) → m.dct_field ≡ dct
unfolding intra_syntax
intra_form t q dct m e = ap (λ (n : MacroSyntax). n.dct_field) (e no_references)

-- ---- in order

module _ (d : Decision) (f : Coding → Candidate) where
  one_coding : (q : ℕ) → has_dct_type d ≡ false → f (record { q = q; dct_field = false }) ∷ [] ≡ map f (codings_at d q)
  unfolding codings_at
  one_coding q e = by_test (has_dct_type d) e
    where
      by_test : (b : Bool) → b ≡ false → f (record { q = q; dct_field = false }) ∷ [] ≡ map f (record { q = q; dct_field = false } ∷ cond b (record { q = q; dct_field = true } ∷ []) [])
      by_test true is = absurd cc
      by_test false is = refl

  two_codings : (q : ℕ) → has_dct_type d ≡ true → f (record { q = q; dct_field = false }) ∷ f (record { q = q; dct_field = true }) ∷ [] ≡ map f (codings_at d q)
  unfolding codings_at
  two_codings q e = by_test (has_dct_type d) e
    where
      by_test : (b : Bool) → b ≡ true
          → f (record { q = q; dct_field = false }) ∷ f (record { q = q; dct_field = true }) ∷ [] ≡ map f (record { q = q; dct_field = false } ∷ cond b (record { q = q; dct_field = true } ∷ []) [])
      by_test true is = refl
      by_test false is = absurd cc

  pub tried_one : (q : ℕ) (old new : Best) → has_dct_type d ≡ false → Tried d old new (f (record { q = q; dct_field = false }) ∷ []) → Tried d old new (map f (codings_at d q))
  tried_one q old new e tried = subst (Tried d old new) (one_coding q e) tried

  pub tried_two : (q : ℕ) (old mid new : Best) → has_dct_type d ≡ true → Tried d old mid (f (record { q = q; dct_field = false }) ∷ [])
      → Tried d mid new (f (record { q = q; dct_field = true }) ∷ []) → Tried d old new (map f (codings_at d q))
  tried_two q old mid new e a b =
      subst (Tried d old new) (two_codings q e) (tried_on d old mid new (f (record { q = q; dct_field = false }) ∷ []) (f (record { q = q; dct_field = true }) ∷ []) a b)

  all_codings : (test : Bool) → test ≡ nat_eq (second_q d.limits.q) d.limits.q → (ys : List Coding) → cond test [] (codings_at d (second_q d.limits.q)) ≡ ys
      → map f (codings_at d d.limits.q) ++ map f ys ≡ map f (codings d)
  unfolding codings
  all_codings test e ys same =
      sym (map-append f (codings_at d d.limits.q) ys)
      ∙ ap (λ (zs : List Coding). map f (codings_at d d.limits.q ++ zs)) (sym same ∙ ap (λ (b : Bool). cond b [] (codings_at d (second_q d.limits.q))) e)

  pub tried_once : (old new : Best) → nat_eq (second_q d.limits.q) d.limits.q ≡ true → Tried d old new (map f (codings_at d d.limits.q)) → Tried d old new (map f (codings d))
  tried_once old new e tried = subst (Tried d old new) (nothing (map f (codings_at d d.limits.q)) ∙ all_codings true (sym e) [] refl) tried
    where
      nothing : (xs : List Candidate) → xs ≡ xs ++ []
      nothing [] = refl
      nothing (x ∷ xs) = ap (λ (ys : List Candidate). x ∷ ys) (nothing xs)

  pub tried_twice : (old mid new : Best) → nat_eq (second_q d.limits.q) d.limits.q ≡ false → Tried d old mid (map f (codings_at d d.limits.q))
      → Tried d mid new (map f (codings_at d (second_q d.limits.q))) → Tried d old new (map f (codings d))
  tried_twice old mid new e a b =
      subst (Tried d old new) (all_codings false (sym e) (codings_at d (second_q d.limits.q)) refl)
      (tried_on d old mid new (map f (codings_at d d.limits.q)) (map f (codings_at d (second_q d.limits.q))) a b)
