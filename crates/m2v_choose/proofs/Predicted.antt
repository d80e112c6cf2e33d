-- Predictions, as they are tried.
use Rattle.std.proofs.Common.{◌≡◌, ℕ, Bool, true, false, cond, ◌⊎◌, inl, inr, All, List, [], ◌∷◌, ◌++◌, filter, map, refl, ap, sym, ◌∙◌, subst, arith, ℤ, pos, replicate}
use Rattle.std.specs.Prelude.{if◌then◌else◌}
use Rattle.std.proofs.lemmas.Int.{ints}
use Rattle.std.proofs.lemmas.Bool.{eqb-true}
use Rattle.std.proofs.lemmas.List.Elements.{All-replicate}
use Rattle.m2v_plane.specs.declared.dims.Dims.{Dims}
use Rattle.m2v_quant.specs.Kinds.{IsLevel}
use Rattle.m2v_macro.specs.declared.values.MacroSyntax.{MacroSyntax}
use Rattle.m2v_macro.specs.declared.values.SliceState.{SliceState}
use Rattle.m2v_macro.specs.declared.values.PictureContext.{PictureContext}
use Rattle.m2v_macro.specs.Conditions.{IsMacro}
use Rattle.m2v_pred.specs.declared.mode.MbPlace.{MbPlace}
use Rattle.m2v_pred.specs.declared.mode.Mode.{Mode}
use Rattle.m2v_pred.specs.Vectors.{size_read}
use Rattle.m2v_pred.specs.Predicted.{predicted, block_by}
use Rattle.m2v_recon.specs.Macro.{is_coded}
use Rattle.m2v_macroblock.specs.Modes.{mode_of, told_mode, opposite_parity_vectors}
use Rattle.m2v_macroblock.specs.Predictions.{View, prediction_of}
use Rattle.m2v_choose.specs.declared.task.Task.{Task}
use Rattle.m2v_choose.specs.declared.trial.Best.{Best}
use Rattle.m2v_choose.specs.Decisions.{Prediction, place_of, written, no_levels, uncoded_syntax}
use Rattle.m2v_choose.specs.Candidates.{codings, samples_by, uncoded_by, coded_by, has_block, by_prediction}
use Rattle.m2v_choose.specs.Laws.{IsWritable}
use Rattle.m2v_choose.specs.Trials.{References, decided, Predicts, IsRated, Tried, with_blocks}
use Rattle.m2v_choose.proofs.Tried.{tried_on, tried_none}

-- blocks change no motion
pub mode_blocks : (c : PictureContext) (m : MacroSyntax) (send : Bool) (q : ℕ) (dct : Bool) (pattern : ℕ) → mode_of c (with_blocks m send q dct pattern) ≡ mode_of c m
unfolding mode_of told_mode opposite_parity_vectors
mode_blocks c m send q dct pattern = refl

-- the size of what is read
pub size_is : (mode : Mode) (f b : Dims) → (mode.forward ≡ true) ⊎ (mode.backward ≡ true) → (mode.backward ≡ true → b ≡ f) → size_read mode f b ≡ f
size_is mode f b (inl e) same = rw e refl
size_is mode f b (inr e) same = by_test mode.forward (same e)
  where
    by_test : (t : Bool) → b ≡ f → (if t then f else b) ≡ f
    by_test true is = refl
    by_test false is = is

pub predicted_is : (f b : View) (c : PictureContext) (place : MbPlace) (m : MacroSyntax) → m.kind.intra ≡ false → block_by (predicted f b (mode_of c m) place) ≡ prediction_of f b c place m
unfolding prediction_of
predicted_is f b c place m e = by_test m.kind.intra e
  where
    by_test : (t : Bool) → t ≡ false → block_by (predicted f b (mode_of c m) place) ≡ (if t then replicate 384 0 else block_by (predicted f b (mode_of c m) place))
    by_test true is = absurd cc
    by_test false is = refl

-- a macroblock without blocks
pub uncoded_writable : (c : PictureContext) (st : SliceState) (m : MacroSyntax) (ls : List (List ℤ)) → m.pattern ≡ 0 → ls ≡ no_levels → IsMacro c st m → IsWritable c st (record { syntax = m; levels = ls })
uncoded_writable c st m ls none same macro = record {
  macro = macro;
  blocks = λ b lt e. absurd (none_coded b (ap (λ p. is_coded p b) (sym none) ∙ e));
  levels = subst (All (All IsLevel)) (sym same) (All-replicate (All IsLevel) 6 (replicate 64 (pos 0)) (All-replicate IsLevel 64 (pos 0) (omega (arith, ints), omega (arith, ints))));
}
  where
    none_coded : (b : ℕ) → is_coded 0 b ≡ true → ⊥
    none_coded b e = omega (arith, eqb-true _ _ e)

module _ (r : References) (t : Task) (m : MacroSyntax) (old new : Best) where
  pub uncoded_tried : (uncoded : Bool) (ls : List (List ℤ)) → uncoded ≡ true → ls ≡ no_levels → Tried (decided r t) old new (written m ls ∷ [])
      → Tried (decided r t) old new (cond uncoded (written m no_levels ∷ []) [])
  uncoded_tried true ls e same tried = subst (λ (l : List (List ℤ)). Tried (decided r t) old new (written m l ∷ [])) same tried
  uncoded_tried false ls e same tried = absurd cc

  pub none_tried : (uncoded : Bool) → uncoded ≡ false → IsRated (decided r t) old → Tried (decided r t) old old (cond uncoded (written m no_levels ∷ []) [])
  none_tried true e rated = absurd cc
  none_tried false e rated = tried_none (decided r t) old rated

  pub by_prediction_tried : (p : Prediction) (uncoded : Bool) (mid : Best) → m ≡ uncoded_syntax (decided r t) p → p.uncoded ≡ uncoded
      → Tried (decided r t) old mid (cond uncoded (written m no_levels ∷ []) [])
      → Tried (decided r t) mid new (filter has_block (map (coded_by (decided r t) p) (codings (decided r t)))) → Tried (decided r t) old new (by_prediction (decided r t) p)
  unfolding by_prediction uncoded_by
  by_prediction_tried p uncoded mid same bare a b =
      let d = decided r t in
      let coded = filter has_block (map (coded_by d p) (codings d)) in
      subst (Tried d old new) (λ i. cond (sym bare i) (written (same i) no_levels ∷ []) [] ++ coded)
      (tried_on d old mid new (cond uncoded (written m no_levels ∷ []) []) coded a b)

pub told_samples : (r : References) (t : Task) (p : Prediction) (m : MacroSyntax) (prediction : List ℕ) → m ≡ uncoded_syntax (decided r t) p → prediction ≡ samples_by (decided r t) p → Predicts r t m prediction
unfolding samples_by
told_samples r t p m prediction same samples = samples ∙ ap (prediction_of r.forward r.backward t.context.now (place_of (decided r t))) (sym same)

pub samples_told : (r : References) (t : Task) (p : Prediction) (m : MacroSyntax) (prediction : List ℕ) → m ≡ uncoded_syntax (decided r t) p → Predicts r t m prediction → prediction ≡ samples_by (decided r t) p
unfolding samples_by
samples_told r t p m prediction same samples = samples ∙ ap (prediction_of r.forward r.backward t.context.now (place_of (decided r t))) same
