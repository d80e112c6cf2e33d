-- An intra candidate that is tried block by block.
use Rattle.std.proofs.Common.{◌≡◌, ℕ, ◌+◌, ◌*◌, ◌^◌, ◌≤◌, Bool, true, false, List, [], ◌∷◌, length, replicate, refl, ap, arith}
use Rattle.m2v_quant.specs.declared.kind.BlockKind.{BlockKind}
use Rattle.m2v_macro.specs.declared.values.MacroSyntax.{MacroSyntax}
use Rattle.m2v_macro.specs.States.{after}
use Rattle.m2v_macro.specs.Texts.{macro_text}
use Rattle.m2v_recon.specs.Macro.{kind_at}
use Rattle.m2v_macroblock.specs.Macroblocks.{kind_for}
use Rattle.m2v_macroblock.specs.Texts.{blocks_text}
use Rattle.m2v_choose.specs.declared.task.Task.{Task}
use Rattle.m2v_choose.specs.declared.trial.Best.{Best}
use Rattle.m2v_choose.specs.Decisions.{written, intra_syntax}
use Rattle.m2v_choose.specs.Candidates.{intra_by}
use Rattle.m2v_choose.specs.Choice.{squared}
use Rattle.m2v_choose.specs.Trials.{References, decided, IsTask, IsRated, Tried, Predicts, rebuilt_by, quantised_by, transforms_of, CanTryIntra, intra_macroblock}
use Rattle.m2v_choose.proofs.IntraCoded.{intra_form, intra_predicts, intra_tried}
use Rattle.m2v_choose.proofs.IntraParts.{score_least}
use Rattle.m2v_choose.proofs.Tried.{kept}

module _ (t : Task) (m : MacroSyntax) (q : ℕ) (dct : Bool) (kinds : List BlockKind) (task : IsTask t) (can : CanTryIntra t m kinds)
    (syntax : (r : References) → m ≡ intra_syntax (decided r t) (record { q = q; dct_field = dct }))
    (known : kinds ≡ kind_for t.context.now true true q ∷ kind_for t.context.now true false q ∷ []) where
  own_levels : (intra_macroblock t m kinds).levels ≡ quantised_by (transforms_of t.source.now.at (replicate 384 0) dct) (kind_at kinds 0) (kind_at kinds 1)
  own_levels = ap (λ (b : Bool). quantised_by (transforms_of t.source.now.at (replicate 384 0) b) (kind_at kinds 0) (kind_at kinds 1)) (intra_form t q dct m syntax)

  pub predicts_none : (r : References) → Predicts r t m (replicate 384 0)
  predicts_none r =
      intra_predicts t m (transforms_of t.source.now.at (replicate 384 0) dct) (intra_macroblock t m kinds).levels q dct kinds syntax refl known own_levels r (replicate 384 0) refl

  pub whole_tried : (r : References) (old new : Best) → Tried (decided r t) old new (written m (intra_macroblock t m kinds).levels ∷ [])
      → Tried (decided r t) old new (intra_by (decided r t) (record { q = q; dct_field = dct }) ∷ [])
  whole_tried r old new tried =
      intra_tried t m (transforms_of t.source.now.at (replicate 384 0) dct) (intra_macroblock t m kinds).levels q dct kinds syntax refl known own_levels r old new tried

  -- it is left where what is known of it is no less than the best so far
  pub left_early : (r : References) (best : Best) (header part : ℕ) → IsRated (decided r t) best → m.increment ≡ t.increment → header ≤ length (macro_text t.context.now t.first m)
      → part ≤ (2 * t.limits.now.q) ^ 2 * length (blocks_text t.context.now (after t.context.now t.first m) (intra_macroblock t m kinds) 0 6)
      + 8 * squared t.source.now.at (rebuilt_by t (replicate 384 0) (intra_macroblock t m kinds))
      → best.below ≤ (2 * t.limits.now.q) ^ 2 * header + part → Tried (decided r t) best best (intra_by (decided r t) (record { q = q; dct_field = dct }) ∷ [])
  left_early r best header part rated same before most low =
      let score = score_least t m kinds task can r header part same (predicts_none r) before most in
      whole_tried r best best (kept (decided r t) (written m (intra_macroblock t m kinds).levels) best rated (omega (arith, low, score)))
