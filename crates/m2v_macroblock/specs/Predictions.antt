-- The prediction of a macroblock and its samples (clauses 7.6.4 to 7.6.8).
use Rattle.std.specs.Prelude.{ℕ, true, false, List, replicate, if◌then◌else◌}
use Rattle.m2v_recon.specs.m2v_plane.declared.planes.Plane.{Plane}
use Rattle.m2v_recon.specs.m2v_plane.declared.planes.Lines.{Lines}
use Rattle.m2v_macro.specs.declared.values.MacroSyntax.{MacroSyntax}
use Rattle.m2v_macro.specs.declared.values.SliceState.{SliceState}
use Rattle.m2v_macro.specs.declared.values.PictureContext.{PictureContext}
use Rattle.m2v_macro.specs.States.{after}
use Rattle.m2v_recon.specs.m2v_pred.declared.mode.MbPlace.{MbPlace}
use Rattle.m2v_recon.specs.m2v_pred.Predicted.{predicted, block_by}
use Rattle.m2v_recon.specs.Macro.{macro_sample}
use Rattle.m2v_macroblock.specs.Macroblocks.{Macroblock, kind_for}
use Rattle.m2v_macroblock.specs.Modes.{mode_of}

-- a reference's samples, by plane, lines, line and column
abbrev pub View : Type 0
View = Plane → Lines → ℕ → ℕ → ℕ

-- the prediction of a macroblock, of its 384 samples: all 0 where it is intra
unfoldable pub prediction_of : View → View → PictureContext → MbPlace → MacroSyntax → List ℕ
prediction_of forward backward c place m =
    if m.kind.intra then replicate 384 0 else block_by (predicted forward backward (mode_of c m) place)

-- a sample of a macroblock, by plane, line and column, from the samples of its prediction
unfoldable pub sample_at : PictureContext → SliceState → List ℕ → Macroblock → Plane → ℕ → ℕ → ℕ
sample_at c st prediction x =
    let quantiser = (after c st x.syntax).quantiser in
    macro_sample prediction x.levels x.syntax.pattern (kind_for c x.syntax.kind.intra true quantiser) (kind_for c x.syntax.kind.intra false quantiser) x.syntax.dct_field
