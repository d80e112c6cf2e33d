use Rattle.std.proofs.Common.{ℕ, ◌≡◌, List, [], ◌∷◌, ap, sym, ◌∙◌, true, false, arith}
use Rattle.m2v_quant.specs.declared.kind.BlockKind.{BlockKind}
use Rattle.m2v_macro.specs.States.{after}
use Rattle.m2v_recon.specs.Macro.{macro_sample, kind_at}
use Rattle.m2v_recon.specs.Steps.{levels_of}
use Rattle.m2v_macroblock.specs.Macroblocks.{kind_for}
use Rattle.m2v_macroblock.specs.Predictions.{sample_at}
use Rattle.m2v_pred.specs.Predicted.{block_by}
use Rattle.m2v_choose.specs.Choice.{squared}
use Rattle.m2v_choose.specs.Trials.{rebuilt_by}
use Rattle.m2v_choose.proofs.PartSquares.{still_squares}
use Rattle.m2v_choose.proofs.Alike.{still_samples}
use Rattle.m2v_choose.proofs.Tried.{own_picture, each_level}
use Rattle.m2v_choose.proofs.trial.rebuilt_squares.Goals as goal

pub kinds-kinds-requires-clause-picture : goal.kinds-kinds-requires-clause-picture
kinds-kinds-requires-clause-picture c = own_picture c.args.task.now.context.now c.requires.task.asked.own

pub rebuild_block-requires : goal.rebuild_block-requires
rebuild_block-requires c = (omega arith, (c.kinds-kinds.ensures.kinds, each_level c.args.levels.now c.requires.writable.levels))

pub returns-clause-value : goal.returns-clause-value
unfolding rebuilt_by sample_at after
returns-clause-value c =
    let t = c.args.task.now in
    let m = c.args.syntax.now in
    let by = λ (kinds : List BlockKind). block_by (macro_sample c.args.prediction.now.at (levels_of c.args.levels.now) m.pattern (kind_at kinds 0) (kind_at kinds 1) m.dct_field) in
    let q = λ (n : ℕ). kind_for t.context.now m.kind.intra true n ∷ kind_for t.context.now m.kind.intra false n ∷ [] in
    c.squared-2.ensures.value
    ∙ ap (squared t.source.now.at) (c.rebuild_block.ensures.value ∙ ap by (c.kinds-kinds.ensures.value ∙ ap q c.quantiser_behind-quantiser.ensures.value))

pub returns-clause-samples : goal.returns-clause-samples
unfolding rebuilt_by sample_at after
returns-clause-samples c =
    let t = c.args.task.now in
    let m = c.args.syntax.now in
    let by = λ (kinds : List BlockKind). block_by (macro_sample c.args.prediction.now.at (levels_of c.args.levels.now) m.pattern (kind_at kinds 0) (kind_at kinds 1) m.dct_field) in
    let q = λ (n : ℕ). kind_for t.context.now m.kind.intra true n ∷ kind_for t.context.now m.kind.intra false n ∷ [] in
    c.rebuild_block.ensures.value ∙ ap by (c.kinds-kinds.ensures.value ∙ ap q c.quantiser_behind-quantiser.ensures.value)

pub returns-then-syntax-eq0 : goal.returns-then-syntax-eq0
returns-then-syntax-eq0 c =
    let none : c.args.syntax.now.pattern ≡ 0 = omega arith in
    record {
      value = c.squared.ensures.value ∙ sym (still_squares c.args.task.now c.args.prediction.now.at c.args.syntax.now (levels_of c.args.levels.now) c.are_bytes.ensures none);
      samples = still_samples c.args.task.now c.args.prediction.now.at c.args.syntax.now (levels_of c.args.levels.now) c.is_whole.ensures c.are_bytes.ensures none;
      still = λ e. c.squared.ensures.value;
      most = c.squared.ensures.most;
    }

pub returns-clause-still : goal.returns-clause-still
returns-clause-still c = λ e. absurd (omega (arith, e, c.if-syntax-eq0.false))
