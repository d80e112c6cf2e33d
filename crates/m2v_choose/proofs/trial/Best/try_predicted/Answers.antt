use Rattle.std.proofs.Common.{false, ◌∙◌}
use Rattle.std.specs.Prelude.{is_some}
use Rattle.m2v_choose.proofs.PartSquares.{uncoded_known, all_uncoded}
use Rattle.m2v_choose.proofs.Predicted.{told_samples, by_prediction_tried}
use Rattle.m2v_choose.proofs.trial.Best.try_predicted.Goals as goal

pub try_uncoded-requires-clause-whole : goal.try_uncoded-requires-clause-whole
try_uncoded-requires-clause-whole c =
    let s = c.args.task.now.source.now.at in
    let p = c.args.plain.now.prediction.now.at in
    c.uncoded_squares-whole.ensures.value ∙ uncoded_known 0 false s p c.args.plain.now.frame.now c.requires.measured.frame ∙ all_uncoded false s p

pub returns : goal.returns
returns c = record {
  tried = λ r p same bare samples rated.
      let t = c.args.task.now in
      let first = c.try_uncoded.ensures.tried r (told_samples r t p c.args.plain.now.bare.now c.args.plain.now.prediction.now.at same samples) rated in
      by_prediction_tried r t c.args.plain.now.bare.now c.args.self.now c.try_codings.new.self p (is_some c.args.alone) c.try_uncoded.new.self same bare first
      (c.try_codings.ensures.tried r p same samples first.rated);
}
