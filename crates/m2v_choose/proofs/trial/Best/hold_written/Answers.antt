use Rattle.std.proofs.Common.{◌≡◌, ℕ, ◌+◌, ◌*◌, ap, sym, ◌∙◌}
use Rattle.m2v_recon.specs.Steps.{levels_of}
use Rattle.m2v_pred.specs.declared.block.Block16.{Block16}
use Rattle.m2v_choose.specs.Choice.{bits_taken, samples_of, score as score_of}
use Rattle.m2v_choose.specs.Decisions.{written}
use Rattle.m2v_choose.specs.Trials.{decided, candidate_of}
use Rattle.m2v_choose.proofs.Tried.{points, written_samples}
use Rattle.m2v_choose.proofs.trial.Best.hold_written.Goals as goal

candidate_is : (c : goal.After-take) → candidate_of c.take.new.self.choice ≡ written c.args.syntax.now (levels_of c.args.levels.now)
candidate_is c = λ i. record { skip = c.take.ensures.skip i; macroblock = record { syntax = c.take.ensures.syntax i; levels = levels_of (c.take.ensures.levels i) } }

pub returns-clause-candidate : goal.returns-clause-candidate
returns-clause-candidate c = candidate_is c

pub returns-clause-rated : goal.returns-clause-rated
returns-clause-rated c = λ r predicts. record {
  bits = c.take.ensures.bits ∙ c.bits_of-bits.ensures.value r ∙ ap (bits_taken (decided r c.args.task.now)) (sym (candidate_is c));
  samples = ap (λ (b : Block16). b.at) c.take.ensures.samples ∙ c.rebuilt_squares-squares.ensures.samples
      ∙ written_samples r c.args.task.now c.args.syntax.now (levels_of c.args.levels.now) c.args.prediction.now.at predicts ∙ ap (samples_of (decided r c.args.task.now)) (sym (candidate_is c));
}

pub returns-clause-score : goal.returns-clause-score
returns-clause-score c = λ r predicts.
    c.take.ensures.below ∙ ap (λ (s : ℕ). 8 * s + c.bit_cost.result) c.from.ensures
    ∙ points r c.args.task.now c.args.syntax.now (levels_of c.args.levels.now) c.args.prediction.now.at c.rebuilt_squares-squares.result c.bit_cost.result c.bits_of-bits.result predicts
    c.rebuilt_squares-squares.ensures.value c.bit_cost.ensures.value (c.bits_of-bits.ensures.value r)
    ∙ ap (score_of (decided r c.args.task.now)) (sym (candidate_is c))
