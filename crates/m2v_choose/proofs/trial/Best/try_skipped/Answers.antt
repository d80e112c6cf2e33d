use Rattle.std.proofs.Common.{◌≡◌, ℕ, ◌*◌, ap, sym, ◌∙◌, arith, true}
use Rattle.m2v_recon.specs.Steps.{levels_of}
use Rattle.m2v_choose.specs.Decisions.{skipped}
use Rattle.m2v_choose.specs.Choice.{score as score_of}
use Rattle.m2v_choose.specs.Trials.{decided, candidate_of}
use Rattle.m2v_choose.proofs.Tried.{kept, taken, skipped_score, skipped_samples, skipped_fits, skipped_bits}
use Rattle.m2v_choose.proofs.trial.Best.try_skipped.Goals as goal

pub returns-then-score-self : goal.returns-then-score-self
returns-then-score-self c = record {
  tried = λ r predicts same_squares rated.
      let t = c.args.task.now in
      let d = decided r t in
      let new = c.take.new.self in
      let same : candidate_of (record new.choice { skip = true; samples = c.args.prediction.now }) ≡ skipped =
      λ i. record { skip = true; macroblock = record { syntax = (c.take.ensures.syntax ∙ c.blank-syntax.ensures) i; levels = (ap levels_of c.take.ensures.levels ∙ c.no_levels.ensures) i } } in
      let score : new.below ≡ score_of d skipped =
      c.take.ensures.below ∙ ap (λ (s : ℕ). 8 * s) (c.from-score.ensures ∙ same_squares) ∙ sym (skipped_score r t c.args.prediction.now.at predicts) in
      taken d skipped c.args.self.now rated (record { choice = record new.choice { skip = true; samples = c.args.prediction.now }; below = new.below }) same
      (c.take.ensures.bits ∙ sym (skipped_bits d)) (skipped_samples r t c.args.prediction.now.at predicts) score (skipped_fits d) (omega (arith, c.take.ensures.below, c.if-score-self.true));
}

pub returns-else-score-self : goal.returns-else-score-self
returns-else-score-self c = record {
  tried = λ r predicts same_squares rated.
      let t = c.args.task.now in
      let d = decided r t in
      let score : 8 * c.from-score.result ≡ score_of d skipped =
      ap (λ (s : ℕ). 8 * s) (c.from-score.ensures ∙ same_squares) ∙ sym (skipped_score r t c.args.prediction.now.at predicts) in
      kept d skipped c.args.self.now rated (omega (arith, score, c.if-score-self.false));
}
