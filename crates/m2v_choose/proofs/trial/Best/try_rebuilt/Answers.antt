use Rattle.std.proofs.Common.{◌≡◌, ◌+◌, ◌*◌, ap, sym, ◌∙◌, arith}
use Rattle.m2v_recon.specs.Steps.{levels_of}
use Rattle.m2v_choose.specs.Decisions.{written}
use Rattle.m2v_choose.specs.Choice.{squared, score as score_of}
use Rattle.m2v_choose.specs.Trials.{decided, candidate_of}
use Rattle.m2v_choose.proofs.Tried.{left_out, kept, taken, fits_is, points, written_samples}
use Rattle.m2v_choose.proofs.trial.Best.try_rebuilt.Goals as goal

pub returns-then-not-fits : goal.returns-then-not-fits
returns-then-not-fits c = record {
  tried = λ r p predicts samples rated.
      let d = decided r c.args.task.now in
      let x = written c.args.syntax.now (levels_of c.args.levels.now) in
      left_out d x c.args.self.now rated (sym (fits_is d x c.args.bits (c.requires.bits r)) ∙ sym c.fits.ensures ∙ c.if-not-fits.true);
}

pub returns-then-score-self : goal.returns-then-score-self
returns-then-score-self c = record {
  tried = λ r p predicts samples rated.
      let t = c.args.task.now in
      let d = decided r t in
      let m = c.args.syntax.now in
      let ls = levels_of c.args.levels.now in
      let x = written m ls in
      let bits = c.requires.bits r in
      let all = c.requires.squares ∙ ap (squared t.source.now.at) samples in
      let score : 8 * c.args.squares + c.bit_cost.result ≡ score_of d x = points r t m ls p c.args.squares c.bit_cost.result c.args.bits predicts all c.bit_cost.ensures.value bits in
      let new = c.take.new.self in
      let same : candidate_of (record new.choice { samples = c.args.rebuilt.now }) ≡ x =
      λ i. record { skip = c.take.ensures.skip i; macroblock = record { syntax = c.take.ensures.syntax i; levels = levels_of (c.take.ensures.levels i) } } in
      let below : new.below ≡ score_of d x = omega (arith, c.take.ensures.below, c.from.ensures, score) in
      taken d x c.args.self.now rated (record { choice = record new.choice { samples = c.args.rebuilt.now }; below = new.below }) same (c.take.ensures.bits ∙ bits)
      (samples ∙ written_samples r t m ls p predicts) below
      (sym (fits_is d x c.args.bits bits) ∙ sym c.fits.ensures ∙ c.if-not-fits.false)
      (omega (arith, c.take.ensures.below, c.if-score-self.true));
}

pub returns-else-score-self : goal.returns-else-score-self
returns-else-score-self c = record {
  tried = λ r p predicts samples rated.
      let t = c.args.task.now in
      let d = decided r t in
      let m = c.args.syntax.now in
      let ls = levels_of c.args.levels.now in
      let x = written m ls in
      let all = c.requires.squares ∙ ap (squared t.source.now.at) samples in
      let score : 8 * c.args.squares + c.bit_cost.result ≡ score_of d x = points r t m ls p c.args.squares c.bit_cost.result c.args.bits predicts all c.bit_cost.ensures.value (c.requires.bits r) in
      kept d x c.args.self.now rated (omega (arith, score, c.from.ensures, c.if-score-self.false));
}
