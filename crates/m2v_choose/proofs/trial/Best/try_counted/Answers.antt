use Rattle.std.proofs.Common.{◌≡◌, ◌+◌, ◌*◌, ap, sym, ◌∙◌, inl, inr, refl, arith}
use Rattle.m2v_pred.specs.declared.block.Block16.{Block16}
use Rattle.m2v_recon.specs.Steps.{levels_of}
use Rattle.m2v_choose.specs.Decisions.{written}
use Rattle.m2v_choose.specs.Choice.{squared}
use Rattle.m2v_choose.specs.Trials.{decided, candidate_of, rebuilt_by}
use Rattle.m2v_choose.proofs.Tried.{left_out, kept, passed, taken, fits_is, points, written_samples}
use Rattle.m2v_choose.proofs.PartSquares.{written_squares}
use Rattle.m2v_choose.proofs.trial.Best.try_counted.Goals as goal

pub returns-then-not-fits : goal.returns-then-not-fits
returns-then-not-fits c = record {
  tried = λ r predicts rated.
      let d = decided r c.args.task.now in
      let x = written c.args.syntax.now (levels_of c.args.levels.now) in
      left_out d x c.args.self.now rated (sym (fits_is d x c.args.bits (c.requires.bits r)) ∙ sym c.fits.ensures ∙ c.if-not-fits.true);
}

pub returns-then-cost-self : goal.returns-then-cost-self
returns-then-cost-self c = record {
  tried = λ r predicts rated.
      let t = c.args.task.now in
      let d = decided r t in
      let m = c.args.syntax.now in
      let ls = levels_of c.args.levels.now in
      let p = c.args.prediction.now.at in
      let whole = written_squares t p m ls c.are_bytes.ensures in
      let score = points r t m ls p (squared t.source.now.at (rebuilt_by t p (record { syntax = m; levels = ls }))) c.bit_cost.result c.args.bits predicts refl c.bit_cost.ensures.value (c.requires.bits r) in
      kept d (written m ls) c.args.self.now rated (omega (arith, score, whole, c.requires.still, c.from.ensures, c.if-cost-self.true));
}

pub returns-then-score-self : goal.returns-then-score-self
returns-then-score-self c = record {
  tried = λ r predicts rated.
      let t = c.args.task.now in
      let d = decided r t in
      let m = c.args.syntax.now in
      let ls = levels_of c.args.levels.now in
      let p = c.args.prediction.now.at in
      let x = written m ls in
      let bits = c.requires.bits r in
      let whole = written_squares t p m ls c.are_bytes.ensures in
      let all = squared t.source.now.at (rebuilt_by t p (record { syntax = m; levels = ls })) in
      let score = points r t m ls p all c.bit_cost.result c.args.bits predicts refl c.bit_cost.ensures.value bits in
      let squares : 8 * c.from-2.result + (c.bit_cost.result + 8 * c.from.result) ≡ 8 * all + c.bit_cost.result =
      elim c.coded_squares-squares.ensures.enough [
        | inl same ↦ omega (arith, same, whole, c.requires.still, c.from.ensures, c.from-2.ensures)
        | inr over ↦ absurd (omega (arith, over, c.from.ensures, c.from-2.ensures, c.if-score-self.true, c.if-cost-self.false))
      ] in
      let new = c.take.new.self in
      let same : candidate_of new.choice ≡ x =
      λ i. record { skip = c.take.ensures.skip i; macroblock = record { syntax = c.take.ensures.syntax i; levels = levels_of (c.take.ensures.levels i) } } in
      let out : new.choice.samples.at ≡ rebuilt_by t p (record { syntax = m; levels = ls }) =
      ap (λ (b : Block16). b.at) c.take.ensures.samples ∙ c.coded_squares-squares.ensures.rebuilt (omega (arith, c.from-2.ensures, c.if-score-self.true, c.if-cost-self.false)) in
      taken d x c.args.self.now rated new same (c.take.ensures.bits ∙ bits) (out ∙ written_samples r t m ls p predicts) (c.take.ensures.below ∙ squares ∙ score)
      (sym (fits_is d x c.args.bits bits) ∙ sym c.fits.ensures ∙ c.if-not-fits.false)
      (omega (arith, c.take.ensures.below, c.if-score-self.true));
}

pub returns-else-score-self : goal.returns-else-score-self
returns-else-score-self c = record {
  tried = λ r predicts rated.
      let t = c.args.task.now in
      let d = decided r t in
      let m = c.args.syntax.now in
      let ls = levels_of c.args.levels.now in
      let p = c.args.prediction.now.at in
      let x = written m ls in
      let whole = written_squares t p m ls c.are_bytes.ensures in
      let score = points r t m ls p (squared t.source.now.at (rebuilt_by t p (record { syntax = m; levels = ls }))) c.bit_cost.result c.args.bits predicts refl c.bit_cost.ensures.value (c.requires.bits r) in
      let old = c.args.self.now in
      let stays = c.coded_squares-squares.ensures.kept (omega (arith, c.from-2.ensures, c.if-score-self.false, c.if-cost-self.false)) in
      passed d x old rated (record old { choice = record old.choice { samples = c.coded_squares-squares.new.out } }) refl refl stays
      (omega (arith, score, whole, c.requires.still, c.from.ensures, c.from-2.ensures, c.coded_squares-squares.ensures.most, c.if-score-self.false));
}
