use Rattle.std.proofs.Common.{◌*◌, ◌^◌, ◌≤◌, inl, inr, arith}
use Rattle.std.proofs.Math.Nat.{mul-le-mul_left}
use Rattle.m2v_recon.specs.Steps.{levels_of}
use Rattle.m2v_choose.specs.Decisions.{written}
use Rattle.m2v_choose.specs.Choice.{bits_taken}
use Rattle.m2v_choose.specs.Trials.{decided}
use Rattle.m2v_choose.proofs.Tried.{kept, written_score, counted_is}
use Rattle.m2v_choose.proofs.PartSquares.{written_squares}
use Rattle.m2v_choose.proofs.trial.Best.try_written.Goals as goal

pub try_counted-requires-clause-bits : goal.try_counted-requires-clause-bits
try_counted-requires-clause-bits c = λ r.
    let t = c.args.task.now in
    let whole = counted_is r t c.args.syntax.now (levels_of c.args.levels.now) c.args.header c.requires.task c.requires.increment c.requires.header in
    elim c.bits_until-bits.ensures.enough [
      | inl all ↦ omega (arith, all, whole)
      | inr over ↦ absurd (omega (arith, over, c.bit_cost.ensures.value, c.if-bit_cost-limit.false))
    ]

pub returns-then-bit_cost-limit : goal.returns-then-bit_cost-limit
returns-then-bit_cost-limit c = record {
  tried = λ r predicts rated.
      let t = c.args.task.now in
      let d = decided r t in
      let m = c.args.syntax.now in
      let ls = levels_of c.args.levels.now in
      let p = c.args.prediction.now.at in
      let whole = counted_is r t m ls c.args.header c.requires.task c.requires.increment c.requires.header in
      let score = written_score r t m ls p predicts in
      let squares = written_squares t p m ls c.are_bytes.ensures in
      let most : c.bits_until-bits.result ≤ bits_taken d (written m ls) = omega (arith, whole, c.bits_until-bits.ensures.most) in
      let bits = mul-le-mul_left ((2 * t.limits.now.q) ^ 2) most in
      kept d (written m ls) c.args.self.now rated
      (omega (arith, score, squares, bits, c.requires.still, c.from.ensures, c.saturating_sub-limit.ensures, c.bit_cost.ensures.value, c.if-bit_cost-limit.true));
}
