use Rattle.std.proofs.Common.{◌≡◌, ◌≤◌, ◌+◌, ℕ, arith}
use Rattle.std.proofs.Math.ListN.{length-set}
use Rattle.m2v_choose.specs.Choice.{square_at}
use Rattle.m2v_choose.proofs.Sums.{set_next}
use Rattle.m2v_choose.proofs.squares.eight_squares.Goals as goal

pub loop-c-preserved : goal.loop-c-preserved
loop-c-preserved c =
    let n = c.loop-c.c in
    let inv = c.loop-c.invariant in
    record {
      len = simp length-set inv.len;
      value = set_next (λ k (z : ℕ). z ≡ square_at c.args.source.now.at c.args.samples.now.at (c.args.from + k)) c.loop-c.squares 0 n _ (omega (arith, inv.len)) inv.value c.square.ensures.value;
      most = set_next (λ k (z : ℕ). z ≤ 65025) c.loop-c.squares 0 n _ (omega (arith, inv.len)) inv.most c.square.ensures.most;
    }

pub returns : goal.returns
returns c =
    let end : c.loop-c.c ≡ 8 = omega arith in
    record {
      value = λ k lt. c.loop-c.invariant.value k (omega (arith, end, lt));
      most = λ k lt. c.loop-c.invariant.most k (omega (arith, end, lt));
    }
