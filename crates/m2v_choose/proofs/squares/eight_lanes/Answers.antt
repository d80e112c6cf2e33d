use Rattle.std.proofs.Common.{◌≡◌, ℕ, ◌+◌, length, arith}
use Rattle.m2v_choose.specs.Choice.{square_at}
use Rattle.m2v_choose.proofs.Sums.{lanes_sum, lanes_most}
use Rattle.m2v_choose.proofs.squares.eight_lanes.Goals as goal

pub returns : goal.returns
returns c =
    let xs = c.eight_squares.result in
    let len : length xs ≡ 8 = omega arith in
    record {
      len = len;
      sum = lanes_sum (λ (k : ℕ). square_at c.args.source.now.at c.args.samples.now.at (c.args.from + k)) xs 8 len c.eight_squares.ensures.value;
      most = omega (arith, len, lanes_most xs (λ k lt. c.eight_squares.ensures.most k (omega (arith, lt, len))));
    }
