use Rattle.std.proofs.Common.{◌≡◌, ◌≤◌, ℕ, false, arith}
use Rattle.m2v_choose.specs.Trials.{block_squared}
use Rattle.m2v_choose.proofs.Sums.{six_places}
use Rattle.m2v_choose.proofs.squares.part_squares.Goals as goal

pub returns : goal.returns
returns c =
    let low = six_places (λ b (z : ℕ). z ≤ 4161600) _ _ _ _ _ _
    c.lines_squared.ensures.most c.lines_squared-2.ensures.most c.lines_squared-3.ensures.most c.lines_squared-4.ensures.most c.lines_squared-5.ensures.most c.lines_squared-6.ensures.most in
    record {
      value = record {
        value = six_places (λ b (z : ℕ). z ≡ block_squared false c.args.source.now.at c.args.samples.now.at b) _ _ _ _ _ _
            c.lines_squared.ensures.value c.lines_squared-2.ensures.value c.lines_squared-3.ensures.value c.lines_squared-4.ensures.value c.lines_squared-5.ensures.value c.lines_squared-6.ensures.value;
        most = λ b lt. omega (arith, low b lt);
      };
      most = low;
    }
