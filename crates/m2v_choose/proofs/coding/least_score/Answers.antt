use Rattle.std.proofs.Common.{ℕ, ◌*◌, ap, arith}
use Rattle.std.specs.Prelude.{min, slice_index, sum_by}
use Rattle.std.specs.List.{range_with_len}
use Rattle.m2v_choose.specs.Trials.{coded_least}
use Rattle.m2v_choose.proofs.coding.least_score.Goals as goal

pub returns : goal.returns
unfolding coded_least
returns c =
    let blocks = λ (four : ℕ). sum_by (λ b. min (8 * slice_index c.args.squares.now b) four) (range_with_len 0 6) in
    record { value = omega (arith, c.bit_cost.ensures.value, c.least_blocks.ensures.value, ap blocks c.bit_cost-2.ensures.value) }
