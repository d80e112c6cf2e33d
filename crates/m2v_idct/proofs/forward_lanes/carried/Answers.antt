use Rattle.std.proofs.Common.{arith, ◌+ℤ◌, ℤ}
use Rattle.m2v_idct.proofs.FourLanes.{asked, sum_bound, zipped}
use Rattle.m2v_idct.proofs.forward_lanes.carried.Goals as goal

pub overflow_add-result : goal.overflow_add-result
overflow_add-result c = asked 536870912 600000000 1136870912 (λ (a b : ℤ). a +ℤ b) (sum_bound 536870912 600000000 1136870912 (omega arith)) (omega arith) (omega arith) (omega arith) c.args.x c.args.y c.requires.x c.requires.y

pub returns : goal.returns
returns c = zipped 536870912 600000000 1136870912 (λ (a b : ℤ). a +ℤ b) (sum_bound 536870912 600000000 1136870912 (omega arith)) (omega arith) (omega arith) (omega arith) c.args.x c.args.y c.requires.x c.requires.y
