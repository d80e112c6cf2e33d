use Rattle.std.proofs.Common.{arith, ◌-ℤ◌, ℤ}
use Rattle.m2v_idct.proofs.FourLanes.{asked, difference_bound, zipped}
use Rattle.m2v_idct.proofs.forward_lanes.less.Goals as goal

pub overflow_sub-result : goal.overflow_sub-result
overflow_sub-result c = asked 67200000 72089600 139289600 (λ (a b : ℤ). a -ℤ b) (difference_bound 67200000 72089600 139289600 (omega arith)) (omega arith) (omega arith) (omega arith) c.args.x c.args.y c.requires.x c.requires.y

pub returns : goal.returns
returns c = zipped 67200000 72089600 139289600 (λ (a b : ℤ). a -ℤ b) (difference_bound 67200000 72089600 139289600 (omega arith)) (omega arith) (omega arith) (omega arith) c.args.x c.args.y c.requires.x c.requires.y
