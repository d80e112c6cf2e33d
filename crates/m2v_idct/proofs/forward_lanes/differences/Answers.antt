use Rattle.std.proofs.Common.{arith, ◌-ℤ◌, ℤ}
use Rattle.m2v_idct.proofs.FourLanes.{difference_bound}
use Rattle.m2v_idct.proofs.AllLanes.{fits_short, both_asked, both_are}
use Rattle.m2v_idct.proofs.forward_lanes.differences.Goals as goal

pub overflow_sub-result : goal.overflow_sub-result
overflow_sub-result c = both_asked _ 32767 fits_short 16383 16383 32766 (λ (a b : ℤ). a -ℤ b) (difference_bound 16383 16383 32766 (omega arith)) (omega arith) (omega arith) (omega arith) c.args.x c.args.y c.requires.x c.requires.y

pub returns : goal.returns
returns c = both_are _ 32767 fits_short 16383 16383 32766 (λ (a b : ℤ). a -ℤ b) (difference_bound 16383 16383 32766 (omega arith)) (omega arith) (omega arith) (omega arith) c.args.x c.args.y c.requires.x c.requires.y
