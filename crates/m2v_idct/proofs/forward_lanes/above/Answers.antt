use Rattle.std.proofs.Common.{arith, refl}
use Rattle.m2v_idct.proofs.AllLanes.{shifted_by, wider}
use Rattle.m2v_idct.proofs.forward_lanes.above.Goals as goal

pub returns : goal.returns
returns c = shifted_by 16 (λ a. refl) 8 c.args.x c.requires.len (wider 67200000 2147483647 (omega arith) c.args.x c.requires.within)
