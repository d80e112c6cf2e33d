use Rattle.m2v_core.proofs.Noted.{lists_more}
use Rattle.m2v_core.proofs.machine.no_claims.Goals as goal

pub loop-i-preserved : goal.loop-i-preserved
loop-i-preserved c = rw c.in_ok-push.ensures.items (lists_more c.loop-i.claimed.items c.new.result c.loop-i._i c.loop-i.invariant c.new.ensures.items)
