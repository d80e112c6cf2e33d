use Rattle.m2v_core.proofs.Noted.{replicate_more}
use Rattle.m2v_core.proofs.machine.none_published.Goals as goal

pub loop-i-preserved : goal.loop-i-preserved
loop-i-preserved g c = rw (c.in_ok-push.ensures.items, c.loop-i.invariant) (replicate_more _ _)
