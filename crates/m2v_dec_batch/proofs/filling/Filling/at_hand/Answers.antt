use Rattle.std.proofs.Common.{sym}
use Rattle.m2v_dec_batch.proofs.Presence.{at_first, at_next}
use Rattle.m2v_dec_batch.proofs.Exchanging.{any_there}
use Rattle.m2v_dec_batch.proofs.filling.Filling.at_hand.Goals as goal

pub loop-p-init : goal.loop-p-init
loop-p-init c =
    let f = c.self.inside in
    rw (← c.self.view_is) (at_first _ f.before (sym (any_there f.dims f.before.older)) (sym (any_there f.dims f.before.newer)) (sym (any_there f.dims f.before.first)))

pub loop-p-preserved : goal.loop-p-preserved
loop-p-preserved c =
    let step = c.behind-at.ensures in
    at_next c.args.self.now c.loop-p.p c.loop-p.at c.behind-at.result c.header.result c.loop-p.invariant c.header.ensures.value step.older step.newer step.first
