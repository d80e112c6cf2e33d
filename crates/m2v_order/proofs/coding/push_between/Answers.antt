use Rattle.m2v_order.specs.Groups.{jobs_of}
use Rattle.std.proofs.Common.{arith}
use Rattle.m2v_order.proofs.Orders.{between_more}
use Rattle.m2v_order.proofs.coding.push_between.Goals as goal

pub loop-display-preserved : goal.loop-display-preserved
loop-display-preserved c =
    rw (c.in_ok-push_frame.ensures.ok, c.loop-display.invariant)
    (between_more (jobs_of c.args.settings.now c.args.count c.args.first) c.args.pictures.now.items c.args.from c.loop-display.display (omega arith))
