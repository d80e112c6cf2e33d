use Rattle.std.proofs.Common.{arith}
use Rattle.m2v_core.specs.Lists.{lists}
use Rattle.m2v_core.specs.Core.{State}
use Rattle.m2v_core.proofs.Good.{claim_good}
use Rattle.m2v_core.proofs.Noted.{length_lists}
use Rattle.m2v_core.proofs.machine.Core.claim.Goals as goal

pub invariant_of-self : goal.invariant_of-self
invariant_of-self g c =
    let in_ = c.self.inside in
    let s : State g.row.B-Piece.Denot = record { jobs = in_.jobs; next = in_.next; claimed = lists in_.claimed.items; published = in_.published.items } in
    let size = length_lists in_.claimed.items in
    let good = claim_good (g.B.JobBook.value in_.of.value) s c.args.worker c.self.invariant.good (omega (arith, size, in_.claimed.ok.0, c.if-worker-workers.false, c.len-workers.ensures)) (omega (arith, c.self.invariant.good.next, c.if-self.false)) in
    rw c.in-Ok.ensures.done (record { count = c.self.invariant.count; good = good; fits = c.self.invariant.fits })
