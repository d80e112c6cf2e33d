use Rattle.std.proofs.Common.{arith, ap, ◌∙◌, ◌<◌, subst}
use Rattle.m2v_core.specs.Lists.{lists}
use Rattle.m2v_core.specs.Core.{State}
use Rattle.m2v_core.proofs.Steps.{published_sound}
use Rattle.m2v_core.proofs.machine.Core.add_piece.Goals as goal

pub computed-requires-clause-job : goal.computed-requires-clause-job
computed-requires-clause-job g c κs within =
    let drawn = rw (← c.self.view_is) at c.requires.drawn in
    let book = ap (λ m. m.book) c.self.view_is ∙ c.requires.book in
    subst (λ (b : g.row.B.Denot). c.args.job < g.B.JobBook.jobs b) book (omega (arith, drawn, c.self.invariant.good.next, c.self.invariant.count))

pub invariant_of-self : goal.invariant_of-self
invariant_of-self g c =
    let in_ = c.self.inside in
    let s : State g.row.B-Piece.Denot = record { jobs = in_.jobs; next = in_.next; claimed = lists in_.claimed.items; published = in_.published.items } in
    let drawn = rw (← c.self.view_is) at c.requires.drawn in
    let book = ap (λ m. m.book) c.self.view_is ∙ c.requires.book in
    published_sound (g.B.JobBook.value in_.of.value) _ (g.B.JobBook.fits_piece in_.of.value) s c.args.job c.in_ok-piece.piece c.self.invariant drawn (rw book c.in_ok-piece.ensures.value) (rw book c.in_ok-piece.ensures.fits)
