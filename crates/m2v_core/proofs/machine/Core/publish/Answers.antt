use Rattle.std.proofs.Common.{arith, ap, sym, ◌∙◌, ◌<◌, subst}
use mathlib.Core.Logic.{inr}
use Rattle.m2v_core.specs.Lists.{lists}
use Rattle.m2v_core.specs.Core.{State, workers}
use Rattle.m2v_core.proofs.Good.{open_below}
use Rattle.m2v_core.proofs.Noted.{length_lists}
use Rattle.m2v_core.proofs.Answers.{publish_not_open, publish_missing, publish_done}
use Rattle.m2v_core.proofs.machine.Core.publish.Goals as goal

pub returns-then-not-is_open-clause-stepped : goal.returns-then-not-is_open-clause-stepped
returns-then-not-is_open-clause-stepped g c =
    let in_ = c.self.inside in
    let s : State g.row.B-Piece.Denot = record { jobs = in_.jobs; next = in_.next; claimed = lists in_.claimed.items; published = in_.published.items } in
    let lt : c.args.worker < workers s = omega (arith, length_lists in_.claimed.items, in_.claimed.ok.0, c.if-worker-workers.false, c.len-workers.ensures) in
    let is = rw (c.claims_of-claims.ensures, c.as_slice.ensures.value, c.as_slice-published.ensures.value) at c.if-not-is_open.ensures in
    let count = rw (c.claims_of-claims.ensures, c.as_slice.ensures.value, c.as_slice-published.ensures.value) at c.count_open.ensures in
    let t = publish_not_open (g.B.JobBook.value in_.of.value) (g.B.JobBook.needs in_.of.value) s c.args.worker c.args.job lt (sym is) in
    rw (← c.self.view_is, count) (inr t)

pub needs-requires-clause-job : goal.needs-requires-clause-job
needs-requires-clause-job g c =
    let in_ = c.self.inside in
    let s : State g.row.B-Piece.Denot = record { jobs = in_.jobs; next = in_.next; claimed = lists in_.claimed.items; published = in_.published.items } in
    let lt : c.args.worker < workers s = omega (arith, length_lists in_.claimed.items, in_.claimed.ok.0, c.if-worker-workers.false, c.len-workers.ensures) in
    let is = rw (c.claims_of-claims.ensures, c.as_slice.ensures.value, c.as_slice-published.ensures.value) at c.if-not-is_open.ensures in
    let below = open_below (g.B.JobBook.value in_.of.value) s c.args.worker c.args.job c.self.invariant.good lt (sym is) in
    let book = ap (λ m. m.book) c.self.view_is ∙ c.requires in
    subst (λ (b : g.row.B.Denot). c.args.job < g.B.JobBook.jobs b) book (omega (arith, c.self.invariant.good.next, c.self.invariant.count))

pub returns-in-Some-clause-stepped : goal.returns-in-Some-clause-stepped
returns-in-Some-clause-stepped g c =
    let in_ = c.self.inside in
    let s : State g.row.B-Piece.Denot = record { jobs = in_.jobs; next = in_.next; claimed = lists in_.claimed.items; published = in_.published.items } in
    let lt : c.args.worker < workers s = omega (arith, length_lists in_.claimed.items, in_.claimed.ok.0, c.if-worker-workers.false, c.len-workers.ensures) in
    let is = rw (c.claims_of-claims.ensures, c.as_slice.ensures.value, c.as_slice-published.ensures.value) at c.if-not-is_open.ensures in
    let below = open_below (g.B.JobBook.value in_.of.value) s c.args.worker c.args.job c.self.invariant.good lt (sym is) in
    let book = ap (λ m. m.book) c.self.view_is ∙ c.requires in
    let found = rw (c.as_slice-2.ensures, c.needs.ensures, c.as_slice-published.ensures.value, ← book) at c.in-Some.ensures in
    let t = publish_missing (g.B.JobBook.value in_.of.value) (g.B.JobBook.needs in_.of.value) s c.args.worker c.args.job c.in-Some.need lt (sym is) (sym found) in
    rw (← c.self.view_is) (inr t)

pub add_piece-requires-clause-drawn : goal.add_piece-requires-clause-drawn
add_piece-requires-clause-drawn g c = λ κs l.
    let in_ = c.self.inside in
    let s : State g.row.B-Piece.Denot = record { jobs = in_.jobs; next = in_.next; claimed = lists in_.claimed.items; published = in_.published.items } in
    let lt : c.args.worker < workers s = omega (arith, length_lists in_.claimed.items, in_.claimed.ok.0, c.if-worker-workers.false, c.len-workers.ensures) in
    let is = rw (c.claims_of-claims.ensures, c.as_slice.ensures.value, c.as_slice-published.ensures.value) at c.if-not-is_open.ensures in
    let below = open_below (g.B.JobBook.value in_.of.value) s c.args.worker c.args.job c.self.invariant.good lt (sym is) in
    rw (← c.self.view_is) below

pub add_piece-requires-clause-none_missing : goal.add_piece-requires-clause-none_missing
add_piece-requires-clause-none_missing g c = λ κs l.
    let none = rw (c.as_slice-2.ensures, c.as_slice-published.ensures.value) at c.in_default.ensures in
    rw (← c.self.view_is) (sym none)

pub returns-in-Ok-clause-stepped : goal.returns-in-Ok-clause-stepped
returns-in-Ok-clause-stepped g c =
    let in_ = c.self.inside in
    let s : State g.row.B-Piece.Denot = record { jobs = in_.jobs; next = in_.next; claimed = lists in_.claimed.items; published = in_.published.items } in
    let lt : c.args.worker < workers s = omega (arith, length_lists in_.claimed.items, in_.claimed.ok.0, c.if-worker-workers.false, c.len-workers.ensures) in
    let is = rw (c.claims_of-claims.ensures, c.as_slice.ensures.value, c.as_slice-published.ensures.value) at c.if-not-is_open.ensures in
    let book = ap (λ m. m.book) c.self.view_is ∙ c.requires in
    let none = rw (c.as_slice-2.ensures, c.as_slice-published.ensures.value, c.needs.ensures, ← book) at c.in_default.ensures in
    let t = publish_done (g.B.JobBook.value in_.of.value) (g.B.JobBook.needs in_.of.value) s c.args.worker c.args.job lt (sym is) (sym none) in
    rw (c.in-Ok.ensures.done, ← c.self.view_is) (inr t)
