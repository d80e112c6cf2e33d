use Rattle.std.proofs.Common.{sym, arith}
use Rattle.m2v_audit.specs.Feeding.{with_again}
use Rattle.m2v_audit.proofs.FeedLaws.{handed_again}
use Rattle.m2v_audit.proofs.feed.Feed.next_piece.Goals as goal

pub next_piece-requires : goal.next_piece-requires
unfolding with_again
next_piece-requires g c = rw (sym c.in-None.ensures.value) at c.requires.going

pub returns-in-Some-clause-ok : goal.returns-in-Some-clause-ok
unfolding with_again
returns-in-Some-clause-ok g c = let w = rw (sym c.in-Some.ensures.value) at c.requires.waits in rw (sym c.in-Some.ensures.value, c.in-Some.ensures.after) (handed_again _ _ _ w)

pub returns-in-Some-clause-going : goal.returns-in-Some-clause-going
unfolding with_again
returns-in-Some-clause-going g c = rw c.in-Some.ensures.after (rw (sym c.in-Some.ensures.value) at c.requires.going)

pub returns-in-Some-clause-onward : goal.returns-in-Some-clause-onward
unfolding with_again
returns-in-Some-clause-onward g c = let w = rw (sym c.in-Some.ensures.value) at c.requires.waits in rw (sym c.in-Some.ensures.value, c.in-Some.ensures.after) (omega arith, w.end)

pub returns-in-Some-clause-begun : goal.returns-in-Some-clause-begun
unfolding with_again
returns-in-Some-clause-begun g c = let w = rw (sym c.in-Some.ensures.value) at c.requires.waits in rw c.in-Some.ensures.after w.begun

pub returns-in-None-clause-ok : goal.returns-in-None-clause-ok
unfolding with_again
returns-in-None-clause-ok g c = rw (sym c.in-None.ensures.value, c.in-None.ensures.after) c.next_piece.ensures.ok

pub returns-in-None-clause-going : goal.returns-in-None-clause-going
unfolding with_again
returns-in-None-clause-going g c = rw c.in-None.ensures.after c.next_piece.ensures.going

pub returns-in-None-clause-err : goal.returns-in-None-clause-err
unfolding with_again
returns-in-None-clause-err g c = rw (sym c.in-None.ensures.value) c.next_piece.ensures.err

pub returns-in-None-clause-onward : goal.returns-in-None-clause-onward
unfolding with_again
returns-in-None-clause-onward g c = rw (sym c.in-None.ensures.value, c.in-None.ensures.after) c.next_piece.ensures.onward

pub returns-in-None-clause-begun : goal.returns-in-None-clause-begun
unfolding with_again
returns-in-None-clause-begun g c = rw c.in-None.ensures.after c.next_piece.ensures.begun

pub returns-in-None-clause-over : goal.returns-in-None-clause-over
unfolding with_again
returns-in-None-clause-over g c = rw c.in-None.ensures.after c.next_piece.ensures.over
