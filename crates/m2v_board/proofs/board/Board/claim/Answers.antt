use Rattle.std.proofs.Common.{◌<◌, ◌∷◌, ◌∙◌, ltb, ap, sym, arith}
use mathlib.Core.Bool.{true≢false}
use Rattle.m2v_board.specs.Slots.{jobs_in}
use Rattle.m2v_board.specs.Passes.{jobs_of}
use Rattle.m2v_board.proofs.Tallies.{fewer_open, open_below, none_drawn, claim_tally, claim_once, past_same, not_past}
use Rattle.m2v_board.proofs.board.Board.claim.Goals as goal

pub push_front_reserved-requires : goal.push_front_reserved-requires
push_front_reserved-requires g c =
    let old = c.args.pass.now in
    let r = c.draw-drawn.result in
    let n = old.seat.me.0.jobs in
    let lt : r < n = omega (arith, c.if-drawn-self.true, c.requires.pass.1, c.args.self.now.sized.2) in
    let gone = none_drawn n r _ _ _ (old.tally r) c.draw-drawn.ensures.drew.3 in
    let few = fewer_open n r old.queue.items lt gone old.once (λ i p. open_below n i _ _ _ (old.tally i) p) in
    omega (arith, few, old.room, old.queue.ok.0)

pub invariant_of-pass : goal.invariant_of-pass
invariant_of-pass g c =
    let old = c.args.pass.now in
    let r = c.draw-drawn.result in
    let n = old.seat.me.0.jobs in
    let e = c.draw-drawn.ensures.drew in
    let q = c.push_front_reserved.ensures.items in
    let lt : r < n = omega (arith, c.if-drawn-self.true, c.requires.pass.1, c.args.self.now.sized.2) in
    let gone = none_drawn n r _ _ _ (old.tally r) e.3 in
    record {
      stands = rw e.0 old.stands;
      at_rest = rw e.0 old.at_rest;
      drew_past = rw e.0 (old.drew_past ∙ ap (ltb 0) (sym (past_same n r old.seat.me.0.drawn lt)));
      order = ap jobs_in (e.2 lt).2 ∙ ap (λ l. r ∷ l) old.order ∙ sym q;
      tally = λ i. rw (e.0, q) (claim_tally n r i old.queue.items old.seat.me.0.drawn old.seat.me.0.published lt (old.tally i));
      once = λ i. rw q (claim_once r i old.queue.items gone (old.once i));
      room = rw (e.0, c.push_front_reserved.ensures.capacity) old.room;
    }

pub returns-then-drawn-self-clause-none : goal.returns-then-drawn-self-clause-none
returns-then-drawn-self-clause-none g c =
    let old = c.args.pass.now in
    let e = c.draw-drawn.ensures.drew in
    let lt : c.draw-drawn.result < jobs_of c.args.self.now = omega (arith, c.if-drawn-self.true, c.args.self.now.sized.2) in
    let zero = rw c.requires.pass.1 at (not_past _ _ old.drew_past c.if-pass.false) in
    let same = past_same (jobs_of c.args.self.now) c.draw-drawn.result old.seat.me.0.drawn lt in
    ((λ h. absurd (true≢false h)), (λ p. let more = rw e.0 at p in absurd (omega (arith, more, same, zero))))

pub returns-else-drawn-self-clause-ended : goal.returns-else-drawn-self-clause-ended
returns-else-drawn-self-clause-ended g c = λ p.
    let zero = rw c.requires.pass.1 at (not_past _ _ c.args.pass.now.drew_past c.if-pass.false) in
    absurd (omega (arith, p, zero))
