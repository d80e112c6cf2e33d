use Rattle.std.proofs.Common.{rules, refl, sym, ap, arith, ◌≡◌, ◌∙◌, cond, ltb}
use Rattle.m2v_board.specs.Rule.{times}
use Rattle.m2v_board.specs.Slots.{jobs_in}
use Rattle.m2v_board.proofs.Joins.{joins_ok, ended_join}
use Rattle.m2v_board.proofs.Slots.{none_open}
use Rattle.m2v_board.proofs.Tallies.{join_tally}
use Rattle.m2v_board.proofs.board.Board.join.Goals as goal

pub join_seat-requires : goal.join_seat-requires
join_seat-requires g c = (search rules, search rules, rw c.into_parts-seat.ensures.0 (none_open _ c.requires.done), search rules, joins_ok _ _ _ _ _ c.args.into.now.stands c.args.into.now.at_rest (rw c.into_parts-seat.ensures.0 c.args.other.at_rest))

pub invariant_of-into : goal.invariant_of-into
invariant_of-into g c =
    let old = c.args.into.now in
    let other = c.args.other in
    let n = old.seat.me.0.jobs in
    let v = old.seat.me.0 in
    let w = other.seat.me.0 in
    let same : w.jobs ≡ n = c.requires.other.1 ∙ sym c.requires.into.1 in
    let none = sym other.order ∙ ap jobs_in (none_open _ c.requires.done) in
    record {
      stands = rw c.join_seat.ensures.2 (let a = old.stands in omega arith);
      at_rest = rw c.join_seat.ensures.2 refl;
      drew_past = rw (c.join_seat.ensures.2, c.into_parts-seat.ensures.0)
          (ended_join _ _ v.drawn w.drawn _ _ _ same old.drew_past (c.into_parts-seat.ensures.1 ∙ other.drew_past) c.either-into.ensures);
      order = rw c.join_seat.ensures.2 old.order;
      tally = λ i. rw (c.join_seat.ensures.2, c.into_parts-seat.ensures.0)
          (join_tally n i old.queue.items v.published v.drawn w.published w.drawn (old.tally i)
          (let t = other.tally i in let z : times i other.queue.items ≡ 0 = ap (times i) none in let u : times i w.published ≡ cond (ltb i w.jobs) (times i w.drawn) 0 = omega arith in u ∙ ap (λ m. cond (ltb i m) (times i w.drawn) 0) same));
      once = old.once;
      room = rw c.join_seat.ensures.2 old.room;
    }
