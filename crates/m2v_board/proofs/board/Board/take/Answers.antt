use Rattle.std.proofs.Common.{◌∙◌, ap, sym}
use Rattle.m2v_board.specs.Slots.{jobs_in}
use Rattle.m2v_board.proofs.Slots.{slot_there}
use Rattle.m2v_board.proofs.board.Board.take.Goals as goal

pub bring-requires-clause-there : goal.bring-requires-clause-there
bring-requires-clause-there g c = rw (← c.args.pass.now.order) (slot_there c.args.pass.now.seat.me.1 c.args.j c.requires.claimed.0 c.requires.claimed.1)

pub invariant_of-pass : goal.invariant_of-pass
invariant_of-pass g c =
    let old = c.args.pass.now in
    let view = ap (λ m. m.0) c.exchange.ensures.3 ∙ c.bring.ensures.same.1 in
    record {
      stands = rw view old.stands;
      at_rest = rw view old.at_rest;
      drew_past = rw view old.drew_past;
      order = ap (λ m. jobs_in m.1) c.exchange.ensures.3 ∙ sym (ap jobs_in c.bring.ensures.first.2) ∙ c.bring.ensures.order;
      tally = λ i. rw (view, c.bring.ensures.times i) (old.tally i);
      once = λ i. rw (c.bring.ensures.times i) (old.once i);
      room = rw (view, c.bring.ensures.room) old.room;
    }
