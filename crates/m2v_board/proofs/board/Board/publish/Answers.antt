use Rattle.std.proofs.Common.{rules, refl, ◌≡◌, ◌+◌, ◌-◌, ◌≤◌, ◌∷◌, ◌∙◌, drop, ap, sym, subst, arith}
use Rattle.std.specs.Prelude.{None}
use Rattle.m2v_board.specs.Rule.{times}
use Rattle.m2v_board.specs.Slots.{jobs_in}
use Rattle.m2v_board.specs.Steps.{publish}
use Rattle.atomic_table.specs.Table.{rest}
use Rattle.m2v_board.proofs.Raises.{raise_at}
use Rattle.m2v_board.proofs.Slots.{slot_there, slot_gone}
use Rattle.m2v_board.proofs.Tallies.{open_below, open_more, publish_tally, rest_once}
use Rattle.m2v_board.proofs.board.Board.publish.Goals as goal

pub bring-requires-clause-there : goal.bring-requires-clause-there
bring-requires-clause-there g c = rw (← c.args.pass.now.order) (slot_there c.args.pass.now.seat.me.1 c.args.j None c.requires.taken)

pub store-requires : goal.store-requires
store-requires g c =
    let old = c.args.pass.now in
    let n = old.seat.me.0.jobs in
    let j = c.args.j in
    let there = rw old.order at (slot_there c.args.pass.now.seat.me.1 c.args.j None c.requires.taken) in
    let lt = rw c.requires.pass.1 at (open_below n j _ _ _ (old.tally j) there) in
    let more = open_more n j _ _ _ (old.tally j) there in
    let same = c.bring.ensures.same.1 in (
      search rules,
      omega (arith, lt, c.args.self.now.sized.0, c.args.self.now.sized.2),
      raise_at _ _ _ c.bring.new.seat.me _ _ _ c.exchange.ensures.3 (rw same old.stands) lt (rw same more) (rw same c.requires.learned) (c.args.post, refl, c.requires.ready),
    )

pub wake_all-requires : goal.wake_all-requires
wake_all-requires g c =
    let old = c.args.pass.now in
    let n = old.seat.me.0.jobs in
    let there = rw old.order at (slot_there c.args.pass.now.seat.me.1 c.args.j None c.requires.taken) in
    let lt = rw c.requires.pass.1 at (open_below n c.args.j _ _ _ (old.tally c.args.j) there) in
    omega (arith, lt, c.args.self.now.sized.0, c.args.self.now.sized.2)

pub invariant_of-pass : goal.invariant_of-pass
invariant_of-pass g c =
    let old = c.args.pass.now in
    let j = c.args.j in
    let e : j + 1 - 1 ≡ j = omega arith in
    let view = ap (λ m. m.0) c.store.ensures.2 ∙ ap (λ m. publish m.0 (j + 1 - 1)) c.exchange.ensures.3 ∙ ap (λ v. publish v (j + 1 - 1)) c.bring.ensures.same.1 ∙ ap (publish old.seat.me.0) e in
    let behind = rest c.bring.new.seat.me.1 in
    let slots = ap (λ m. m.1) c.store.ensures.2 ∙ ap (λ m. rest m.1) c.exchange.ensures.3 in
    let whole : c.bring.new.queue.items ≡ j ∷ jobs_in behind = sym c.bring.ensures.order ∙ ap jobs_in c.bring.ensures.first.2 in
    let left : c.pop_front.new.self.items ≡ jobs_in behind = c.pop_front.ensures.rest ∙ ap (drop 1) whole in
    record {
      stands = rw view old.stands;
      at_rest = rw view old.at_rest;
      drew_past = rw view old.drew_past;
      order = ap jobs_in slots ∙ sym left;
      tally = λ i. rw (view, left) (publish_tally i j _ old.queue.items (jobs_in behind) old.seat.me.0.published (ap (times i) (sym whole) ∙ c.bring.ensures.times i) (old.tally i));
      once = λ i. rw left (rest_once i j (jobs_in behind) (rw (← whole, c.bring.ensures.times i) (old.once i)));
      room = rw (view, c.pop_front.ensures.capacity, c.bring.ensures.room) old.room;
    }

pub returns-clause-shown : goal.returns-clause-shown
returns-clause-shown g c =
    let old = c.args.pass.now in
    let first = c.bring.ensures.first in
    let slots = ap (λ m. m.1) c.store.ensures.2 ∙ ap (λ m. rest m.1) c.exchange.ensures.3 in
    let whole : c.bring.new.queue.items ≡ c.args.j ∷ jobs_in (rest c.bring.new.seat.me.1) = sym c.bring.ensures.order ∙ ap jobs_in first.2 in
    let once : times c.args.j c.bring.new.queue.items ≤ 1 = rw (c.bring.ensures.times c.args.j) (old.once c.args.j) in
    rw slots (slot_gone c.args.j first.0 (rest c.bring.new.seat.me.1) (subst (λ l. times c.args.j l ≤ 1) whole once))
