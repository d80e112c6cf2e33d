use Rattle.std.proofs.Common.{◌≡◌, ◌<◌, ap, sym, ◌∙◌, arith, length, get_or}
use Rattle.atomic_table.specs.Table.{turned}
use Rattle.m2v_board.specs.Rule.{times}
use Rattle.m2v_board.specs.Slots.{jobs_in, slot_at}
use Rattle.m2v_board.proofs.Slots.{from, turn_more, times_from, jobs_from, slot_from, first_from, length_jobs}
use Rattle.m2v_board.proofs.laid.bring.Goals as goal

pub loop-i-preserved : goal.loop-i-preserved
loop-i-preserved g c =
    let l = c.args.seat.now.me.1 in
    let inv = c.loop-i.invariant in
    let lt : c.loop-i._i < length l = omega (arith, c.loop-i-test.true, c.place_of-place.ensures.within, ap length c.requires.order, length_jobs l) in
    record {
      table = c.turn.ensures.0 ∙ inv.table;
      view = ap (λ m. m.0) c.turn.ensures.2 ∙ inv.view;
      slots = ap (λ m. m.1) c.turn.ensures.2 ∙ ap turned inv.slots ∙ turn_more c.loop-i._i l lt;
    }

pub returns-clause-first : goal.returns-clause-first
returns-clause-first g c =
    let l = c.args.seat.now.me.1 in
    let p = c.loop-i._i in
    let order = c.requires.order in
    let is : c.loop-i._i ≡ c.place_of-place.result = omega (arith, c.loop-i-test.false, c.loop-i.auto._i-end) in
    let lt : c.loop-i._i < length l = omega (arith, is, c.place_of-place.ensures.within, ap length order, length_jobs l) in
    let t = first_from p l c.args.j lt (ap (λ m. get_or m p 0) order ∙ ap (λ n. get_or c.args.queue.now.items n 0) is ∙ c.place_of-place.ensures.found) (λ i. rw order (c.requires.once i)) in
    rw c.loop-i.invariant.slots t

pub returns-clause-slots : goal.returns-clause-slots
returns-clause-slots g c = λ i. ap (λ m. slot_at m i) c.loop-i.invariant.slots ∙ slot_from c.loop-i._i c.args.seat.now.me.1 i (rw c.requires.order (c.requires.once i))

pub returns-clause-order : goal.returns-clause-order
returns-clause-order g c =
    let is : c.loop-i._i ≡ c.place_of-place.result = omega (arith, c.loop-i-test.false, c.loop-i.auto._i-end) in
    ap jobs_in c.loop-i.invariant.slots ∙ jobs_from c.loop-i._i c.args.seat.now.me.1 ∙ ap (from c.loop-i._i) c.requires.order ∙ ap (λ n. from n c.args.queue.now.items) is ∙ sym c.rotate_left.ensures.items

pub returns-clause-times : goal.returns-clause-times
returns-clause-times g c = λ i. ap (times i) c.rotate_left.ensures.items ∙ times_from i c.place_of-place.result c.args.queue.now.items
