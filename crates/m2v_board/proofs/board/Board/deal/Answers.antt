use Rattle.std.proofs.Common.{sym, ap, arith, ◌≡◌, ◌+◌, ◌-◌, [], ◌∙◌}
use Rattle.std.specs.Vec.{vec_len}
use Rattle.std.proofs.lemmas.List.Elements.{All-pop, All-push}
use Rattle.m2v_board.specs.Rule.{first_view}
use Rattle.m2v_board.specs.Slots.{IsRoom}
use Rattle.m2v_board.specs.Steps.{fewer}
use Rattle.m2v_board.specs.Passes.{IsNew, jobs_of}
use Rattle.m2v_board.proofs.board.Board.deal.Goals as goal

pub loop-queue-preserved : goal.loop-queue-preserved
loop-queue-preserved g c =
    let inv = c.loop-queue.invariant in
    let n = jobs_of c.args.self.now in
    let one : vec_len c.loop-queue.rooms ≡ vec_len c.pop.new.self + 1 = sym c.in-Some.ensures.cases in
    record {
      fits = c.another.ensures.same ∙ inv.fits;
      idle = c.another.ensures.fewer ∙ ap (λ m. (fewer m.0, m.1)) inv.idle ∙ (let e : vec_len c.loop-queue.rooms + 1 - 1 ≡ vec_len c.pop.new.self + 1 = omega arith in ap (λ k. (first_view n k, [])) e);
      count = (let a = c.push_reserved.ensures.len in let b = inv.count in omega arith);
      space = c.push_reserved.ensures.capacity ∙ inv.space;
      rooms = (All-pop (λ q. IsRoom n q) _ _ _ c.pop.ensures.items inv.rooms).0;
      all = rw c.push_reserved.ensures.items (All-push (λ p. IsNew c.args.self.now p) c.loop-queue.passes.items c.another.result inv.all c.another.ensures.new);
    }

pub new-requires-clause-seat : goal.new-requires-clause-seat
new-requires-clause-seat g c = λ κs l.
    let inv = c.loop-queue.invariant in
    let none : vec_len c.loop-queue.rooms ≡ 0 = c.in_default.ensures.cases.0 in
    (jobs_of c.args.self.now, inv.idle ∙ (let e : vec_len c.loop-queue.rooms + 1 ≡ 1 = omega arith in ap (λ k. (first_view (jobs_of c.args.self.now) k, [])) e), c.requires.rooms.0)

pub returns : goal.returns
returns g c =
    let inv = c.loop-queue.invariant in
    let none : vec_len c.loop-queue.rooms ≡ 0 = c.in_default.ensures.cases.0 in
    let idle = inv.idle ∙ (let e : vec_len c.loop-queue.rooms + 1 ≡ 1 = omega arith in ap (λ k. (first_view (jobs_of c.args.self.now) k, [])) e) in
    let new : IsNew c.args.self.now c.new.result = rw c.new.ensures ((inv.fits, ap (λ m. m.0.jobs) idle), idle) in (
      (let a = c.push_reserved-2.ensures.len in let b = inv.count in omega arith),
      rw c.push_reserved-2.ensures.items (All-push (λ p. IsNew c.args.self.now p) c.loop-queue.passes.items c.new.result inv.all new),
    )
