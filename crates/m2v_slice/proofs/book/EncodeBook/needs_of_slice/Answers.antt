use Rattle.std.proofs.Common.{◌-◌, ◌≤◌, List, ℕ, length, sym, subst, arith}
use Rattle.m2v_slice.specs.Needs.{needed_few}
use Rattle.m2v_slice.proofs.Lists.{needs_room, needed_before}
use Rattle.m2v_slice.proofs.book.EncodeBook.needs_of_slice.Goals as goal

pub push_slices-requires-clause-picture : goal.push_slices-requires-clause-picture
push_slices-requires-clause-picture c =
    let before = needed_before c.args.self.now c.args.p c.loop-i.i c.needed.new.out c.needed.ensures.written (omega (arith, c.loop-i-test.true, c.len-i-end.ensures)) in
    omega (arith, before, c.get.ensures, c.requires.picture)

pub push_slices-requires-clause-room : goal.push_slices-requires-clause-room
push_slices-requires-clause-room c =
    let few = subst (λ (xs : List ℕ). length xs ≤ 4) (sym c.needed.ensures.written) (needed_few c.args.self.now c.args.p) in
    needs_room c.args.self.now c.args.r c.loop-i.i (c.min.result - c.saturating_sub-first.result) c.loop-i.out c.needed.new.out _ few
    (omega (arith, c.loop-i-test.true, c.len-i-end.ensures)) (omega (arith, c.min.ensures, c.saturating_sub-first.ensures)) c.loop-i.invariant
