use Rattle.std.proofs.Common.{◌≡◌, ◌∙◌, ap, arith}
use Rattle.m2v_slice.specs.Slices.{CodedSlice}
use Rattle.m2v_slice.specs.Books.{rows}
use Rattle.m2v_encode.proofs.Pieces.{work_so_far, work_more, work_all, work_small}
use Rattle.m2v_encode.proofs.done.DoneGroup.work.Goals as goal

pub overflow_add-work : goal.overflow_add-work
overflow_add-work c =
    let small = work_small c.args.self.now c.pictures-book.ensures.book c.args.p c.loop-r.r c.requires.picture (omega arith) in
    record { fits = omega (arith, small, c.loop-r.invariant, c.work-work.ensures.value, ap (λ (x : CodedSlice). x.work) c.slice.ensures.value) }

pub loop-r-preserved : goal.loop-r-preserved
loop-r-preserved c =
    omega (arith, c.loop-r.invariant, c.work-work.ensures.value, ap (λ (x : CodedSlice). x.work) c.slice.ensures.value, work_more c.args.self.now c.args.p c.loop-r.r)

pub returns : goal.returns
returns c =
    let end : c.loop-r.r ≡ rows c.args.self.now = omega (arith, c.rows-r-end.ensures.value) in
    record { value = c.loop-r.invariant ∙ ap (work_so_far c.args.self.now c.args.p) end ∙ work_all c.args.self.now c.args.p c.requires.picture }
