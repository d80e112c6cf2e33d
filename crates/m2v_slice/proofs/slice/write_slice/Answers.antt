use Rattle.std.proofs.Common.{◌+◌, List, Bool, ◌++◌, length, ap, ◌∙◌, arith}
use Rattle.std.proofs.lemmas.List.{length-append, length-replicate}
use Rattle.m2v_bits.specs.Bits.{aligned}
use Rattle.m2v_slice.specs.Slices.{begun}
use Rattle.m2v_slice.specs.Steps.{task_by}
use Rattle.m2v_slice.proofs.Whole.{header_long, slice_text_is, slice_row_is, slice_work_is}
use Rattle.m2v_slice.proofs.slice.write_slice.Goals as goal

pub code_row-work-requires-clause-header : goal.code_row-work-requires-clause-header
code_row-work-requires-clause-header g c = ap length c.write_header.ensures.written ∙ header_long (c.args.plan.now.row + 1) c.args.plan.now.q

pub returns-clause-text : goal.returns-clause-text
returns-clause-text g c =
    let t = task_by c.args.source.now (g.V.RefView.at c.args.forward.now) (g.V.RefView.at c.args.backward.now) c.args.context.now c.args.plan.now in
    c.align.ensures.written
    ∙ ap aligned (c.code_row-work.ensures.written ∙ ap (λ (xs : List Bool). xs ++ (begun t c.args.row.now t.context.columns).text) c.write_header.ensures.written)
    ∙ slice_text_is t c.args.row.now (record { dims = c.requires.row; rows = c.dims-dims.ensures.whole }) c.requires.slice.columns

pub returns-clause-row : goal.returns-clause-row
returns-clause-row g c =
    let t = task_by c.args.source.now (g.V.RefView.at c.args.forward.now) (g.V.RefView.at c.args.backward.now) c.args.context.now c.args.plan.now in
    c.code_row-work.ensures.row ∙ slice_row_is t c.args.row.now (record { dims = c.requires.row; rows = c.dims-dims.ensures.whole }) c.requires.slice.columns

pub returns-clause-room : goal.returns-clause-room
returns-clause-room g c =
    let head = ap length c.write_header.ensures.written ∙ header_long (c.args.plan.now.row + 1) c.args.plan.now.q in
    let last = ap length c.align.ensures.written ∙ length-append c.code_row-work.new.bits.written _ in
    omega (arith, head, last, length-replicate {A = Bool}, c.align.ensures.room, c.code_row-work.ensures.room, c.write_header.ensures.room, c.clear.ensures.room, c.requires.room)

pub returns-clause-work : goal.returns-clause-work
returns-clause-work g c =
    let t = task_by c.args.source.now (g.V.RefView.at c.args.forward.now) (g.V.RefView.at c.args.backward.now) c.args.context.now c.args.plan.now in
    c.code_row-work.ensures.work ∙ slice_work_is t c.args.row.now (record { dims = c.requires.row; rows = c.dims-dims.ensures.whole }) c.requires.slice.columns
