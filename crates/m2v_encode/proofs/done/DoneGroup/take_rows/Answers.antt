use Rattle.std.proofs.Common.{◌∙◌, ◌+◌, ◌*◌, ◌≤◌, length, sym, ap, refl, subst, arith}
use Rattle.m2v_plane.specs.declared.dims.Dims.{Dims}
use Rattle.m2v_plane.specs.declared.planes.Lines.{Lines}
use Rattle.m2v_plane.specs.Sizes.{part_of}
use Rattle.m2v_plane.specs.Samples.{Samples, with_row}
use Rattle.m2v_set.specs.Numbers.{dims_of, frame_rows_by}
use Rattle.m2v_order.specs.declared.jobs.PictureJob.{PictureJob}
use Rattle.m2v_pred.specs.Motion.{own_lines}
use Rattle.m2v_slice.specs.Slices.{CodedSlice}
use Rattle.m2v_slice.specs.Books.{job_at}
use Rattle.m2v_slice.proofs.Groups.{picture_is_one, row_within}
use Rattle.m2v_slice.proofs.Fitting.{slice_size}
use Rattle.m2v_encode.specs.Rebuilt.{rows_in}
use Rattle.m2v_encode.proofs.Rebuilding.{rows_size, rows_more}
use Rattle.m2v_encode.proofs.done.DoneGroup.take_rows.Goals as goal

pub loop-r-init : goal.loop-r-init
unfolding rows_in
loop-r-init c = refl

pub set_row-requires-clause-row : goal.set_row-requires-clause-row
unfolding dims_of
set_row-requires-clause-row c =
    let b = c.args.self.now in
    let s = b.settings in
    let size = rows_size b c.args.p c.loop-r.r c.args.frame.now c.loop-r.frame c.loop-r.invariant ∙ c.requires.size in
    let lines = c.own_lines-lines.ensures.value ∙ ap (λ (j : PictureJob). own_lines j.structure) c.job.ensures.value in
    let within = row_within s.scan s.height (job_at b c.args.p).structure c.loop-r.r (picture_is_one b c.pictures-book.ensures.book c.args.p c.requires.picture).structure (omega (arith, c.rows-r-end.ensures.value)) in
    subst (λ (d : Dims). 16 * c.loop-r.r + 16 ≤ part_of c.own_lines-lines.result (16 * d.mb_rows)) (sym size)
    (subst (λ (l : Lines). 16 * c.loop-r.r + 16 ≤ part_of l (16 * frame_rows_by s.scan s.height)) (sym lines) within)

pub set_row-requires-clause-same : goal.set_row-requires-clause-same
set_row-requires-clause-same c =
    let b = c.args.self.now in
    let size = rows_size b c.args.p c.loop-r.r c.args.frame.now c.loop-r.frame c.loop-r.invariant ∙ c.requires.size in
    ap (λ (x : Samples). x.dims) (c.row.ensures ∙ ap (λ (x : CodedSlice). x.row) c.slice.ensures.value)
    ∙ slice_size b c.pictures-book.ensures.book (length b.pictures) c.args.p c.loop-r.r c.requires.picture c.requires.picture (omega (arith, c.rows-r-end.ensures.value))
    ∙ sym size

pub loop-r-preserved : goal.loop-r-preserved
loop-r-preserved c =
    let b = c.args.self.now in
    let lines = c.own_lines-lines.ensures.value ∙ ap (λ (j : PictureJob). own_lines j.structure) c.job.ensures.value in
    let row = c.row.ensures ∙ ap (λ (x : CodedSlice). x.row) c.slice.ensures.value in
    rows_more b c.args.p c.loop-r.r c.args.frame.now c.loop-r.frame c.set_row.new.self c.loop-r.invariant
    (c.set_row.ensures.value ∙ ap (λ (l : Lines). with_row c.loop-r.frame l c.loop-r.r c.row.result.now) lines ∙ ap (λ (x : Samples). with_row c.loop-r.frame (own_lines (job_at b c.args.p).structure) c.loop-r.r x) row)
