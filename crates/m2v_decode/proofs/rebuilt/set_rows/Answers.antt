use Rattle.std.proofs.Common.{◌≡◌, ℕ, ◌<◌, Option, ap, subst, ◌∙◌, arith}
use Rattle.m2v_plane.specs.Samples.{Samples}
use Rattle.m2v_model.specs.Pictures.{on_frame}
use Rattle.m2v_dec_rows.specs.m2v_dec_picture.Frames.{Frames}
use Rattle.m2v_dec_rows.specs.InFrames.{rows_set}
use Rattle.m2v_decode.proofs.TakeLaws.{set_none, current_more, row_there, row_same}
use Rattle.m2v_decode.proofs.rebuilt.set_rows.Goals as goal

pub loop-row-init : goal.loop-row-init
loop-row-init g c =
    ap (λ (x : Option Samples). record c.args.gallery.now { current = x }) (set_none c.args.opened.now.context.extension.structure (g.R.PictureRows.samples c.args.rows.now) c.args.gallery.now.current)

pub set_row-requires-clause-row : goal.set_row-requires-clause-row
set_row-requires-clause-row g c =
    let o = c.args.opened.now in
    row_there o.context.extension.structure c.loop-row.row c.own_lines-lines.result (g.R.PictureRows.samples c.args.rows.now) o.dims c.loop-row.gallery.current c.args.gallery.now.current c.own_lines-lines.ensures.value
    (subst (λ (n : ℕ). c.loop-row.row < n) c.requires.count c.loop-row-test.true) c.requires.size (ap (λ (f : Frames). f.current) c.loop-row.invariant)

pub set_row-requires-clause-same : goal.set_row-requires-clause-same
set_row-requires-clause-same g c =
    let o = c.args.opened.now in
    row_same o.context.extension.structure c.loop-row.row (g.R.PictureRows.samples c.args.rows.now) c.row.result.now o.dims c.loop-row.gallery.current c.args.gallery.now.current c.row.ensures
    (c.requires.same c.loop-row.row c.loop-row-test.true) c.requires.size (ap (λ (f : Frames). f.current) c.loop-row.invariant)

pub loop-row-preserved : goal.loop-row-preserved
loop-row-preserved g c =
    let o = c.args.opened.now in
    let at = c.loop-row.invariant in
    let next = current_more o.context.extension.structure (g.R.PictureRows.samples c.args.rows.now) c.loop-row.row c.own_lines-lines.result c.row.result.now c.loop-row.gallery.current c.args.gallery.now.current
    c.own_lines-lines.ensures.value c.row.ensures (ap (λ (f : Frames). f.current) at) in
    c.set_row.ensures ∙ (λ i. record (at i) { current = next i })

pub returns : goal.returns
returns g c =
    let o = c.args.opened.now in
    let last : c.loop-row.row ≡ o.rows = omega (arith, c.loop-row-test.false, c.loop-row.auto.row-end) in
    subst (λ (n : ℕ). c.loop-row.gallery ≡ record c.args.gallery.now { current = on_frame (rows_set o.context.extension.structure (g.R.PictureRows.samples c.args.rows.now) n) c.args.gallery.now.current }) last c.loop-row.invariant
