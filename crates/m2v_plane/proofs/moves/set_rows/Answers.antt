use Rattle.std.proofs.Common.{◌≡◌, ◌+◌, ◌-◌, ◌*◌, get_or, length, arith, ap, ◌∙◌}
use Rattle.m2v_plane.proofs.Places.{line_set, line_fits, part_at, part_len, plane_is, mixed, mixed_none, mixed_all, mixed_same, mixed_new, frame_line-below}
use Rattle.m2v_plane.specs.Samples.{plane_with_row}
use Rattle.m2v_plane.specs.Sizes.{frame_line}
use Rattle.m2v_plane.proofs.moves.set_rows.Goals as goal

pub loop-line-init : goal.loop-line-init
loop-line-init c = λ r k lt small. mixed_none c.args.columns c.args.height c.args.lines c.args.row c.args.plane.now (λ l x. get_or c.args.samples.now (l * c.args.columns + x) 0) r k

pub loop-line-preserved : goal.loop-line-preserved
loop-line-preserved c =
    let n = c.loop-line.line in
    let w = c.args.columns in
    let p = frame_line c.args.lines (c.args.row * c.args.height + n) in
    let below = frame_line-below c.args.lines (c.args.row * c.args.height + n) c.args.total (omega arith) in
    let fits = line_fits p c.args.total w w below (omega arith) in
    let inside = line_fits n c.args.height w w (omega arith) (omega arith) in
    let at = c.line_start-at.result in
    let len = part_len c.loop-line.plane at (at + w - at) (omega arith) in
    let same : length c.copy_from_slice.new.self ≡ w = omega (arith, c.copy_from_slice.ensures.len, len) in
    rw c.line_start-at.ensures.value
    (line_set
    (mixed w c.args.height c.args.lines c.args.row n c.args.plane.now (λ l x. get_or c.args.samples.now (l * w + x) 0))
    (mixed w c.args.height c.args.lines c.args.row (n + 1) c.args.plane.now (λ l x. get_or c.args.samples.now (l * w + x) 0))
    c.args.total p w (p * w + w - p * w) c.loop-line.plane c.copy_from_slice.new.self
    (omega arith) (omega arith) same c.loop-line.invariant
    (λ r k lt small other. mixed_same w c.args.height c.args.lines c.args.row n c.args.plane.now (λ l x. get_or c.args.samples.now (l * c.args.columns + x) 0) r k (omega arith) other)
    (λ k lt. ap (λ ys. get_or ys k 0) c.copy_from_slice.ensures.after
    ∙ part_at c.args.samples.now (n * w) (n * w + w - n * w) k (omega arith)
    ∙ mixed_new w c.args.height c.args.lines c.args.row n c.args.plane.now (λ l x. get_or c.args.samples.now (l * w + x) 0) k (omega arith)))

pub returns : goal.returns
unfolding plane_with_row
returns c = record {
  value = plane_is c.loop-line.plane c.args.total c.args.columns _ (omega arith)
      (λ r k lt small. c.loop-line.invariant r k lt small
      ∙ ap (λ n. mixed c.args.columns c.args.height c.args.lines c.args.row n c.args.plane.now (λ l x. get_or c.args.samples.now (l * c.args.columns + x) 0) r k) (omega arith)
      ∙ mixed_all c.args.columns c.args.height c.args.lines c.args.row c.args.plane.now (λ l x. get_or c.args.samples.now (l * c.args.columns + x) 0) r k (omega arith));
}
