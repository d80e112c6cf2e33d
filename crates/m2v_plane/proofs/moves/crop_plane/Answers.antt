use Rattle.std.proofs.Common.{◌+◌, ◌-◌, ◌*◌, get_or, arith, ap, ◌∙◌}
use Rattle.m2v_plane.proofs.Places.{line_more, line_fits, part_at, part_len, plane_is}
use Rattle.m2v_plane.specs.Raw.{shown}
use Rattle.m2v_plane.proofs.moves.crop_plane.Goals as goal

pub loop-row-preserved : goal.loop-row-preserved
loop-row-preserved c =
    let n = c.loop-row.row in
    let w = c.args.width in
    let fits = line_fits n c.args.height w w (omega arith) (omega arith) in
    let len = part_len c.loop-row.out (n * w) (n * w + w - n * w) (omega arith) in
    line_more (λ r k. get_or c.args.plane.now (r * c.args.columns + k) 0) n w (n * w + w - n * w) c.loop-row.out c.copy_from_slice.new.self
    (omega arith) (omega arith) (omega (arith, c.copy_from_slice.ensures.len, len)) c.loop-row.invariant
    (λ k lt. ap (λ ys. get_or ys k 0) c.copy_from_slice.ensures.after ∙ part_at c.args.plane.now (n * c.args.columns) (n * c.args.columns + w - n * c.args.columns) k (omega arith))

pub returns : goal.returns
unfolding shown
returns c = record { value = plane_is c.loop-row.out c.args.height c.args.width (λ r k. get_or c.args.plane.now (r * c.args.columns + k) 0) (omega arith) (λ r k lt small. c.loop-row.invariant r k (omega arith) small) }
