use Rattle.std.proofs.Common.{◌≡◌, ◌+◌, ◌-◌, ◌*◌, get_or, length, arith, ap, ◌∙◌, min, take, drop}
use Rattle.m2v_plane.proofs.Places.{line_more, line_fits, part_at, part_len, plane_is}
use Rattle.m2v_plane.specs.Raw.{padded}
use Rattle.m2v_plane.proofs.moves.pad_plane.Goals as goal

pub loop-line-preserved : goal.loop-line-preserved
loop-line-preserved c =
    let n = c.loop-line.line in
    let w = c.args.columns in
    let h = c.args.height in
    let fits = line_fits n c.args.lines w w (omega arith) (omega arith) in
    let a = c.min.result * c.args.width in
    let m = a + c.args.width - a in
    let len = part_len c.loop-line.out (n * w) (n * w + w - n * w) (omega arith) in
    let inside = line_fits c.min.result h c.args.width c.args.width (omega arith) (omega arith) in
    let is : length (take m (drop a c.args.bytes.now)) ≡ c.args.width = part_len c.args.bytes.now a m (omega arith) ∙ omega arith in
    line_more (λ r k. get_or c.args.bytes.now (min r (h - 1) * c.args.width + min k (c.args.width - 1)) 0) n w (n * w + w - n * w) c.loop-line.out c.pad_line.new.out
    (omega arith) (omega arith) (omega (arith, c.pad_line.auto.out, len)) c.loop-line.invariant
    (λ k lt. c.pad_line.ensures.value k (omega (arith, len))
    ∙ ap (λ j. get_or (take m (drop a c.args.bytes.now)) (min k (j - 1)) 0) is
    ∙ part_at c.args.bytes.now a m (min k (c.args.width - 1)) (omega arith)
    ∙ ap (λ j. get_or c.args.bytes.now (j * c.args.width + min k (c.args.width - 1)) 0) c.min.ensures)

pub returns : goal.returns
unfolding padded
returns c = record {
  value = plane_is c.loop-line.out c.args.lines c.args.columns (λ r k. get_or c.args.bytes.now (min r (c.args.height - 1) * c.args.width + min k (c.args.width - 1)) 0) (omega arith)
      (λ r k lt small. c.loop-line.invariant r k (omega arith) small);
}
