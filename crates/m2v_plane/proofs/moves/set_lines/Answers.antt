use Rattle.std.proofs.Common.{◌≡◌, ℕ, ◌<◌, ◌+◌, ◌-◌, ◌*◌, get_or, length, arith, ap, subst, ◌∙◌}
use Rattle.m2v_plane.proofs.Places.{line_set, line_fits, part_at, part_len, plane_is, mixed, mixed_none, mixed_same, mixed_new, frame_line-below}
use Rattle.m2v_plane.proofs.Squares.{lines_all}
use Rattle.m2v_plane.specs.Samples.{plane_with_lines}
use Rattle.m2v_plane.specs.Sizes.{frame_line, part_of}
use Rattle.m2v_plane.proofs.moves.set_lines.Goals as goal

pub loop-line-init : goal.loop-line-init
loop-line-init c = λ r k lt small. mixed_none c.args.columns (part_of c.args.lines c.args.total) c.args.lines 0 c.args.plane.now
    (λ l x. get_or c.args.samples.now (frame_line c.args.lines l * c.args.columns + x) 0) r k

pub loop-line-preserved : goal.loop-line-preserved
loop-line-preserved c =
    let n = c.loop-line.line in
    let w = c.args.columns in
    let which = c.args.lines in
    let h = part_of which c.args.total in
    let old = c.args.plane.now in
    let samples = c.args.samples.now in
    let new = λ (l x : ℕ). get_or samples (frame_line which l * w + x) 0 in
    let p = frame_line which n in
    let less : n < h = omega (arith, c.part_of-count.ensures.value) in
    let below = frame_line-below which n c.args.total less in
    let fits = line_fits p c.args.total w w below (omega arith) in
    let at = c.line_start-at.result in
    let len = part_len c.loop-line.plane at (at + w - at) (omega arith) in
    let same : length c.copy_from_slice.new.self ≡ w = omega (arith, c.copy_from_slice.ensures.len, len) in
    let first : 0 * h + n ≡ n = omega arith in
    rw c.line_start-at.ensures.value
    (line_set (mixed w h which 0 n old new) (mixed w h which 0 (n + 1) old new) c.args.total p w (p * w + w - p * w) c.loop-line.plane c.copy_from_slice.new.self
    (omega arith) (omega arith) same c.loop-line.invariant
    (λ r k lt small other. mixed_same w h which 0 n old new r k (omega arith) (λ e. other (e ∙ ap (frame_line which) first)))
    (λ k lt. ap (λ ys. get_or ys k 0) c.copy_from_slice.ensures.after
    ∙ part_at samples at (at + w - at) k (omega arith)
    ∙ ap (λ j. get_or samples (j + k) 0) c.line_start-at.ensures.value
    ∙ subst (λ (q : ℕ). new n k ≡ mixed w h which 0 (n + 1) old new (frame_line which q) k) first (mixed_new w h which 0 n old new k less)))

pub returns : goal.returns
unfolding plane_with_lines
returns c = record {
  value = plane_is c.loop-line.plane c.args.total c.args.columns _ (omega arith)
      (λ r k lt small. c.loop-line.invariant r k lt small
      ∙ ap (λ n. mixed c.args.columns (part_of c.args.lines c.args.total) c.args.lines 0 n c.args.plane.now (λ l x. get_or c.args.samples.now (frame_line c.args.lines l * c.args.columns + x) 0) r k)
      (omega (arith, c.part_of-count.ensures.value))
      ∙ lines_all c.args.columns c.args.total c.args.lines c.args.plane.now c.args.samples.now r k c.requires.even lt);
}
