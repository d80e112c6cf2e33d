use Rattle.std.proofs.Common.{◌≡◌, ◌+◌, ◌-◌, ◌*◌, get_or, length, arith, ap, ◌∙◌}
use Rattle.m2v_plane.proofs.Places.{line_fits, part_at, part_len, plane_is, mixed, mixed_none, mixed_same, mixed_still, mixed_new, frame_line-below}
use Rattle.m2v_plane.proofs.Squares.{part_set, square_line, square_beside, square_within, square_all}
use Rattle.m2v_plane.specs.Samples.{plane_with_square, square_of}
use Rattle.m2v_plane.specs.Sizes.{frame_line}
use Rattle.m2v_plane.proofs.moves.set_square.Goals as goal

pub loop-line-init : goal.loop-line-init
loop-line-init c = λ r k lt small. mixed_none c.args.columns c.args.square.side c.args.lines c.args.square.row c.args.plane.now
    (square_line c.args.columns c.args.square.side c.args.square.column c.args.lines c.args.square.row c.args.plane.now (square_of c.args.square.side c.args.samples.now)) r k

pub loop-line-preserved : goal.loop-line-preserved
loop-line-preserved c =
    let n = c.loop-line.line in
    let w = c.args.columns in
    let side = c.args.square.side in
    let which = c.args.lines in
    let row = c.args.square.row in
    let old = c.args.plane.now in
    let samples = c.args.samples.now in
    let new = square_line w side c.args.square.column which row old (square_of side samples) in
    let p = frame_line which (row * side + n) in
    let below = frame_line-below which (row * side + n) c.args.total (omega arith) in
    let fits = line_fits p c.args.total w w below (omega arith) in
    let inside = line_fits n side side side (omega arith) (omega arith) in
    let from = side * n in
    let at = c.line_start.result + side * c.args.square.column in
    let piece = part_len samples from (from + side - from) (omega arith) in
    let same : length c.copy_side.new.out ≡ side = ap length c.copy_side.ensures.value ∙ piece ∙ omega arith in
    rw c.line_start.ensures.value
    (part_set (mixed w side which row n old new) (mixed w side which row (n + 1) old new)
    c.args.total p w (side * c.args.square.column) side (p * w + side * c.args.square.column + side - (p * w + side * c.args.square.column)) c.loop-line.plane c.copy_side.new.out
    (omega arith) c.requires.column (omega arith) same c.loop-line.invariant
    (λ r k lt small other. mixed_same w side which row n old new r k (omega arith) other)
    (λ k small out. mixed_still w side which row n old new k (omega arith)
    ∙ square_beside w side c.args.square.column which row old (square_of side samples) n k (omega arith) out
    ∙ mixed_new w side which row n old new k (omega arith))
    (λ j lt. ap (λ ys. get_or ys j 0) c.copy_side.ensures.value
    ∙ part_at samples from (from + side - from) j (omega arith)
    ∙ square_within w side c.args.square.column which row old (square_of side samples) n j lt
    ∙ mixed_new w side which row n old new (side * c.args.square.column + j) (omega arith)))

pub returns : goal.returns
unfolding plane_with_square
returns c =
    let new = square_line c.args.columns c.args.square.side c.args.square.column c.args.lines c.args.square.row c.args.plane.now (square_of c.args.square.side c.args.samples.now) in
    record {
      value = plane_is c.loop-line.plane c.args.total c.args.columns _ (omega arith)
          (λ r k lt small. c.loop-line.invariant r k lt small
          ∙ ap (λ n. mixed c.args.columns c.args.square.side c.args.lines c.args.square.row n c.args.plane.now new r k) (omega arith)
          ∙ square_all c.args.columns c.args.square.side c.args.square.column c.args.lines c.args.square.row c.args.plane.now (square_of c.args.square.side c.args.samples.now) r k (omega arith));
    }
