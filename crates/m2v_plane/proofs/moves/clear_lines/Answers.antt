use Rattle.std.proofs.Common.{◌+◌, ◌-◌, ◌*◌, ◌++◌, replicate, arith, ap, ◌∙◌}
use Rattle.std.proofs.lemmas.List.{replicate-append-replicate}
use Rattle.std.proofs.lemmas.Slice.{take-put_mid}
use Rattle.m2v_plane.proofs.Places.{line_fits, part_len}
use Rattle.m2v_plane.proofs.moves.clear_lines.Goals as goal

pub loop-line-preserved : goal.loop-line-preserved
loop-line-preserved c =
    let n = c.loop-line.line in
    let w = c.args.columns in
    let k = n * w + w - n * w in
    let fits = line_fits n c.args.lines w w (omega arith) (omega arith) in
    let len = part_len c.loop-line.plane (n * w) k (omega arith) in
    take-put_mid (n * w) k c.loop-line.plane c.fill.new.self ((n + 1) * w) (omega (arith, c.fill.ensures.len, len)) (omega arith)
    ∙ ap (λ xs. xs ++ c.fill.new.self) c.loop-line.invariant
    ∙ ap (λ ys. replicate (n * w) 0 ++ ys) (c.fill.ensures.after (λ y e. e) ∙ ap (λ m. replicate m 0) (len ∙ omega arith))
    ∙ replicate-append-replicate (n * w) w 0
    ∙ ap (λ m. replicate m 0) (omega arith)
