use Rattle.std.proofs.Common.{◌≡◌, ◌*◌, take, replicate}
use Rattle.m2v_plane.proofs.moves.clear_lines.Given as goal

abbrev pub invariant-loop-line : goal.invariant-loop-line
invariant-loop-line l = take (l.line * l.fn.columns) l.plane ≡ replicate (l.line * l.fn.columns) 0
