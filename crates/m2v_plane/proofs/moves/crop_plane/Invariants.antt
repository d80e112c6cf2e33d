use Rattle.std.proofs.Common.{◌≡◌, ℕ, ◌<◌, ◌+◌, ◌*◌, get_or}
use Rattle.m2v_plane.proofs.moves.crop_plane.Given as goal

abbrev pub invariant-loop-row : goal.invariant-loop-row
invariant-loop-row l =
    (r c : ℕ) → r < l.row → c < l.fn.width
    → get_or l.out (r * l.fn.width + c) 0 ≡ get_or l.fn.plane (r * l.fn.columns + c) 0
