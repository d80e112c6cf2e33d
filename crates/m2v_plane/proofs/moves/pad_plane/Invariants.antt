use Rattle.std.proofs.Common.{◌≡◌, ℕ, ◌<◌, ◌+◌, ◌-◌, ◌*◌, get_or, min}
use Rattle.m2v_plane.proofs.moves.pad_plane.Given as goal

abbrev pub invariant-loop-line : goal.invariant-loop-line
invariant-loop-line l =
    ((r c : ℕ) → r < l.line → c < l.fn.columns
    → get_or l.out (r * l.fn.columns + c) 0
    ≡ get_or l.fn.bytes (min r (l.fn.height - 1) * l.fn.width + min c (l.fn.width - 1)) 0)
