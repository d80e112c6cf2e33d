use Rattle.std.proofs.Common.{◌≡◌, ℕ, ◌<◌, ◌+◌, ◌*◌, get_or}
use Rattle.m2v_plane.proofs.Places.{mixed}
use Rattle.m2v_plane.proofs.moves.set_rows.Given as goal

-- the first lines of the row are in place, and all others are as they were
abbrev pub invariant-loop-line : goal.invariant-loop-line
invariant-loop-line l =
    ((r c : ℕ) → r < l.fn.total → c < l.fn.columns
    → get_or l.plane (r * l.fn.columns + c) 0
    ≡ mixed l.fn.columns l.fn.height l.fn.lines l.fn.row l.line l.fn.plane (λ k x. get_or l.fn.samples (k * l.fn.columns + x) 0) r c)
