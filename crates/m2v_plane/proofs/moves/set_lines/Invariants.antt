use Rattle.std.proofs.Common.{◌≡◌, ℕ, ◌<◌, ◌+◌, ◌*◌, get_or}
use Rattle.m2v_plane.specs.Sizes.{frame_line, part_of}
use Rattle.m2v_plane.proofs.Places.{mixed}
use Rattle.m2v_plane.proofs.moves.set_lines.Given as goal

-- the first of the lines are in place, and all others are as they were
abbrev pub invariant-loop-line : goal.invariant-loop-line
invariant-loop-line l =
    ((r c : ℕ) → r < l.fn.total → c < l.fn.columns
    → get_or l.plane (r * l.fn.columns + c) 0
    ≡ mixed l.fn.columns (part_of l.fn.lines l.fn.total) l.fn.lines 0 l.line l.fn.plane (λ k x. get_or l.fn.samples (frame_line l.fn.lines k * l.fn.columns + x) 0) r c)
