use Rattle.std.proofs.Common.{◌≡◌, ℕ, ◌<◌, ◌+◌, ◌*◌, get_or}
use Rattle.m2v_plane.specs.Samples.{square_of}
use Rattle.m2v_plane.proofs.Places.{mixed}
use Rattle.m2v_plane.proofs.Squares.{square_line}
use Rattle.m2v_plane.proofs.moves.set_square.Given as goal

-- the first lines of the square are in place, and all else is as it was
abbrev pub invariant-loop-line : goal.invariant-loop-line
invariant-loop-line l =
    ((r c : ℕ) → r < l.fn.total → c < l.fn.columns
    → get_or l.plane (r * l.fn.columns + c) 0
    ≡ mixed l.fn.columns l.fn.square.side l.fn.lines l.fn.square.row l.line l.fn.plane
    (square_line l.fn.columns l.fn.square.side l.fn.square.column l.fn.lines l.fn.square.row l.fn.plane (square_of l.fn.square.side l.fn.samples)) r c)
