use Rattle.std.proofs.Common.{◌≡◌, ◌≤◌, ◌<◌, ◌-◌, ◌*◌, ◌%◌, take}
use Rattle.std.specs.List.{sum}
use Rattle.std.specs.Simd.Lanes.{zip2}
use Rattle.m2v_kernel.specs.Sums.{apart, lines_at}
use Rattle.m2v_kernel.proofs.window.fours_until.Given as goal

abbrev pub invariant-loop-line : goal.invariant-loop-line
invariant-loop-line l =
    (l.sum ≡ sum (take (16 * l.line) (zip2 apart l.block (lines_at l.lines l.window l.place l.stride))))
    × (l.sum ≤ 4080 * l.line) × (l.line ≤ l.lines) × (l.line % 4 ≡ 0) × (1 ≤ l.line → l.sum < l.limit)

abbrev pub decreases-loop-line : goal.decreases-loop-line
decreases-loop-line l = l.lines - l.line
