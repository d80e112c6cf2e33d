use Rattle.std.proofs.Common.{◌≡◌, ◌≢◌, ℕ, ◌<◌, ◌+◌, ◌*◌, length, get_or}
use Rattle.m2v_plane.specs.Sizes.{side}
use Rattle.m2v_plane.specs.Samples.{sample_of}
use Rattle.m2v_slice.proofs.kept.put_row.Given as goal

abbrev pub invariant-loop-line : goal.invariant-loop-line
invariant-loop-line l = record {
  len : length l.out ≡ length l.fn.out;
  there : (line column : ℕ) → line < l.line → column < l.columns
      → get_or l.out ((side l.plane * l.k + line) * l.columns + column) 0 ≡ sample_of l.row l.plane line column;
  others : (other line column : ℕ) → other ≢ l.k → other < 12 → line < side l.plane → column < l.columns
      → get_or l.out ((side l.plane * other + line) * l.columns + column) 0
      ≡ get_or l.fn.out ((side l.plane * other + line) * l.columns + column) 0;
}
