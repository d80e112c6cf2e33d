use Rattle.std.proofs.Common.{◌≡◌, ℕ, ◌<◌, ◌≤◌, ◌+◌, ◌-◌, ◌*◌, length, get_or}
use Rattle.m2v_search.proofs.window.put_lent.Given as goal

abbrev pub invariant-loop-line : goal.invariant-loop-line
invariant-loop-line l = record {
  len : length l.out ≡ 2304;
  lines : (r c : ℕ) → l.area.top ≤ r → r < l.line → l.area.left ≤ c → c < l.area.right
      → get_or l.out (r * 48 + c) 0 ≡ get_or l.window.samples.now ((r - l.area.top) * l.window.stride + (c - l.area.left)) 0;
}
