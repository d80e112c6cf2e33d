use Rattle.std.proofs.Common.{◌≡◌, ℕ, ◌<◌, ◌+◌, ◌*◌, get_or}
use Rattle.m2v_search.proofs.window.put_whole.Given as goal

abbrev pub invariant-loop-part : goal.invariant-loop-part
invariant-loop-part l = record {
  within : (k : ℕ) → k < 16 * l.part → get_or l.out (l.from + k) 0 ≡ get_or l.samples k 0;
  before : (i : ℕ) → i < l.from → get_or l.out i 0 ≡ get_or l.fn.out i 0;
}
