use Rattle.std.proofs.Common.{◌≡◌, ℕ, ◌≤◌}
use Rattle.std.specs.VecDeque.{deque_len}
use Rattle.m2v_check.specs.Holding.{most_with}
use Rattle.m2v_check.proofs.amounts.Amounts.settle.Given as goal

abbrev pub invariant-loop-amount : goal.invariant-loop-amount
invariant-loop-amount l = (t : ℕ) → l.total ≤ t → most_with t l.self.most l.self.waiting.items ≡ most_with t l.fn.self.most l.fn.self.waiting.items

abbrev pub decreases-loop-amount : goal.decreases-loop-amount
decreases-loop-amount l = deque_len l.self.waiting
