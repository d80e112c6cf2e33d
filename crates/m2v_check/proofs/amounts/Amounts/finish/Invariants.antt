use Rattle.std.proofs.Common.{◌≡◌}
use Rattle.std.specs.VecDeque.{deque_len}
use Rattle.m2v_check.specs.Holding.{most_with}
use Rattle.m2v_check.proofs.amounts.Amounts.finish.Given as goal

abbrev pub invariant-loop-amount : goal.invariant-loop-amount
invariant-loop-amount l = most_with l.total l.self.most l.self.waiting.items ≡ most_with l.total l.fn.self.most l.fn.self.waiting.items

abbrev pub decreases-loop-amount : goal.decreases-loop-amount
decreases-loop-amount l = deque_len l.self.waiting
