use Rattle.std.proofs.Common.{◌≡◌, take}
use Rattle.m2v_rate.specs.Plans.{incomes_of}
use Rattle.m2v_rate.proofs.looking.incomes_of.Given as goal

abbrev pub invariant-loop-j : goal.invariant-loop-j
invariant-loop-j l = l.incomes ≡ take l.j (incomes_of l.ledger)
