use Rattle.std.proofs.Common.{◌≡◌, take}
use Rattle.m2v_rate.proofs.columns.Numbers.copied.Given as goal

abbrev pub invariant-loop-x : goal.invariant-loop-x
invariant-loop-x l = l.all ≡ take l.x-index l.xs
