use Rattle.std.proofs.Common.{◌≡◌, ◌++◌, drop}
use Rattle.std.specs.Prelude.{All}
use Rattle.m2v_set.specs.Numbers.{IsInterval}
use Rattle.m2v_order.specs.Times.{intervals_of}
use Rattle.m2v_order.proofs.times.intervals.Given as goal

abbrev pub invariant-loop-i : goal.invariant-loop-i
invariant-loop-i l = record {
  value : l.times.items ++ intervals_of l.settings l.last (drop l.i l.pictures) ≡ intervals_of l.settings l.fn.before l.pictures;
  times : All (IsInterval l.settings) l.times.items;
}
