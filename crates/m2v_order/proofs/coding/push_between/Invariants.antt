use Rattle.std.proofs.Common.{◌≡◌, ◌++◌}
use Rattle.std.specs.List.{flat_map}
use Rattle.m2v_order.specs.Coding.{frames_between}
use Rattle.m2v_order.specs.Groups.{jobs_of}
use Rattle.m2v_order.proofs.coding.push_between.Given as goal

abbrev pub invariant-loop-display : goal.invariant-loop-display
invariant-loop-display l =
    l.pictures.items ≡ l.initial.pictures.items ++ flat_map (jobs_of l.settings l.count l.first) (frames_between l.from l.display)
