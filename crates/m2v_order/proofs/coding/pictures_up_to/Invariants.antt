use Rattle.std.proofs.Common.{◌≡◌, ◌≤◌}
use Rattle.std.specs.List.{flat_map}
use Rattle.m2v_order.specs.Coding.{anchors_between, in_order}
use Rattle.m2v_order.specs.Groups.{jobs_of, past_last}
use Rattle.m2v_order.proofs.coding.pictures_up_to.Given as goal

abbrev pub invariant-loop-display : goal.invariant-loop-display
invariant-loop-display l =
    (l.pictures.items ≡ flat_map (jobs_of l.settings l.count l.first) (in_order l.first (anchors_between l.settings l.count l.first l.display)))
    × (l.from ≡ past_last l.first (anchors_between l.settings l.count l.first l.display))
    × (l.first ≤ l.from)
    × (l.from ≤ l.display)
