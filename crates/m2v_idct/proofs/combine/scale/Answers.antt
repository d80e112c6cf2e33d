use Rattle.std.proofs.Common.{rules, ◌∙◌}
use Rattle.std.proofs.lemmas.Int.{to_z-of_z}
use mir.Syntax.{w32}
use mir.Val.{SFits}
use Rattle.m2v_idct.proofs.Shifts.{scaled_by_parts}
use Rattle.m2v_idct.proofs.combine.scale.Goals as goal

pub returns-clause-value : goal.returns-clause-value
returns-clause-value c =
    let ft = c.ranges.t in
    let fh : SFits w32 c.shift-high.result = search rules in
    let fl : SFits w32 c.rest-low.result = search rules in
    let fm : SFits w32 c.round_up.result = search rules in
    let fs : SFits w32 c.shift.result = search rules in
    let fr : SFits w32 c.join.result = search rules in
    to_z-of_z w32 _ fr
    ∙ scaled_by_parts c.args.t c.shift-high.result c.rest-low.result c.round_up.result c.shift.result c.join.result
    (simp to_z-of_z at c.shift-high.ensures.low) (simp to_z-of_z at c.shift-high.ensures.high)
    (simp to_z-of_z at c.rest-low.ensures) (simp to_z-of_z at c.round_up.ensures)
    (simp to_z-of_z at c.shift.ensures.low) (simp to_z-of_z at c.shift.ensures.high)
    (simp to_z-of_z at c.join.ensures)
