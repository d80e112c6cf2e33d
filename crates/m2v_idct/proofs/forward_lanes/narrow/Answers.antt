use Rattle.std.proofs.Common.{arith, ap, ◌∙◌, map}
use mir.Syntax.{w16}
use mir.Val.{to_z}
use Rattle.m2v_idct.proofs.AllLanes.{fits_short, narrowed, narrows, told_is, wider}
use Rattle.m2v_idct.proofs.forward_lanes.narrow.Goals as goal

pub overflow_cast-result : goal.overflow_cast-result
overflow_cast-result c = narrows c.args.x (wider 8191 32767 (omega arith) c.args.x c.requires)

pub returns : goal.returns
returns c =
    let h = wider 8191 32767 (omega arith) c.args.x c.requires in
    ap (map (to_z w16)) (narrowed c.args.x h) ∙ told_is w16 32767 fits_short c.args.x h
