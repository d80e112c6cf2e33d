use Rattle.std.proofs.Common.{arith}
use mir.Syntax.{w16}
use Rattle.m2v_idct.proofs.AllLanes.{fits_short, told_as_within}
use Rattle.m2v_idct.proofs.ForwardColumns.{line_small, lines_woven, lines_woven_within}
use Rattle.m2v_idct.proofs.forward_columns.two_lines.Goals as goal

pub weave-requires-clause-x_within : goal.weave-requires-clause-x_within
weave-requires-clause-x_within c =
    told_as_within w16 32767 fits_short 8191 c.line.result _ (omega arith) c.line.ensures (line_small c.args.part.now c.told-part c.requires.within c.args.y c.requires.y)

pub weave-requires-clause-y_within : goal.weave-requires-clause-y_within
weave-requires-clause-y_within c =
    told_as_within w16 32767 fits_short 8191 c.line-2.result _ (omega arith) c.line-2.ensures (line_small c.args.part.now c.told-part c.requires.within c.args.z c.requires.z)

pub returns : goal.returns
returns c =
    let p = c.args.part.now in
    record {
      value = lines_woven p c.told-part c.requires.within c.args.y c.args.z c.requires.y c.requires.z c.line.result c.line-2.result c.weave.result c.line.ensures c.line-2.ensures c.weave.ensures;
      within = lines_woven_within p c.told-part c.requires.within c.args.y c.args.z c.requires.y c.requires.z c.line.result c.line-2.result c.weave.result c.line.ensures c.line-2.ensures c.weave.ensures;
    }
