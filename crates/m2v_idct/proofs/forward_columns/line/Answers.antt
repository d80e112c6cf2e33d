use Rattle.std.proofs.Common.{◌∙◌, List, ℤ, arith, ap, take}
use mir.Syntax.{w16}
use Rattle.m2v_idct.specs.Block.{at}
use Rattle.m2v_idct.specs.ForwardLanes.{eight}
use Rattle.m2v_idct.proofs.AllLanes.{fits_short, short_told, told_is, wider}
use Rattle.m2v_idct.proofs.ForwardColumns.{line_small}
use Rattle.m2v_idct.proofs.InPlace.{row_of}
use Rattle.m2v_idct.proofs.forward_columns.line.Goals as goal

pub returns : goal.returns
returns c =
    let p = c.args.part.now in
    let y = c.args.y in
    ap (λ (zs : List ℤ). short_told (take 8 zs)) (row_of p y c.told-part c.requires.y)
    ∙ told_is w16 32767 fits_short (eight (at p y)) (wider 8191 32767 (omega arith) (eight (at p y)) (line_small p c.told-part c.requires.within y c.requires.y))
