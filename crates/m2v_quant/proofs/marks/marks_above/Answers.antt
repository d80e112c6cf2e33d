use Rattle.std.proofs.Common.{◌≡◌, length, rules}
use Rattle.m2v_quant.proofs.Lanes.{marked}
use Rattle.m2v_quant.proofs.marks.marks_above.Goals as goal

pub returns : goal.returns
returns c =
    let len : length c.args.kind.now.matrix ≡ 64 = search rules in
    marked c.args.f.now c.args.kind.now c.narrowed.result c.args.limits c.told-f len c.requires.kind c.requires.coefficients c.narrowed.ensures c.requires.limits
