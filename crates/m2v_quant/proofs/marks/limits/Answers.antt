use Rattle.std.proofs.Common.{◌≡◌, length, rules}
use Rattle.m2v_quant.proofs.Lanes.{limited}
use Rattle.m2v_quant.proofs.marks.limits.Goals as goal

pub returns : goal.returns
returns c =
    let len : length c.args.kind.now.matrix ≡ 64 = search rules in
    limited c.args.kind.now c.args.intra c.limit_shift.result len c.requires.kind c.requires.intra c.limit_shift.ensures
