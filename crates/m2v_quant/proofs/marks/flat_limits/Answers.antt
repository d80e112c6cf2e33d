use Rattle.std.proofs.Common.{◌≡◌, length, rules}
use Rattle.m2v_quant.proofs.Lanes.{flat_limited}
use Rattle.m2v_quant.proofs.marks.flat_limits.Goals as goal

pub returns : goal.returns
returns c =
    let len : length c.args.kind.now.matrix ≡ 64 = search rules in
    flat_limited c.args.kind.now len c.requires.kind c.requires.intra c.requires.flat
