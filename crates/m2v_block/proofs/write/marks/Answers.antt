use Rattle.std.proofs.Common.{◌≡◌, length, rules}
use Rattle.m2v_block.proofs.Marking.{marked}
use Rattle.m2v_block.proofs.write.marks.Goals as goal

pub returns : goal.returns
returns c =
    let len : length c.args.levels.now.at ≡ 64 = search rules in
    marked c.args.levels.now.at len c.requires
