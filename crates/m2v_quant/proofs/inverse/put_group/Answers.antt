use Rattle.std.proofs.Common.{◌≡◌, length, refl, arith, rules}
use Rattle.m2v_quant.proofs.Scanned.{skipped}
use Rattle.m2v_quant.proofs.inverse.put_group.Goals as goal

pub returns-then-is_empty : goal.returns-then-is_empty
returns-then-is_empty c =
    let len : length c.args.levels.now.at ≡ 64 = search rules in
    skipped c.args.levels.now.at c.args.kind.now c.args.from 8 c.args.out.now c.args.told (omega arith) (c.if-is_empty.ensures refl) c.requires.before
