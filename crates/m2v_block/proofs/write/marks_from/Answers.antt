use Rattle.std.proofs.Common.{◌≡◌, length, arith, rules}
use Rattle.m2v_block.proofs.Marking.{past_marked, marked_from}
use Rattle.m2v_block.proofs.write.marks_from.Goals as goal

pub returns-then-from-eq64 : goal.returns-then-from-eq64
returns-then-from-eq64 c =
    let len : length c.args.levels.now.at ≡ 64 = search rules in
    past_marked c.args.levels.now.at c.args.from (omega arith)

pub returns : goal.returns
returns c = marked_from c.args.levels.now.at c.marks.result c.args.from c.marks.ensures
