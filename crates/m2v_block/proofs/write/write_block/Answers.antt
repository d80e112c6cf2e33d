use Rattle.std.proofs.Common.{rules, ◌≡◌, length}
use Rattle.m2v_block.proofs.Spellings.{block_spells}
use Rattle.m2v_block.proofs.write.write_block.Goals as goal

pub returns-then-kind-clause-spells : goal.returns-then-kind-clause-spells
returns-then-kind-clause-spells c =
    let len : length c.args.levels.now.at ≡ 64 = search rules in
    block_spells c.args.kind.now c.args.table_one c.args.dc_pred.now c.args.levels.now.at c.requires.kind c.requires.levels c.requires.predictor len

pub returns-else-kind-clause-spells : goal.returns-else-kind-clause-spells
returns-else-kind-clause-spells c =
    let len : length c.args.levels.now.at ≡ 64 = search rules in
    block_spells c.args.kind.now c.args.table_one c.args.dc_pred.now c.args.levels.now.at c.requires.kind c.requires.levels c.requires.predictor len
