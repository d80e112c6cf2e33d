use Rattle.std.proofs.Common.{◌≡◌, length, rules, refl}
use Rattle.m2v_block.proofs.Marking.{run_within, run_zeros, run_some}
use Rattle.m2v_block.proofs.write.run_at.Goals as goal

pub returns-clause-within : goal.returns-clause-within
returns-clause-within c =
    let len : length c.args.levels.now.at ≡ 64 = search rules in
    run_within c.args.levels.now.at c.args.at c.args.rest _ len c.requires.some c.ranges.rest.fits c.requires.marks refl

pub returns-clause-zeros : goal.returns-clause-zeros
returns-clause-zeros c =
    let len : length c.args.levels.now.at ≡ 64 = search rules in
    run_zeros c.args.levels.now.at c.args.at c.args.rest _ len c.requires.some c.ranges.rest.fits c.requires.marks refl

pub returns-clause-some : goal.returns-clause-some
returns-clause-some c =
    let len : length c.args.levels.now.at ≡ 64 = search rules in
    run_some c.args.levels.now.at c.args.at c.args.rest _ len c.requires.some c.ranges.rest.fits c.requires.marks refl
