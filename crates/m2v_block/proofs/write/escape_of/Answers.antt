use Rattle.std.proofs.lemmas.Int.{to_z-of_z}
use Rattle.m2v_block.proofs.Written.{escape_number}
use Rattle.m2v_block.proofs.write.escape_of.Goals as goal

pub returns-clause-spelled : goal.returns-clause-spelled
returns-clause-spelled c = λ first one.
    let fits = c.ranges.level in
    escape_number first one c.args.run c.twelve.result c.args.level c.requires.run (simp to_z-of_z at c.twelve.ensures.value) c.twelve.ensures.below
