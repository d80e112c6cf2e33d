use Rattle.m2v_block.proofs.Marking.{marked_behind}
use Rattle.m2v_block.proofs.write.marks_behind.Goals as goal

pub returns : goal.returns
returns c = marked_behind c.args._levels.now.at c.args._at c.args.rest c.args.run c.requires.marks
