use Rattle.std.proofs.Common.{rules}
use Rattle.m2v_macro.specs.States.{skips}
use Rattle.m2v_dec_picture.proofs.RowLaws.{gap_none, gap_is}
use Rattle.m2v_dec_picture.proofs.gap.gap_before.Goals.{then-before-via-then-before, then-before-via-else-before+then-m-eq1}
use Rattle.m2v_dec_picture.proofs.gap.gap_before.Goals as goal

pub returns-then-before : goal.returns-then-before
unfolding skips
returns-then-before c = gap_none c.args.c.now c.args.row c.args.before.now c.args.m.now (elim c.then-before.branch [
  | then-before-via-then-before w ↦ search rules
  | then-before-via-else-before+then-m-eq1 w ↦ search rules
])

pub returns : goal.returns
unfolding skips
returns c = gap_is c.args.c.now c.args.row c.args.before.now c.args.m.now c.column.result (search rules) (search rules) c.column.ensures.value c.column.ensures.below c.requires.step.order
