use Rattle.m2v_quant.proofs.Lanes.{limits_passed}
use Rattle.m2v_quant.proofs.marks.intra_marks.Goals as goal

pub marks_above-requires-clause-limits : goal.marks_above-requires-clause-limits
marks_above-requires-clause-limits c = limits_passed c.args.kind.now c.limits.result c.requires.kind c.limits.ensures
