use Rattle.std.proofs.Common.{arith, ◌/◌}
use Rattle.m2v_quant.proofs.Scanned.{mark_here, marked_before}
use Rattle.m2v_quant.proofs.inverse.rows_with.Goals as goal

pub returns-clause-here : goal.returns-clause-here
returns-clause-here c = mark_here c.args.rows (c.args.place / 8) (omega (arith, c.requires))

pub returns-clause-others : goal.returns-clause-others
returns-clause-others c y e = marked_before c.args.rows _ y e
