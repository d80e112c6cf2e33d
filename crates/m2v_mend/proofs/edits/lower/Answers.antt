use Rattle.m2v_mend.proofs.EditLaws.{lowered_by_nothing}
use Rattle.m2v_mend.proofs.edits.lower.Goals as goal

pub returns-then-low-eq0-clause-edited : goal.returns-then-low-eq0-clause-edited
returns-then-low-eq0-clause-edited c = lowered_by_nothing c.args.low c.args.piece.now c.if-low-eq0.true c.requires.units
