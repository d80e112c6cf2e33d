use Rattle.m2v_pardec.specs.Rows.{AreThere}
use Rattle.m2v_pardec.proofs.rows.BatchRows.are_rebuilt.Given as goal

abbrev pub invariant-loop-r : goal.invariant-loop-r
invariant-loop-r l = AreThere l.self l.r
