use Rattle.m2v_set.proofs.Facts.{bounds}
use Rattle.m2v_set.proofs.passed.Passed.settings.Goals as goal

pub returns-clause-bounds : goal.returns-clause-bounds
returns-clause-bounds c = rw (← c.self.view_is) (bounds _ c.self.invariant)
