use Rattle.m2v_law_seam.proofs.ByUnits.{by_units}
use Rattle.m2v_law_seam.proofs.laws.law_by_units.Goals as goal

pub returns : goal.returns
returns c = by_units
