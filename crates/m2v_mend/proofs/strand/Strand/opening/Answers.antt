use Rattle.std.proofs.Common.{true, [], sym, subst}
use Rattle.m2v_mend.specs.Strand.{StrandState, IsAt}
use Rattle.m2v_mend.proofs.Beginning.{nothing_is}
use Rattle.m2v_mend.proofs.strand.Strand.opening.Goals as goal

pub returns-clause-is : goal.returns-clause-is
returns-clause-is c = subst (λ (s : StrandState). IsAt s []) (sym c.nothing.ensures) (nothing_is true)
