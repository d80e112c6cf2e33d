use Rattle.m2v_law_audit.proofs.FigureLaws.{counts_all, same_figures}
use Rattle.m2v_law_audit.proofs.figure_laws.law_figures.Goals as goal

pub returns-clause-counts : goal.returns-clause-counts
returns-clause-counts c = counts_all

pub returns-clause-lawful : goal.returns-clause-lawful
returns-clause-lawful c = same_figures
