use Rattle.m2v_law_audit.proofs.MovedTexts.{begins_with, goes_on}
use Rattle.m2v_law_audit.proofs.moved_laws.law_onward.Goals as goal

pub returns-clause-first : goal.returns-clause-first
returns-clause-first c = begins_with

pub returns-clause-later : goal.returns-clause-later
returns-clause-later c = goes_on
