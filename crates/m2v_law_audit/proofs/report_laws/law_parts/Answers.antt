use Rattle.std.proofs.Common.{ap, Option}
use Rattle.m2v_model.specs.declared.state.Sequence.{Sequence}
use Rattle.m2v_audit.specs.declared.report.Rate.{Rate}
use Rattle.m2v_law_audit.proofs.ReportParts.{parts_of, begun_by_first}
use Rattle.m2v_law_audit.proofs.report_laws.law_parts.Goals as goal

pub returns-clause-tells : goal.returns-clause-tells
returns-clause-tells c = λ asked number start text. (parts_of asked number start text).tells

pub returns-clause-breaches : goal.returns-clause-breaches
returns-clause-breaches c = λ asked number start text. (parts_of asked number start text).breaches

pub returns-clause-failures : goal.returns-clause-failures
returns-clause-failures c = λ asked number start text. (parts_of asked number start text).failures

pub returns-clause-rate : goal.returns-clause-rate
returns-clause-rate c = λ asked number start text p ps x s ss whole read e.
    ap (λ (y : Option Sequence × Rate). y.1) (begun_by_first asked number start text p ps x s ss whole read e)
