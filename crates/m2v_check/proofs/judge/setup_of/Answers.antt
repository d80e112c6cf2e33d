use Rattle.std.proofs.Common.{sym, ◌∙◌}
use Rattle.m2v_check.proofs.SetupLaws.{fits_setup}
use Rattle.m2v_check.proofs.judge.setup_of.Goals as goal

pub returns-in-None-clause-fits : goal.returns-in-None-clause-fits
returns-in-None-clause-fits c = fits_setup c.args.s.now _ c.rate_of.ensures.value c.buffer_of.ensures.value (sym c.sequence_breach.ensures.value ∙ c.in-None.is)
