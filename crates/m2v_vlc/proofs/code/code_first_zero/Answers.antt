use Rattle.std.proofs.Common.{◌∙◌, sym, ap}
use Rattle.m2v_bits.specs.Bits.{bits_of}
use Rattle.m2v_vlc.specs.Coefficients.{first_zero_code, coefficient_zero_code}
use Rattle.m2v_vlc.proofs.Coefficients.{coefficient_zero_escape}
use Rattle.m2v_vlc.proofs.Firsts.{first_zero_end, first_zero_escape}
use Rattle.m2v_vlc.proofs.code.code_first_zero.Goals as goal

pub returns-in-End-clause-spelled : goal.returns-in-End-clause-spelled
unfolding bits_of
returns-in-End-clause-spelled c = sym (ap first_zero_code c.in-End.is ∙ first_zero_end)

pub returns-in-Escape-clause-spelled : goal.returns-in-Escape-clause-spelled
returns-in-Escape-clause-spelled c = c.code_coefficient_zero.ensures.spelled ∙ ap coefficient_zero_code c.in-Escape.is ∙ coefficient_zero_escape ∙ sym (ap first_zero_code c.in-Escape.is ∙ first_zero_escape)
