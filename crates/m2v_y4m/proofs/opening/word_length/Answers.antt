use Rattle.std.proofs.Common.{sym, ◌∙◌}
use Rattle.m2v_y4m.proofs.WordLaws.{none_found, space}
use Rattle.m2v_y4m.proofs.opening.word_length.Goals as goal

pub returns-in-None-clause-value : goal.returns-in-None-clause-value
returns-in-None-clause-value c = none_found space c.args.rest.now (sym c.find_byte.ensures.value ∙ c.in-None.is)
