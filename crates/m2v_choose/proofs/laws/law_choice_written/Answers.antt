use Rattle.m2v_choose.proofs.Written.{choice_written}
use Rattle.m2v_choose.proofs.laws.law_choice_written.Goals as goal

pub returns : goal.returns
returns c = λ d own state limits dc step told. choice_written d own d.state step state limits dc told
