use Rattle.std.proofs.Common.{ap}
use Rattle.std.specs.Prelude.{option_map}
use Rattle.clap.specs.Walk.{rows_of}
use Rattle.clap.specs.Matches.{found_of}
use Rattle.m2v_tool.specs.Words.{flat_meant, flat_of}
use Rattle.m2v_tool.proofs.NumberLaws.{found_some, found_none}
use Rattle.m2v_tool.proofs.meant.flat_words.Goals as goal

pub returns-in-Some : goal.returns-in-Some
unfolding flat_meant
returns-in-Some c =
    rw (c.flat_of.ensures) (ap (option_map flat_of) (found_some (λ m. rows_of (found_of m)) _ _ _ _ _ c.in_ok-matches.ensures c.in_ok-flat_command.ensures c.in-Some.is))

pub returns-in-None : goal.returns-in-None
unfolding flat_meant
returns-in-None c = ap (option_map flat_of) (found_none (λ m. rows_of (found_of m)) _ _ _ _ c.in_ok-matches.ensures c.in_ok-flat_command.ensures c.in-None.is)
