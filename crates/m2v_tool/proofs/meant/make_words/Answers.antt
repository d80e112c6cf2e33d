use Rattle.std.proofs.Common.{ap}
use Rattle.std.specs.Prelude.{option_map}
use Rattle.clap.specs.Walk.{rows_of}
use Rattle.clap.specs.Matches.{found_of}
use Rattle.m2v_tool.specs.Making.{make_meant, seed_in}
use Rattle.m2v_tool.proofs.NumberLaws.{found_some, found_none}
use Rattle.m2v_tool.proofs.meant.make_words.Goals as goal

pub returns-in-Some : goal.returns-in-Some
unfolding make_meant
returns-in-Some c =
    rw (c.seed_in.ensures) (ap (option_map seed_in) (found_some (λ m. rows_of (found_of m)) _ _ _ _ _ c.in_ok-matches.ensures c.in_ok-make_command.ensures c.in-Some.is))

pub returns-in-None : goal.returns-in-None
unfolding make_meant
returns-in-None c = ap (option_map seed_in) (found_none (λ m. rows_of (found_of m)) _ _ _ _ c.in_ok-matches.ensures c.in_ok-make_command.ensures c.in-None.is)
