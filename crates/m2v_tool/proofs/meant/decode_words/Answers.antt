use Rattle.std.proofs.Common.{ap}
use Rattle.std.specs.Prelude.{option_map, codes}
use Rattle.clap.specs.Walk.{rows_of}
use Rattle.clap.specs.Matches.{found_of}
use Rattle.m2v_tool.specs.Simple.{number_or}
use Rattle.m2v_tool.specs.Decoding.{decode_meant}
use Rattle.m2v_tool.proofs.NumberLaws.{found_some, found_none}
use Rattle.m2v_tool.proofs.meant.decode_words.Goals as goal

pub returns-in-Some : goal.returns-in-Some
unfolding decode_meant
returns-in-Some c =
    rw (c.number_or.ensures)
    (ap (option_map (number_or (codes "workers") 1)) (found_some (λ m. rows_of (found_of m)) _ _ _ _ _ c.in_ok-matches.ensures c.in_ok-decode_command.ensures c.in-Some.is))

pub returns-in-None : goal.returns-in-None
unfolding decode_meant
returns-in-None c =
    ap (option_map (number_or (codes "workers") 1)) (found_none (λ m. rows_of (found_of m)) _ _ _ _ c.in_ok-matches.ensures c.in_ok-decode_command.ensures c.in-None.is)
