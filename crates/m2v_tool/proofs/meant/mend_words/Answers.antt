use Rattle.std.proofs.Common.{ap, Some, ◌∙◌}
use Rattle.std.specs.Prelude.{codes, option_map}
use Rattle.clap.specs.Walk.{first_of, rows_of}
use Rattle.clap.specs.Matches.{found_of}
use Rattle.m2v_tool.specs.Mending.{mend_meant}
use Rattle.m2v_tool.proofs.NumberLaws.{found_some, found_none}
use Rattle.m2v_tool.proofs.meant.mend_words.Goals as goal

pub returns-in_ok-list-in-Some : goal.returns-in_ok-list-in-Some
unfolding mend_meant
returns-in_ok-list-in-Some c =
    ap Some c.in_ok-list-in-Some.ensures ∙ ap (option_map (first_of (codes "list"))) (found_some (λ m. rows_of (found_of m)) _ _ _ _ _ c.in_ok-matches.ensures c.in_ok-mend_command.ensures c.in-Some.is)

pub returns-in-None : goal.returns-in-None
unfolding mend_meant
returns-in-None c = ap (option_map (first_of (codes "list"))) (found_none (λ m. rows_of (found_of m)) _ _ _ _ c.in_ok-matches.ensures c.in_ok-mend_command.ensures c.in-None.is)
