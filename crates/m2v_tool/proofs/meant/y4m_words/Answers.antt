use Rattle.std.proofs.Common.{ap, subst, IfOk, ◌≡◌, Option, List}
use Rattle.std.specs.Prelude.{option_map, option_and_then}
use Rattle.clap.specs.Walk.{Row, rows_of}
use Rattle.clap.specs.Matches.{found_of}
use Rattle.m2v_tool.specs.EncodeWords.{meant_of, words_of}
use Rattle.m2v_tool.specs.Y4mWords.{y4m_meant}
use Rattle.m2v_tool.proofs.NumberLaws.{found_some, found_none}
use Rattle.m2v_tool.proofs.meant.y4m_words.Goals as goal

pub returns-in-Some : goal.returns-in-Some
unfolding y4m_meant
returns-in-Some c =
    let found = found_some (λ m. rows_of (found_of m)) _ _ _ _ _ c.in_ok-matches.ensures c.in_ok-y4m_command.ensures c.in-Some.is in
    subst (λ (o : Option (List Row)). IfOk c.meant_of.result (λ w. option_map words_of w ≡ option_and_then meant_of o)) found c.meant_of.ensures

pub returns-in-None : goal.returns-in-None
unfolding y4m_meant
returns-in-None c = ap (option_and_then meant_of) (found_none (λ m. rows_of (found_of m)) _ _ _ _ c.in_ok-matches.ensures c.in_ok-y4m_command.ensures c.in-None.is)
