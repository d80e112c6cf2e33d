use Rattle.std.proofs.Common.{ap, subst, IfOk, ◌≡◌, Option, List}
use Rattle.std.specs.Prelude.{option_map, option_and_then}
use Rattle.clap.specs.Walk.{Row, rows_of}
use Rattle.clap.specs.Matches.{found_of}
use Rattle.m2v_tool.specs.EncodeWords.{encode_meant, meant_of, words_of}
use Rattle.m2v_tool.proofs.NumberLaws.{found_some, found_none}
use Rattle.m2v_tool.proofs.meant.encode_words.Goals as goal

pub returns-in-Some : goal.returns-in-Some
unfolding encode_meant
returns-in-Some c =
    let found = found_some (λ m. rows_of (found_of m)) _ _ _ _ _ c.in_ok-matches.ensures c.in_ok-encode_command.ensures c.in-Some.is in
    subst (λ (o : Option (List Row)). IfOk c.meant_of.result (λ w. option_map words_of w ≡ option_and_then meant_of o)) found c.meant_of.ensures

pub returns-in-None : goal.returns-in-None
unfolding encode_meant
returns-in-None c = ap (option_and_then meant_of) (found_none (λ m. rows_of (found_of m)) _ _ _ _ c.in_ok-matches.ensures c.in_ok-encode_command.ensures c.in-None.is)
