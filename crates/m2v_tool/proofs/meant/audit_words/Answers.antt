use Rattle.std.proofs.Common.{ap}
use Rattle.std.specs.Prelude.{option_and_then}
use Rattle.clap.specs.Walk.{rows_of}
use Rattle.clap.specs.Matches.{found_of}
use Rattle.m2v_tool.specs.Auditing.{audit_meant, audit_of}
use Rattle.m2v_tool.proofs.NumberLaws.{found_some, found_none}
use Rattle.m2v_tool.proofs.meant.audit_words.Goals as goal

pub returns-in-Some : goal.returns-in-Some
unfolding audit_meant
returns-in-Some c =
    rw (c.audit_of.ensures) (ap (option_and_then audit_of) (found_some (λ m. rows_of (found_of m)) _ _ _ _ _ c.in_ok-matches.ensures c.in_ok-audit_command.ensures c.in-Some.is))

pub returns-in-None : goal.returns-in-None
unfolding audit_meant
returns-in-None c = ap (option_and_then audit_of) (found_none (λ m. rows_of (found_of m)) _ _ _ _ c.in_ok-matches.ensures c.in_ok-audit_command.ensures c.in-None.is)
