use Rattle.std.proofs.Common.{refl}
use Rattle.std.specs.Fmt.{digits}
use Rattle.m2v_strict.specs.Elements.{word_of}
use Rattle.m2v_audit.specs.Lines.{column_text, name_of, name_with, rate_word, failure_word}
use Rattle.m2v_audit.proofs.worked.law_lines_worked.Goals as goal

pub returns : goal.returns
unfolding word_of column_text name_of name_with rate_word failure_word digits
returns c = record { audit = refl; sequence = refl; group = refl; breach = refl; element = refl; warning = refl; failure = refl; end = refl }
