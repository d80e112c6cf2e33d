use Rattle.std.proofs.Common.{refl}
use Rattle.std.specs.Fmt.{digits}
use Rattle.m2v_strict.specs.Elements.{word_of}
use Rattle.m2v_audit.specs.Lines.{column_text, name_of, name_with, failure_word}
use Rattle.m2v_audit.specs.Report.{with_counts}
use Rattle.m2v_audit.proofs.worked.law_report_worked.Goals as goal

pub returns : goal.returns
unfolding word_of column_text name_of name_with failure_word digits with_counts
returns c = refl
