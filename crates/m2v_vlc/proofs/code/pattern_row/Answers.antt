use Rattle.std.proofs.Common.{◌∙◌, ap, sym}
use Rattle.m2v_vlc.specs.Tables.{pattern_code}
use Rattle.m2v_vlc.proofs.Patterns.{pattern_index, pattern_index_none}
use Rattle.m2v_vlc.proofs.code.pattern_row.Goals as goal

pub returns-then-pattern-eq0 : goal.returns-then-pattern-eq0
returns-then-pattern-eq0 c = pattern_index_none ∙ ap pattern_code (sym c.if-pattern-eq0.true)

pub returns-else-pattern-eq0 : goal.returns-else-pattern-eq0
returns-else-pattern-eq0 c = pattern_index c.args.pattern c.if-pattern-eq0.false
