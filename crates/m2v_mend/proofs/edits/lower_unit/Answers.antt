use Rattle.std.proofs.Common.{sym, ◌∙◌}
use Rattle.m2v_mend.proofs.UnitLaws.{lowered_zero, lowered_other, lowered_typed, lowered_ended}
use Rattle.m2v_mend.proofs.edits.lower_unit.Goals as goal

pub returns-then-by-eq0-clause-value : goal.returns-then-by-eq0-clause-value
returns-then-by-eq0-clause-value c z h = lowered_zero c.args.by _ c.if-by-eq0.true

pub returns-then-is_typed-clause-value : goal.returns-then-is_typed-clause-value
returns-then-is_typed-clause-value c z h =
    lowered_typed c.args.unit.now z c.args.by c.lowered-reference.result c.if-by-eq0.false (c.is_typed.ensures.long c.if-is_typed.true) (sym (c.is_typed.ensures.value z h) ∙ c.if-is_typed.true) c.lowered-reference.ensures.value

pub returns-then-is_typed-clause-ended : goal.returns-then-is_typed-clause-ended
returns-then-is_typed-clause-ended c z h =
    lowered_ended c.args.unit.now z c.lowered-reference.result (c.is_typed.ensures.long c.if-is_typed.true) (sym (c.is_typed.ensures.value z h) ∙ c.if-is_typed.true) h

pub returns-else-is_typed-clause-value : goal.returns-else-is_typed-clause-value
returns-else-is_typed-clause-value c z h = lowered_other c.args.by _ (sym (c.is_typed.ensures.value z h) ∙ c.if-is_typed.false)
