use Rattle.std.proofs.lemmas.Int.{to_z-of_z}
use Rattle.m2v_vlc.proofs.ValueLaws.{is_negative, is_positive}
use Rattle.m2v_vlc.proofs.Motions.{dmv_are, signed_index, signed_index_negative, signed_index_none}
use Rattle.m2v_vlc.proofs.code.dmv_row.Goals as goal

pub returns-then-size-gt1 : goal.returns-then-size-gt1
returns-then-size-gt1 c = let f = c.ranges.value in signed_index_none dmv_are c.args.value c.unsigned_abs-size.result (simp to_z-of_z at c.unsigned_abs-size.ensures.value) c.if-size-gt1.true

pub returns-then-value-lt0 : goal.returns-then-value-lt0
returns-then-value-lt0 c = let f = c.ranges.value in signed_index_negative dmv_are c.args.value c.unsigned_abs-size.result (simp to_z-of_z at c.unsigned_abs-size.ensures.value) c.if-size-gt1.false (is_negative c.args.value (simp to_z-of_z at c.if-value-lt0.true))

pub returns-else-value-lt0 : goal.returns-else-value-lt0
returns-else-value-lt0 c = let f = c.ranges.value in signed_index dmv_are c.args.value c.unsigned_abs-size.result (simp to_z-of_z at c.unsigned_abs-size.ensures.value) c.if-size-gt1.false (is_positive c.args.value (simp to_z-of_z at c.if-value-lt0.false))
