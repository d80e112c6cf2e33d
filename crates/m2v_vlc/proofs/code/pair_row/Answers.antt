use Rattle.std.proofs.Common.{arith}
use Rattle.std.proofs.lemmas.Int.{to_z-of_z}
use Rattle.std.proofs.lemmas.Bool.{cond-true}
use Rattle.m2v_vlc.proofs.Places.{place_past, place_here, place_positive, row_small}
use Rattle.m2v_vlc.proofs.code.pair_row.Goals as goal

pub returns-then-start-size : goal.returns-then-start-size
returns-then-start-size c =
    let f = c.ranges.level in
    place_past c.args.run c.args.level c.unsigned_abs-size.result c.at-start.result c.at-end.result (simp to_z-of_z at c.unsigned_abs-size.ensures.value) c.at-start.ensures c.at-end.ensures c.if-start-size.true

pub overflow_mul-row : goal.overflow_mul-row
overflow_mul-row c = let h = row_small c.args.run c.unsigned_abs-size.result c.at-start.result c.at-end.result c.if-run-gt31.false c.at-end.ensures c.if-start-size.false in omega (arith, h)

pub overflow_add-result : goal.overflow_add-result
overflow_add-result c = let h = row_small c.args.run c.unsigned_abs-size.result c.at-start.result c.at-end.result c.if-run-gt31.false c.at-end.ensures c.if-start-size.false in omega (arith, h)

pub returns-then-level-lt0 : goal.returns-then-level-lt0
returns-then-level-lt0 c =
    let f = c.ranges.level in
    place_here c.args.run c.args.level c.unsigned_abs-size.result c.at-start.result c.at-end.result 1 c.if-run-gt31.false c.if-size-eq0.false (simp to_z-of_z at c.unsigned_abs-size.ensures.value) c.at-start.ensures c.at-end.ensures c.if-start-size.false (cond-true _ 1 0 (simp to_z-of_z at c.if-level-lt0.true))

pub returns-else-level-lt0 : goal.returns-else-level-lt0
returns-else-level-lt0 c =
    let f = c.ranges.level in
    place_positive c.args.run c.args.level c.unsigned_abs-size.result c.at-start.result c.at-end.result c.if-run-gt31.false c.if-size-eq0.false (simp to_z-of_z at c.unsigned_abs-size.ensures.value) c.at-start.ensures c.at-end.ensures c.if-start-size.false (simp to_z-of_z at c.if-level-lt0.false)
