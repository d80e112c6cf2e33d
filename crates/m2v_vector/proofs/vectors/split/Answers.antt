use Rattle.std.proofs.Common.{◌∙◌, ap, arith}
use Rattle.std.proofs.lemmas.Int.{ints, to_z-of_z}
use Rattle.m2v_vector.specs.Vectors.{with_sign}
use Rattle.m2v_vector.proofs.Spellings.{of_none, split_spelling, split_value}
use Rattle.m2v_vector.proofs.vectors.split.Goals as goal

pub returns-then-size-eq0-clause-value : goal.returns-then-size-eq0-clause-value
returns-then-size-eq0-clause-value c =
    let delta = c.ranges.delta in
    let size = simp to_z-of_z at c.unsigned_abs-size.ensures.value in
    of_none _ 0 ∙ omega (arith, ints, size, c.if-size-eq0.true)

pub returns-clause-spelling : goal.returns-clause-spelling
returns-clause-spelling c =
    let delta = c.ranges.delta in
    let size = simp to_z-of_z at c.unsigned_abs-size.ensures.value in
    let code = simp to_z-of_z at c.signed-code.ensures.value in
    rw (← c.factor-f.ensures.value)
    (split_spelling c.factor-f.result c.unsigned_abs-size.result c.args.delta _ c.factor-f.ensures.some (rw (← c.factor-f.ensures.value) at c.requires.range) size c.if-size-eq0.false (omega (arith, ints) ∙ code ∙ ap (with_sign c.args.delta) c.code_size.ensures.value))

pub returns-clause-value : goal.returns-clause-value
returns-clause-value c =
    let delta = c.ranges.delta in
    let size = simp to_z-of_z at c.unsigned_abs-size.ensures.value in
    let code = simp to_z-of_z at c.signed-code.ensures.value in
    rw (← c.factor-f.ensures.value)
    (split_value c.factor-f.result c.unsigned_abs-size.result c.args.delta _ c.factor-f.ensures.some size c.if-size-eq0.false (omega (arith, ints) ∙ code ∙ ap (with_sign c.args.delta) c.code_size.ensures.value))
