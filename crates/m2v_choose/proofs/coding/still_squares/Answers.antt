use Rattle.std.proofs.Common.{Bool, true, false, ap, sym, ◌∙◌}
use Rattle.m2v_choose.specs.Trials.{block_squared, uncoded_squared}
use Rattle.m2v_choose.proofs.PartSquares.{uncoded_known}
use Rattle.m2v_choose.proofs.coding.still_squares.Goals as goal

pub returns-then-dct_field-clause-value : goal.returns-then-dct_field-clause-value
returns-then-dct_field-clause-value c =
    let s = c.args.task.now.source.now.at in
    let p = c.args.plain.now.prediction.now.at in
    c.uncoded_squares.ensures.value ∙ uncoded_known c.args.pattern true s p c.args.plain.now.field.now (c.requires.measured.field (c.requires.dct c.if-dct_field.true))
    ∙ ap (λ (k : Bool). uncoded_squared c.args.pattern (block_squared k s p)) (sym c.if-dct_field.true)

pub returns-clause-value : goal.returns-clause-value
returns-clause-value c =
    let s = c.args.task.now.source.now.at in
    let p = c.args.plain.now.prediction.now.at in
    c.uncoded_squares-2.ensures.value ∙ uncoded_known c.args.pattern false s p c.args.plain.now.frame.now c.requires.measured.frame
    ∙ ap (λ (k : Bool). uncoded_squared c.args.pattern (block_squared k s p)) (sym c.if-dct_field.false)
