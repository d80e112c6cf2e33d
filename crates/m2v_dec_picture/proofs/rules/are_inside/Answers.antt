use Rattle.std.proofs.Common.{◌∙◌, ◌&&◌, ap}
use Rattle.m2v_pred.specs.declared.mode.Mode.{Mode}
use Rattle.m2v_pred.specs.declared.mode.MbPlace.{MbPlace}
use Rattle.m2v_pred.specs.Inside.{is_inside}
use Rattle.m2v_macroblock.specs.Modes.{mode_of}
use Rattle.m2v_dec_picture.proofs.RuleLaws.{inside_by_columns}
use Rattle.m2v_dec_picture.proofs.rules.are_inside.Goals as goal

pub returns : goal.returns
returns c =
    let s = c.args.s.now in
    let row = c.args.row in
    let gap = c.args.x.now.gap in
    let own = c.inside-own_inside.ensures.exact ∙ ap (λ (m : Mode). is_inside m c.place.result s.dims) c.requires.located.mode
    ∙ ap (λ (at : MbPlace). is_inside (mode_of s.context c.args.x.now.syntax) at s.dims) c.place.ensures in
    c.both.ensures ∙ (λ i. c.skipped_inside-gap_inside.ensures i && own i) ∙ inside_by_columns s row c.args.x.now.column c.args.before.now c.args.x.now.syntax gap c.requires.located.gap c.requires.located.column
