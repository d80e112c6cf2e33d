use Rattle.std.proofs.Common.{sym, subst}
use Rattle.m2v_macro.specs.declared.values.SliceState.{SliceState}
use Rattle.m2v_macro.specs.Conditions.{IsReady}
use Rattle.m2v_dec_picture.specs.Conditions.{IsState, LiesInRow}
use Rattle.m2v_dec_picture.proofs.RowLaws.{place_after, state_after}
use Rattle.m2v_dec_picture.proofs.macroblocks.elements.Goals as goal

pub returns-in-Ok-clause-inside : goal.returns-in-Ok-clause-inside
returns-in-Ok-clause-inside c =
    let is = c.in-Ok.ensures.state in
    subst (IsState c.args.c.now c.args.row) (sym is)
    (state_after c.args.c.now c.args.row c.args.state.now c.read_macro_into.new.m c.requires.state c.in-Ok.ensures.fits (subst (IsReady c.args.c.now) is c.in-Ok.ensures.ready))

pub returns-in-Ok-clause-place : goal.returns-in-Ok-clause-place
returns-in-Ok-clause-place c =
    subst (λ (s : SliceState). LiesInRow c.args.c.now c.args.row s.address) (sym c.in-Ok.ensures.state)
    (place_after c.args.c.now c.args.row c.args.state.now c.read_macro_into.new.m c.requires.state.place c.in-Ok.ensures.fits.step)
