use Rattle.std.proofs.Common.{sym, ◌∙◌}
use Rattle.m2v_mend.proofs.Trying.{fit_none, fit_more, fit_stops}
use Rattle.m2v_mend.proofs.begin.all_fit.Goals as goal

pub loop-piece-init : goal.loop-piece-init
loop-piece-init c = fit_none

pub returns-then-not-fits : goal.returns-then-not-fits
returns-then-not-fits c =
    fit_stops c.args.pieces.now c.loop-piece.piece-index c.piece-item.result c.loop-piece-test.true c.piece-item.is (sym c.fits.ensures ∙ c.if-not-fits.true)

pub loop-piece-preserved : goal.loop-piece-preserved
loop-piece-preserved c =
    fit_more c.args.pieces.now c.loop-piece.piece-index c.piece-item.result c.loop-piece-test.true c.piece-item.is c.loop-piece.invariant (sym c.fits.ensures ∙ c.if-not-fits.false)
