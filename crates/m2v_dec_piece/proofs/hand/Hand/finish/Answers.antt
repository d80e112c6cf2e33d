use Rattle.std.proofs.Common.{ap, arith, sym}
use Rattle.std.proofs.lemmas.Result.{err_from_is_err_and}
use Rattle.m2v_dec_piece.specs.Cutting.{Held}
use Rattle.m2v_dec_piece.proofs.Steps.{finished_by, finished_none, stops_by}
use Rattle.m2v_dec_piece.proofs.hand.Hand.finish.Goals as goal

pub returns-in_err-put_all-clause-err : goal.returns-in_err-put_all-clause-err
returns-in_err-put_all-clause-err c =
    let p = err_from_is_err_and c.from_residual.result c.from_residual.ensures.1 in
    let ahead = ap (λ (h : Held). h.ahead) (sym c.self.view_is) in
    rw (p.1, p.2) (stops_by c.args.self.now c.self.inside.ahead c.in_err-put_all.field-0.0 ahead c.self.invariant.0 c.if-ahead-gt0.true c.requires.fits c.in_err-put_all.ensures.err)

pub returns-in_ok-put_all-clause-ok : goal.returns-in_ok-put_all-clause-ok
returns-in_ok-put_all-clause-ok c =
    let ahead = ap (λ (h : Held). h.ahead) (sym c.self.view_is) in
    let h = c.in_ok-put_all.ensures in
    finished_by c.args.self.now c.put_all.new.self _ c.self.inside.ahead ahead c.self.invariant.0 c.requires.fits h.ok (ap (λ (x : Held). record x { ahead = 0 }) c.self-then-ahead-gt0.view_is) h.fits

pub returns-else-ahead-gt0-clause-ok : goal.returns-else-ahead-gt0-clause-ok
returns-else-ahead-gt0-clause-ok c = finished_none c.args.self.now (omega (arith, ap (λ (h : Held). h.ahead) c.self.view_is, c.if-ahead-gt0.false)) c.requires.fits
