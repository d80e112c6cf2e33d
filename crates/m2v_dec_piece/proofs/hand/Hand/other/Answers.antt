use Rattle.m2v_dec_piece.proofs.Steps.{took_other, stops_other, both_ok, each_err}
use Rattle.m2v_dec_piece.proofs.hand.Hand.other.Goals as goal

pub returns-clause-ok : goal.returns-clause-ok
returns-clause-ok c = let r = c.requires in both_ok c.settle.result c.settle.ensures.ok c.settle.ensures.fits (λ is none. took_other c.args.self.now c.settle.new.self c.args.b r.ahead r.some r.none r.fits is none)

pub returns-clause-err : goal.returns-clause-err
returns-clause-err c = let r = c.requires in each_err c.settle.result c.settle.ensures.err (λ e passed. stops_other c.args.self.now c.args.b e r.ahead r.some r.none r.fits passed)
