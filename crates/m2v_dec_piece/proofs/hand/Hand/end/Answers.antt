use Rattle.m2v_dec_piece.proofs.Steps.{ends_here, stops_end, both_ok, each_err}
use Rattle.m2v_dec_piece.proofs.hand.Hand.end.Goals as goal

pub returns-clause-ok : goal.returns-clause-ok
returns-clause-ok c = let r = c.requires in both_ok c.code.result c.code.ensures.ok c.code.ensures.fits (λ is none. ends_here c.args.self.now c.code.new.self r.ahead r.phase r.fits is none)

pub returns-clause-err : goal.returns-clause-err
returns-clause-err c = let r = c.requires in each_err c.code.result c.code.ensures.err (λ e passed. stops_end c.args.self.now e r.ahead r.phase r.fits passed)
