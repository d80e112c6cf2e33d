use Rattle.m2v_dec_piece.proofs.Stands.{filled_fails, never_read}
use Rattle.m2v_dec_piece.proofs.Steps.{each_err}
use Rattle.m2v_dec_piece.proofs.cutter.round.Goals as goal

pub returns-in-Ok-true-clause-err : goal.returns-in-Ok-true-clause-err
returns-in-Ok-true-clause-err g c = each_err c.advance.result c.advance.ensures.err (λ e why. filled_fails c.args.hand.now c.args.chunk.now c.fill.new.self _ _ e c.in-Ok-true.ensures.read why)

pub returns-in-Ok-true-clause-failed : goal.returns-in-Ok-true-clause-failed
returns-in-Ok-true-clause-failed g c = never_read c.args.hand.now c.fill.new.self c.advance.result c.advance.ensures.err
