use Rattle.std.proofs.Common.{ℕ, sym, subst}
use Rattle.m2v_dec_piece.specs.Cutting.{StopsAt}
use Rattle.m2v_dec_piece.proofs.taking.headers.Goals as goal

pub returns-in-Err-clause-err : goal.returns-in-Err-clause-err
returns-in-Err-clause-err c = subst (λ (v : ℕ). StopsAt c.args.hand.now v c.in-Err.e) (sym c.if-value-eq183.true) c.in-Err.ensures.err
