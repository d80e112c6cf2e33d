use Rattle.std.proofs.Common.{ℕ, sym, subst, replicate}
use Rattle.m2v_port.specs.Port.{Grows}
use Rattle.m2v_port.proofs.Runs.{grows_by_nothing}
use Rattle.m2v_dec_piece.proofs.putting.put_zeros.Goals as goal

pub returns-then-zeros-eq0-clause-grown : goal.returns-then-zeros-eq0-clause-grown
returns-then-zeros-eq0-clause-grown g c =
    subst (λ (n : ℕ). Grows (g.K.Sink.held c.args.output.now) (replicate n 0) (g.K.Sink.held c.args.output.now)) (sym c.if-zeros-eq0.true) (grows_by_nothing (g.K.Sink.held c.args.output.now))
