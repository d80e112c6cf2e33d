use Rattle.std.proofs.Common.{List, ℕ, ap, subst, Err}
use Rattle.m2v_port.specs.Port.{GrowsByPrefix}
use Rattle.m2v_make.specs.Making.{MakeStops}
use Rattle.m2v_make.proofs.whole.put_stream.Goals as goal

pub returns-in-Err-Failed-clause-err : goal.returns-in-Err-Failed-clause-err
unfolding MakeStops
returns-in-Err-Failed-clause-err g c =
    (c.in-Err-Failed.ensures.failed (ap Err c.in-Err-Failed.field-0-is), subst (λ (b : List ℕ). GrowsByPrefix (g.K.Sink.held c.args.output.now) b (g.K.Sink.held c.put.new.self)) c.requires.stream c.in-Err-Failed.ensures.err)

pub returns-in-Err-Memory-clause-err : goal.returns-in-Err-Memory-clause-err
unfolding MakeStops
returns-in-Err-Memory-clause-err g c =
    subst (λ (b : List ℕ). GrowsByPrefix (g.K.Sink.held c.args.output.now) b (g.K.Sink.held c.put.new.self)) c.requires.stream c.in-Err-Memory.ensures.err
