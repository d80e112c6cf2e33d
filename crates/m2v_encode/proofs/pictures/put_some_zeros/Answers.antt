use Rattle.std.proofs.Common.{List, ℕ, subst}
use Rattle.std.proofs.lemmas.List.{take-replicate}
use Rattle.m2v_port.specs.Ends.{change}
use Rattle.m2v_encode.specs.Steps.{Puts}
use Rattle.m2v_encode.proofs.pictures.put_some_zeros.Goals as goal

pub returns-clause-put : goal.returns-clause-put
returns-clause-put g c =
    subst (λ (b : List ℕ). Puts b (change g.K.Sink.held g.K.Sink.faults c.args.output.now c.put_bytes.new.output) c.put_bytes.result)
    (take-replicate c.args.count 512 0 c.requires.few) c.put_bytes.ensures.put
