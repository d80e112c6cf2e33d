use Rattle.std.proofs.Common.{List, ℕ, sym, subst}
use Rattle.m2v_bits.proofs.Bits.{packed-bits}
use Rattle.m2v_port.specs.Ends.{change}
use Rattle.m2v_encode.specs.Steps.{Puts}
use Rattle.m2v_encode.proofs.pictures.put_text.Goals as goal

pub returns-clause-put : goal.returns-clause-put
returns-clause-put g c =
    subst (λ (b : List ℕ). Puts b (change g.K.Sink.held g.K.Sink.faults c.args.output.now c.put_bytes.new.output) c.put_bytes.result)
    (sym (packed-bits c.args.bytes.now (λ k. (c.type_inv.bytes k).fits))) c.put_bytes.ensures.put
