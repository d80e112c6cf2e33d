use Rattle.std.proofs.Common.{◌+◌, ◌-◌, ◌∙◌, sym, ap, take, drop, arith}
use Rattle.m2v_port.proofs.Bytes.{taken}
use Rattle.m2v_port.proofs.sure.SureSourceSource.read.Goals as goal

pub returns-clause-moved : goal.returns-clause-moved
returns-clause-moved c =
    let copy = c.copy_from_slice.ensures in
    sym c.self.view_is ∙ taken c.self.inside.bytes.items c.args.buf.now c.copy_from_slice.new.self c.self.inside.from c.min-n.result (omega arith) copy.len (copy.after ∙ ap (λ l. take (c.self.inside.from + c.min-n.result - c.self.inside.from) (drop c.self.inside.from l)) c.deref.ensures.value)
