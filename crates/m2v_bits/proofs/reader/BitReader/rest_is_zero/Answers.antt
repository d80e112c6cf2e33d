use Rattle.std.proofs.Common.{sym, ◌∙◌}
use Rattle.m2v_bits.proofs.Bits.{zero_near}
use Rattle.m2v_bits.proofs.reader.BitReader.rest_is_zero.Goals as goal

pub returns-then-peek-ne0 : goal.returns-then-peek-ne0
returns-then-peek-ne0 c = sym (zero_near 32 c.args.self.now.rest (λ e. c.if-peek-ne0.true (c.peek.ensures.value ∙ e)))
