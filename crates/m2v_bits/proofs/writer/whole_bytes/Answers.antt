use Rattle.m2v_bits.proofs.Cursor.{packed_front}
use Rattle.m2v_bits.proofs.writer.whole_bytes.Goals as goal

pub returns-clause-packed : goal.returns-clause-packed
returns-clause-packed c = packed_front c.args.used c.args.buf.now (λ i. (c.type_inv.buf i).fits)
