use Rattle.m2v_bits.proofs.Cursor.{spilled_four}
use Rattle.m2v_bits.proofs.writer.put_four.Goals as goal

pub returns-clause-written : goal.returns-clause-written
returns-clause-written c =
    spilled_four c.args.buf.now.items c.args.at c.args.word c.low.result c.low-2.result c.low-3.result c.low-4.result c.requires c.low.ensures c.low-2.ensures c.low-3.ensures c.low-4.ensures
