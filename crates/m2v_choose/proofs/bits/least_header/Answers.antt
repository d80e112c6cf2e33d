use Rattle.std.proofs.Common.{arith}
use Rattle.m2v_choose.proofs.Headers.{least_known}
use Rattle.m2v_choose.proofs.bits.least_header.Goals as goal

pub returns : goal.returns
returns c = least_known c.args._task.now c.args._bare.now c.args.headers.now _ c.requires.code.other c.requires.headers (omega arith) (omega arith)
