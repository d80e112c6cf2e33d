use Rattle.std.proofs.Common.{arith, sym}
use Rattle.m2v_port.proofs.Numbers.{none_stands}
use Rattle.m2v_port.proofs.calls.stands.Goals as goal

pub returns-in-None-clause-value : goal.returns-in-None-clause-value
returns-in-None-clause-value c = sym (none_stands c.args.fail.now c.args.made (omega (arith, c.in-None.ensures)) c.type_inv.fail)
