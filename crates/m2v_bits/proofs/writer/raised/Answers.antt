use Rattle.std.proofs.Common.{arith}
use Rattle.std.proofs.Math.Nat.{mod-eq_of_lt}
use Rattle.m2v_bits.proofs.Cursor.{raised_less}
use Rattle.m2v_bits.proofs.writer.raised.Goals as goal

pub returns : goal.returns
returns c = mod-eq_of_lt (omega (arith, raised_less c.args.acc c.args.held c.requires.width c.requires.fits))
