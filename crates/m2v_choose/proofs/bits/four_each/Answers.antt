use Rattle.std.proofs.Common.{arith}
use Rattle.m2v_choose.proofs.Cheapest.{ones_four, four_most}
use Rattle.m2v_choose.proofs.bits.four_each.Goals as goal

pub returns : goal.returns
returns c = record { value = ones_four c.args.pattern c.requires; most = omega (arith, ones_four c.args.pattern c.requires, four_most c.args.pattern) }
