use Rattle.std.proofs.Common.{rules, arith}
use Rattle.m2v_block.proofs.Ranges.{power_most}
use Rattle.m2v_block.proofs.DcLooks.{difference_high, difference_low}
use Rattle.m2v_block.proofs.read_dc.difference.Goals as goal

pub returns-then-bits-size-clause-value : goal.returns-then-bits-size-clause-value
returns-then-bits-size-clause-value c =
    let most = power_most c.args.size c.requires.size in
    let high = difference_high c.args.size c.args.bits c.requires.bits (omega (arith, most, c.if-bits-size.true)) in
    rw high (search (rules, most))

pub returns-else-bits-size-clause-value : goal.returns-else-bits-size-clause-value
returns-else-bits-size-clause-value c =
    let most = power_most c.args.size c.requires.size in
    let low = difference_low c.args.size c.args.bits c.requires.bits (omega (arith, most, c.if-bits-size.false)) in
    rw low (search (rules, most))
