use Rattle.std.proofs.Common.{◌+◌, ◌-◌, ◌≤◌, arith}
use Rattle.std.proofs.Math.Nat.{mul-le-mul_right}
use Rattle.m2v_kernel.proofs.window.line_place.Goals as goal

pub returns-clause-within : goal.returns-clause-within
returns-clause-within c =
    let less : c.args.line + 3 ≤ c.args.lines - 1 = omega arith in
    omega (arith, mul-le-mul_right c.args.stride less)
