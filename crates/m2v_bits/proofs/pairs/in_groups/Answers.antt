use Rattle.std.proofs.Common.{◌+◌, ◌*◌, ◌≡◌, ◌<◌, subst, sym, arith}
use Rattle.m2v_bits.specs.Bits.{HasNoPair}
use Rattle.m2v_bits.proofs.PairLaws.{pair_more}
use Rattle.m2v_bits.proofs.pairs.in_groups.Goals as goal

pub loop-group-preserved : goal.loop-group-preserved
loop-group-preserved c =
    let bytes = c.args.bytes.now in
    let n = 16 * c.loop-group.group in
    let some : 0 < c.least_of.result = omega (arith, c.if-least_of-eq0.false) in
    let ends : 16 * (c.loop-group.group + 1) ≡ n + 16 = omega arith in
    subst (λ k. HasNoPair k bytes) (sym ends) (pair_more bytes n c.loop-group.invariant (c.least_of.ensures some))
