use Rattle.std.proofs.Common.{◌*◌, arith, refl}
use Rattle.m2v_search.proofs.Bounded.{spot_most}
use Rattle.m2v_search.proofs.difference.sad_of.Goals as goal

pub returns-in-None : goal.returns-in-None
returns-in-None c =
    let most = spot_most c.args.block.now c.args.window.now c.args.count (16 * c.args.count) c.args.spot c.requires.sought.block_long refl
    (λ i. omega (arith, c.type_inv.block i)) (λ i. omega (arith, c.type_inv.window i)) c.requires.line c.requires.column in
    absurd (omega (arith, most, c.in-None.ensures.none.0 refl))
