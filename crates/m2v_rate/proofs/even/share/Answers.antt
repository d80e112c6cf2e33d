use Rattle.std.proofs.Common.{arith, refl, ◌≤◌}
use Rattle.m2v_rate.specs.Sharing.{share, pool}
use Rattle.m2v_rate.proofs.SharingLaws.{share_most}
use Rattle.m2v_rate.proofs.even.share.Goals as goal

pub returns-clause-value : goal.returns-clause-value
unfolding share
returns-clause-value c = rw (c.need.ensures.value, c.requires.pool, c.requires.needs) refl

pub returns-clause-most : goal.returns-clause-most
unfolding share
returns-clause-most c =
    let most : share c.args.group.now c.args.p c.args.j ≤ pool c.args.group.now c.args.p = share_most c.args.group.now c.args.p c.args.j c.requires.picture in
    rw (c.need.ensures.value, c.requires.pool, c.requires.needs) (omega (arith, most, c.requires.pool, c.requires.most))
