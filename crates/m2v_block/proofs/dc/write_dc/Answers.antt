use Rattle.std.proofs.Common.{refl}
use Rattle.std.proofs.lemmas.Int.{to_z-of_z}
use Rattle.m2v_block.proofs.dc.write_dc.Goals as goal

pub returns-clause-written : goal.returns-clause-written
returns-clause-written c =
    let fits = c.ranges.difference in
    let gains = simp to_z-of_z at c.put_dc.ensures in
    gains.taken c.args.out.now.written refl

pub returns-clause-room : goal.returns-clause-room
returns-clause-room c =
    let fits = c.ranges.difference in
    let gains = simp to_z-of_z at c.put_dc.ensures in
    gains.less
