use Rattle.m2v_quant.proofs.Scanned.{later_place}
use Rattle.m2v_quant.proofs.sparse.put_kept.Goals as goal

pub later_coefficient-requires-clause-later : goal.later_coefficient-requires-clause-later
later_coefficient-requires-clause-later c = rw c.scan-place.ensures.value (later_place c.args.alternate c.args.x.now.position c.requires.later c.requires.position)
