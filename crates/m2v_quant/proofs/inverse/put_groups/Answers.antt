use Rattle.m2v_quant.proofs.Scanned.{nothing_yet}
use Rattle.m2v_quant.proofs.inverse.put_groups.Goals as goal

pub loop-group-init : goal.loop-group-init
loop-group-init c = rw c.requires.zeros (nothing_yet c.args.levels.now.at c.args.kind.now)
