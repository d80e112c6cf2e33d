use Rattle.std.proofs.Common.{◌+◌, ◌*◌, length}
use Rattle.m2v_wave.proofs.each.+each.Given as goal

abbrev pub decreases-first_beside : goal.decreases-first_beside
decreases-first_beside g l = 3 * length l.others.now + 2

abbrev pub decreases-first_beside-rest : goal.decreases-first_beside-rest
decreases-first_beside-rest g l = 3 * length l.others.now + 1

abbrev pub decreases-for_each : goal.decreases-for_each
decreases-for_each g l = 3 * length l.s.now
