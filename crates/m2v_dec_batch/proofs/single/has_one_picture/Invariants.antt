use Rattle.std.proofs.Common.{◌↔◌, length}
use Rattle.m2v_dec_rows.specs.OnePicture.{HasOnePicture}
use Rattle.m2v_dec_batch.proofs.single.has_one_picture.Given as goal

abbrev pub invariant-loop-u : goal.invariant-loop-u
invariant-loop-u l = HasOnePicture l.units ↔ HasOnePicture l.fn.units

abbrev pub decreases-loop-u : goal.decreases-loop-u
decreases-loop-u l = length l.units
