use Rattle.std.proofs.Common.{◌≡◌, ◌≤◌, ◌*◌, take}
use Rattle.std.specs.Prelude.{sum}
use Rattle.m2v_dec_batch.proofs.pieces.sum_few.Given as goal

abbrev pub invariant-loop-i : goal.invariant-loop-i
invariant-loop-i l = record {
  value : l.all ≡ sum (take l.i l.samples);
  most : l.all ≤ 255 * l.i;
}
