use Rattle.std.proofs.Common.{◌≡◌, ◌≤◌, ◌*◌, take}
use Rattle.std.specs.Prelude.{sum}
use Rattle.m2v_dec_batch.proofs.pieces.sum_all.Given as goal

abbrev pub invariant-loop-block : goal.invariant-loop-block
invariant-loop-block l = record {
  value : l.all ≡ sum (take (64 * l.block) l.samples);
  most : l.all ≤ 16320 * l.block;
}
