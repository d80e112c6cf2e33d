use Rattle.std.proofs.Common.{◌≡◌, ◌≤◌, ℕ, length, map, get_or}
use Rattle.m2v_dec_batch.specs.declared.reads.Before.{Before}
use Rattle.m2v_dec_batch.specs.Batches.{header_of}
use Rattle.m2v_dec_batch.specs.Below.{IsBefore}
use Rattle.m2v_dec_batch.proofs.reads.before_each.Given as goal

abbrev pub invariant-loop-p : goal.invariant-loop-p
invariant-loop-p l = record {
  size : length l.all ≡ 17;
  each : (k : ℕ) (d : Before) → k ≤ l.p → IsBefore (map header_of l.pictures) k (get_or l.all k d);
}
