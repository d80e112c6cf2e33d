use Rattle.std.proofs.Common.{◌≤◌, ◌<◌, ◌+◌, length}
use Rattle.m2v_dec_batch.specs.Jobs.{first_job}
use Rattle.m2v_dec_batch.specs.Batches.{headers}
use Rattle.m2v_dec_batch.proofs.book.DecodeBook.picture_of_job.Given as goal

abbrev pub invariant-loop-p : goal.invariant-loop-p
invariant-loop-p l = record {
  low : l.p ≤ length (headers l.self);
  before : l.j < first_job (headers l.self) (length (headers l.self));
  over : l.p < length (headers l.self) → l.j < first_job (headers l.self) (l.p + 1);
}

abbrev pub decreases-loop-p : goal.decreases-loop-p
decreases-loop-p l = l.p
