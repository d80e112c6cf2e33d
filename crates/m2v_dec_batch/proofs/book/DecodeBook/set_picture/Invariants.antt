use Rattle.std.proofs.Common.{◌≡◌}
use Rattle.m2v_dec_batch.specs.Jobs.{header_at, first_job}
use Rattle.m2v_dec_batch.specs.Batches.{headers, rows_set}
use Rattle.m2v_dec_batch.specs.Painted.{all_rows}
use Rattle.m2v_dec_batch.proofs.book.DecodeBook.set_picture.Given as goal

abbrev pub invariant-loop-r : goal.invariant-loop-r
invariant-loop-r l = record {
  size : l.frame.dims ≡ l.self.dims;
  value : l.frame ≡ rows_set (header_at (headers l.self) l.p) (all_rows l.self) (first_job (headers l.self) l.p) l.r l.fn.frame;
}
