use Rattle.std.proofs.Common.{ap, arith}
use Rattle.m2v_dec_batch.specs.Jobs.{jobs_of}
use Rattle.m2v_dec_batch.specs.Batches.{headers}
use Rattle.m2v_pardec.specs.Rows.{RowsFrom}
use Rattle.m2v_pardec.proofs.PutSteps.{jobs_small}
use Rattle.m2v_pardec.proofs.rows.BatchRowsPictureRows.row.Goals as goal

pub overflow_add-self-inside : goal.overflow_add-self-inside
overflow_add-self-inside c = record {
  fits = omega (arith, jobs_small c.self.inside.done.now c.self.invariant, c.requires.0, ap (λ (x : RowsFrom). x.first) c.self.view_is, ap (λ (x : RowsFrom). jobs_of (headers x.batch)) c.self.view_is);
}
