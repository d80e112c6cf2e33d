use Rattle.std.proofs.Common.{ℕ, arith}
use Rattle.m2v_dec_batch.specs.Batches.{headers}
use Rattle.m2v_dec_batch.proofs.Sizes.{rows_are}
use Rattle.m2v_dec_batch.proofs.Anchors.{jobs_most}
use Rattle.m2v_dec_batch.proofs.book.DecodeBook.first_job.Goals as goal

pub returns-clause-most : goal.returns-clause-most
returns-clause-most c =
    let b = c.args.self.now in
    omega (arith, c.before-2.ensures.value.jobs, jobs_most (headers b) c.args.p (λ (q : ℕ). (rows_are b q c.pictures-batch.ensures.batch).most))
