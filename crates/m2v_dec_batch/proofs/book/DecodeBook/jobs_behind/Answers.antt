use Rattle.std.proofs.Common.{◌+◌, suc, ap, ◌≡◌, length, arith}
use Rattle.m2v_dec_batch.specs.Jobs.{first_job}
use Rattle.m2v_dec_batch.specs.Batches.{headers}
use Rattle.m2v_dec_batch.specs.Below.{first_upto}
use Rattle.m2v_dec_batch.proofs.Sizes.{frame_fits}
use Rattle.m2v_dec_batch.proofs.book.DecodeBook.jobs_behind.Goals as goal

pub overflow_sub-result : goal.overflow_sub-result
overflow_sub-result c =
    omega (arith, c.first_job-from.ensures.value, c.first_job.ensures.value, first_upto (headers c.args.self.now) c.frame_begin.result (c.args.q + 1) (omega (arith, c.frame_begin.ensures.most)))

pub returns-clause-few : goal.returns-clause-few
returns-clause-few c =
    let hs = headers c.args.self.now in
    let e : c.args.q + 1 ≡ suc c.args.q = omega arith in
    omega (arith, c.first_job-from.ensures.value, c.first_job.ensures.value, ap (first_job hs) c.frame_begin.ensures.value, ap (first_job hs) e, frame_fits c.args.self.now c.args.q c.pictures-pictures.ensures.batch)

pub returns-clause-there : goal.returns-clause-there
returns-clause-there c =
    let hs = headers c.args.self.now in
    omega (arith, c.first_job-from.ensures.value, c.first_job.ensures.value, first_upto hs (c.args.q + 1) (length hs) (omega (arith, c.requires.picture)), first_upto hs c.frame_begin.result (c.args.q + 1) (omega (arith, c.frame_begin.ensures.most)))
