use Rattle.std.proofs.Common.{ap, arith, length}
use Rattle.m2v_dec_batch.specs.Jobs.{first_job}
use Rattle.m2v_dec_batch.specs.Batches.{headers}
use Rattle.m2v_dec_batch.specs.Below.{picture_upto, some_pictures}
use Rattle.m2v_dec_batch.proofs.Sizes.{row_within}
use Rattle.m2v_dec_batch.proofs.book.DecodeBook.row_of_job.Goals as goal

pub overflow_sub-result : goal.overflow_sub-result
overflow_sub-result c =
    let hs = headers c.args.self.now in
    omega (arith, picture_upto hs (length hs) c.args.j, c.first_job.ensures.value, ap (first_job hs) c.picture_of_job.ensures.value)

pub returns-clause-row : goal.returns-clause-row
returns-clause-row c =
    let hs = headers c.args.self.now in
    omega (arith, row_within hs c.args.j (some_pictures hs c.args.j c.requires.job).1, c.first_job.ensures.value, ap (first_job hs) c.picture_of_job.ensures.value)
