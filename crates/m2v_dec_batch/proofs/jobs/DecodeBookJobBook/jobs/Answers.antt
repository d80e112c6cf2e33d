use Rattle.std.proofs.Common.{◌∙◌, ap, sym}
use Rattle.m2v_dec_batch.specs.Jobs.{first_job}
use Rattle.m2v_dec_batch.specs.Batches.{headers}
use Rattle.m2v_dec_batch.proofs.Sizes.{jobs_are}
use Rattle.m2v_dec_batch.proofs.jobs.DecodeBookJobBook.jobs.Goals as goal

pub returns : goal.returns
returns c = c.first_job.ensures.value ∙ ap (first_job (headers c.args.self.now)) c.pictures.ensures.value ∙ sym (jobs_are c.args.self.now c.pictures.ensures.batch)
