use Rattle.std.proofs.Common.{subst, sym}
use Rattle.m2v_dec_batch.specs.Batches.{IsBatch}
use Rattle.m2v_pardec.proofs.PutSteps.{all_there}
use Rattle.m2v_pardec.proofs.put.Worked.is_rebuilt.Goals as goal

pub from_job-requires : goal.from_job-requires
from_job-requires c = record { batch = subst IsBatch (sym c.requires) c.pictures-batch.ensures.batch }

pub returns : goal.returns
returns c = λ t. all_there c.args.self.now.book c.args.self.now.done c.from_job.result c.jobs.result c.from_job.ensures c.requires c.jobs.ensures (c.are_rebuilt.ensures t)
