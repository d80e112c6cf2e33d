use Rattle.std.proofs.Common.{arith}
use Rattle.m2v_dec_batch.specs.Batches.{headers}
use Rattle.m2v_dec_batch.proofs.Needs.{forward_exists, other_exists}
use Rattle.m2v_dec_batch.proofs.Ready.{first_part, other_part, first_place, other_place, given_fits}
use Rattle.m2v_dec_batch.proofs.jobs.DecodeBookJobBook.learn.Goals as goal

pub jobs_at-first-requires : goal.jobs_at-first-requires
jobs_at-first-requires c = record { picture = forward_exists (headers c.args.self.now) c.picture_of_job.result c.reads-reads.result c.picture_of_job.ensures.picture c.reads-reads.ensures.value }

pub learn_at-requires-clause-place : goal.learn_at-requires-clause-place
learn_at-requires-clause-place c = forward_exists (headers c.args.self.now) c.picture_of_job.result c.reads-reads.result c.picture_of_job.ensures.picture c.reads-reads.ensures.value

pub learn_at-requires-clause-row : goal.learn_at-requires-clause-row
learn_at-requires-clause-row c = first_place c.args.self.now c.args.at c.jobs_at-first.result.from c.jobs_at-first.result.count c.reads-reads.result c.jobs_at-first.ensures.jobs c.if-at-first.true

pub learn_at-requires-else-at-first-clause-place : goal.learn_at-requires-else-at-first-clause-place
learn_at-requires-else-at-first-clause-place c = other_exists (headers c.args.self.now) c.picture_of_job.result c.reads-reads.result c.picture_of_job.ensures.picture c.reads-reads.ensures.value

pub learn_at-requires-else-at-first-clause-row : goal.learn_at-requires-else-at-first-clause-row
learn_at-requires-else-at-first-clause-row c =
    other_place c.args.self.now c.args.j c.args.at c.picture_of_job.result c.jobs_at-first.result.from c.jobs_at-first.result.count c.reads-reads.result c.picture_of_job.ensures.value c.reads-reads.ensures.value
    c.jobs_at-first.ensures.jobs (omega (arith, c.if-at-first.false)) c.requires.at

pub returns-then-at-first : goal.returns-then-at-first
returns-then-at-first c =
    let b = c.args.self.now in
    let is =
    first_part b c.args.j c.args.at c.picture_of_job.result c.jobs_at-first.result.from c.jobs_at-first.result.count c.reads-reads.result c.args.part.now c.args.cache.now c.learn_at.new.cache c.picture_of_job.ensures.value
    c.reads-reads.ensures.value c.jobs_at-first.ensures.jobs c.if-at-first.true c.learn_at.ensures.value in
    record {
      fits = given_fits b c.args.j c.args.at c.args.part.now c.args.cache.now c.learn_at.new.cache c.pictures-batch.ensures.batch c.requires.job c.requires.at c.requires.part c.requires.cache is;
      learned = is;
    }

pub returns-else-at-first : goal.returns-else-at-first
returns-else-at-first c =
    let b = c.args.self.now in
    let is =
    other_part b c.args.j c.args.at c.picture_of_job.result c.jobs_at-first.result.from c.jobs_at-first.result.count c.reads-reads.result c.args.part.now c.args.cache.now c.learn_at-else-at-first.new.cache c.picture_of_job.ensures.value
    c.reads-reads.ensures.value c.jobs_at-first.ensures.jobs (omega (arith, c.if-at-first.false)) c.learn_at-else-at-first.ensures.value in
    record {
      fits = given_fits b c.args.j c.args.at c.args.part.now c.args.cache.now c.learn_at-else-at-first.new.cache c.pictures-batch.ensures.batch c.requires.job c.requires.at c.requires.part c.requires.cache is;
      learned = is;
    }
