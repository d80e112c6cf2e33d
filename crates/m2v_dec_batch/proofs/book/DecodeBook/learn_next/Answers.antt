use Rattle.std.proofs.Common.{◌∙◌, ap, arith, ◌+◌, ◌&&◌, Option}
use Rattle.std.specs.Prelude.{is_some}
use Rattle.std.specs.Option.{option_map}
use Rattle.m2v_plane.specs.Samples.{Samples}
use Rattle.m2v_dec_batch.specs.Batches.{headers, with_own}
use Rattle.m2v_dec_batch.proofs.Sizes.{jobs_are}
use Rattle.m2v_dec_batch.proofs.Learning.{other_row, next_learned, row_there}
use Rattle.m2v_dec_batch.proofs.book.DecodeBook.learn_next.Goals as goal

pub returns-then-held-k : goal.returns-then-held-k
returns-then-held-k c = record { value = other_row (headers c.args.self.now) c.args.q c.args.k c.args.part.now.row c.args.held.now c.if-held-k.true }

pub picture_of_job-p-requires : goal.picture_of_job-p-requires
picture_of_job-p-requires c = record {
  job = omega (arith, jobs_are c.args.self.now c.pictures-batch.ensures.batch, c.jobs_behind.ensures.there, c.jobs_behind.ensures.count, c.requires.row);
}

pub row_of_job-requires : goal.row_of_job-requires
row_of_job-requires c = record {
  job = omega (arith, jobs_are c.args.self.now c.pictures-batch.ensures.batch, c.jobs_behind.ensures.there, c.jobs_behind.ensures.count, c.requires.row);
}

pub add-requires-clause-row : goal.add-requires-clause-row
add-requires-clause-row c =
    row_there c.args.self.now c.args.held.now.frame c.picture_of_job-p.result (c.jobs_behind.result.from + c.args.k) c.row_of_job.result c.header.result c.pictures-batch.ensures.batch c.requires.frame c.header.ensures.value
    c.picture_of_job-p.ensures.value c.row_of_job.ensures.row

pub returns : goal.returns
returns c =
    let hs = headers c.args.self.now in
    let old = c.args.held.now in
    record {
      value = next_learned hs c.args.q c.args.k (c.jobs_behind.result.from + c.args.k) c.picture_of_job-p.result c.row_of_job.result c.header.result c.args.part.now.row old c.add.new.self c.if-held-k.false
          (ap (λ n. n + c.args.k) c.jobs_behind.ensures.from) c.picture_of_job-p.ensures.value c.header.ensures.value c.row_of_job.ensures.value
          (c.add.ensures.value
          ∙ ap (λ (o : Option Samples). record old { frame = option_map (with_own c.header.result c.row_of_job.result o) old.frame; count = old.count + 1; whole = old.whole && is_some o }) c.samples.ensures.value);
    }
