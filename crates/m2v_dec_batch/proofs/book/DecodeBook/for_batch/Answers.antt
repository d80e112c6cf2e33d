use Rattle.std.proofs.Common.{◌≤◌, List, map, sym, subst}
use Rattle.m2v_dec_batch.specs.declared.picture.BatchPicture.{BatchPicture}
use Rattle.m2v_dec_batch.specs.Jobs.{header_at}
use Rattle.m2v_dec_batch.specs.Batches.{Batch, header_of}
use Rattle.m2v_dec_batch.proofs.Sizes.{batch_jobs, rows_are}
use Rattle.m2v_dec_batch.proofs.book.DecodeBook.for_batch.Goals as goal

pub returns-clause-jobs : goal.returns-clause-jobs
returns-clause-jobs c = batch_jobs (record {
  dims = c.args.dims;
  pictures = c.args.pictures.items;
  older = c.args.frames.older;
  newer = c.args.frames.newer;
  waiting = c.args.frames.waiting;
}) c.requires.batch

pub before_each-before-requires-clause-rows : goal.before_each-before-requires-clause-rows
before_each-before-requires-clause-rows c p =
    let b : Batch = record {
      dims = c.args.dims;
      pictures = c.args.pictures.items;
      older = c.args.frames.older;
      newer = c.args.frames.newer;
      waiting = c.args.frames.waiting;
    } in
    subst (λ (xs : List BatchPicture). (header_at (map header_of xs) p).rows ≤ 72) (sym c.deref.ensures.value) (rows_are b p c.requires.batch).most
