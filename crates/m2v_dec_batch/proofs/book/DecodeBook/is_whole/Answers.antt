use Rattle.std.proofs.Common.{◌∙◌, length, sym}
use Rattle.m2v_dec_batch.specs.Batches.{headers}
use Rattle.m2v_dec_batch.proofs.Learning.{behind_is, behind_there}
use Rattle.m2v_dec_batch.proofs.book.DecodeBook.is_whole.Goals as goal

pub jobs_behind-requires : goal.jobs_behind-requires
jobs_behind-requires c = record {
  picture = behind_there (length (headers c.args.self.now)) c.args.place c.in-Some.q (behind_is c.args.place c.in-Some.q (sym c.behind.ensures.value ∙ c.in-Some.is)) c.requires.place;
}
