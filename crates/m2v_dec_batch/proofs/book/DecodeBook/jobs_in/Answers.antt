use Rattle.std.proofs.Common.{length, subst}
use Rattle.m2v_dec_batch.specs.declared.picture.FramePlace.{FramePlace}
use Rattle.m2v_dec_batch.specs.Batches.{headers}
use Rattle.m2v_dec_batch.specs.Below.{ComesBefore}
use Rattle.m2v_dec_batch.proofs.book.DecodeBook.jobs_in.Goals as goal

pub jobs_behind-requires : goal.jobs_behind-requires
unfolding ComesBefore
jobs_behind-requires c = record {
  picture = subst (λ (x : FramePlace). ComesBefore (length (headers c.args.self.now)) x) c.in-Behind.is c.requires.picture;
}
