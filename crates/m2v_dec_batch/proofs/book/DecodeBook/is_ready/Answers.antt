use Rattle.std.proofs.Common.{◌∙◌, ap}
use Rattle.std.specs.Prelude.{◌&&◌}
use Rattle.m2v_dec_batch.specs.declared.picture.Reads.{Reads}
use Rattle.m2v_dec_batch.specs.Jobs.{read_by}
use Rattle.m2v_dec_batch.specs.Batches.{headers}
use Rattle.m2v_dec_batch.specs.Works.{whole_at}
use Rattle.m2v_dec_batch.proofs.Needs.{forward_exists, other_exists}
use Rattle.m2v_dec_batch.proofs.Ready.{ready_is}
use Rattle.m2v_dec_batch.proofs.book.DecodeBook.is_ready.Goals as goal

pub is_whole-requires : goal.is_whole-requires
is_whole-requires c = record { place = forward_exists (headers c.args.self.now) c.picture_of_job.result c.reads-reads.result c.picture_of_job.ensures.picture c.reads-reads.ensures.value }

pub is_whole-requires-2 : goal.is_whole-requires-2
is_whole-requires-2 c = record { place = other_exists (headers c.args.self.now) c.picture_of_job.result c.reads-reads.result c.picture_of_job.ensures.picture c.reads-reads.ensures.value }

pub returns : goal.returns
returns c =
    let b = c.args.self.now in
    let d = c.args.cache.now in
    let is = c.reads-reads.ensures.value ∙ ap (read_by (headers b)) c.picture_of_job.ensures.value in
    record {
      value = c.both.ensures.value
          ∙ (λ i. c.is_whole.ensures.value i && c.is_whole-2.ensures.value i)
          ∙ ap (λ (r : Reads). whole_at b d r.forward && whole_at b d r.other) is
          ∙ ready_is b c.args.j d c.requires.learned;
    }
