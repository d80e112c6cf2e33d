use Rattle.std.proofs.Common.{◌∙◌, ap}
use Rattle.m2v_plane.specs.Samples.{Samples}
use Rattle.m2v_dec_batch.specs.Batches.{no_rows, all_set}
use Rattle.m2v_dec_batch.specs.Painted.{all_rows}
use Rattle.m2v_dec_batch.proofs.FrameSizes.{behind_size}
use Rattle.m2v_dec_batch.proofs.Blank.{begun_all}
use Rattle.m2v_dec_batch.proofs.book.DecodeBook.begun_frame.Goals as goal

pub set_picture-requires-clause-size : goal.set_picture-requires-clause-size
set_picture-requires-clause-size c = ap (λ (f : Samples). f.dims) c.in_ok-frame.ensures.value ∙ behind_size c.args.self.now no_rows c.args.p c.pictures-batch.ensures.batch

pub returns : goal.returns
returns c =
    let b = c.args.self.now in
    record { value = c.set_picture.ensures.value ∙ ap (all_set b (all_rows b) c.args.p) c.in_ok-frame.ensures.value ∙ begun_all b (all_rows b) c.args.p c.requires.begins }
