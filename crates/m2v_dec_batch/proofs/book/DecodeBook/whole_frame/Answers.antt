use Rattle.std.proofs.Common.{◌-◌, ◌∙◌, sym, ap}
use Rattle.m2v_plane.specs.Samples.{Samples}
use Rattle.m2v_dec_batch.specs.Batches.{all_set}
use Rattle.m2v_dec_batch.specs.Painted.{all_rows}
use Rattle.m2v_dec_batch.proofs.FrameSizes.{behind_size}
use Rattle.m2v_dec_batch.proofs.BehindFrames.{second_all}
use Rattle.m2v_dec_batch.proofs.book.DecodeBook.whole_frame.Goals as goal

pub set_picture-requires-clause-size : goal.set_picture-requires-clause-size
set_picture-requires-clause-size c = ap (λ (f : Samples). f.dims) c.in_ok-frame.ensures.value ∙ behind_size c.args.self.now (all_rows c.args.self.now) (c.args.p - 1) c.pictures-batch.ensures.batch

pub returns-then-is_second : goal.returns-then-is_second
returns-then-is_second c =
    let b = c.args.self.now in
    let second = sym c.is_second.ensures.value ∙ c.if-is_second.true in
    record { value = c.set_picture.ensures.value ∙ ap (all_set b (all_rows b) c.args.p) c.in_ok-frame.ensures.value ∙ second_all b (all_rows b) c.args.p c.if-p-gt0.true second }
