use Rattle.std.proofs.Common.{◌<◌, length, get_or, sym, ap, subst, ◌∙◌}
use Rattle.m2v_order.specs.declared.jobs.PictureJob.{PictureJob}
use Rattle.m2v_plane.specs.Fields.{no_samples}
use Rattle.m2v_slice.proofs.Groups.{picture_is_one}
use Rattle.m2v_slice.proofs.book.EncodeBook.source.Goals as goal

pub frame-requires : goal.frame-requires
frame-requires c = record {
  frame = subst (λ (j : PictureJob). j.frame < length c.args.self.now.frames) (sym c.job.ensures.value)
      (picture_is_one c.args.self.now c.pictures-book.ensures.book c.args.p c.requires.picture).frame;
}

pub returns : goal.returns
returns c = record { value = c.frame.ensures.value ∙ ap (λ (j : PictureJob). get_or c.args.self.now.frames j.frame no_samples) c.job.ensures.value }
