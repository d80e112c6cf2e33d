use Rattle.std.proofs.Common.{refl}
use Rattle.m2v_dec_batch.specs.Jobs.{first_job, picture_among, newer_before, older_before, first_field, read_by, frame_begin, jobs_at, needs_of, jobs_of}
use Rattle.m2v_dec_batch.specs.Examples.{ipbb, field_pairs}
use Rattle.m2v_dec_batch.proofs.laws.law_worked_rows.Goals as goal

pub returns : goal.returns
unfolding first_job picture_among newer_before older_before first_field read_by frame_begin jobs_at needs_of jobs_of ipbb field_pairs
returns c = record {
  frames = (refl, refl, refl);
  intra = refl;
  forward = refl;
  both = (refl, refl);
  before = (refl, refl, refl);
  fields = (refl, refl, refl);
}
