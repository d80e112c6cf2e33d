use Rattle.std.proofs.Common.{ap, subst, ◌∙◌}
use Rattle.m2v_plane.specs.Samples.{Samples}
use Rattle.m2v_slice.specs.Jobs.{IsSlicePart, HasDims}
use Rattle.m2v_slice.proofs.jobs.share_slice.Goals as goal

pub copy_from-requires : goal.copy_from-requires
unfolding HasDims
copy_from-requires c = record {
  same = ap (λ (x : Samples). x.dims) c.row.ensures ∙ subst (HasDims c.args.out.now.row.dims) c.in-Slice.is c.requires.same;
}

pub returns-in_default : goal.returns-in_default
unfolding IsSlicePart
returns-in_default c = absurd (subst IsSlicePart c.in_default.is c.requires.slice)
