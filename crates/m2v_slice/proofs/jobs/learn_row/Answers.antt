use Rattle.std.proofs.Common.{get_or, sym, subst}
use Rattle.m2v_plane.specs.Fields.{no_samples}
use Rattle.m2v_slice.specs.Jobs.{HasDims}
use Rattle.m2v_slice.proofs.jobs.learn_row.Goals as goal

pub set_row-requires-clause-same : goal.set_row-requires-clause-same
unfolding HasDims
set_row-requires-clause-same c = sym (subst (HasDims (get_or c.args.cache.now.rows c.args.k no_samples).dims) c.in-Slice.is c.requires.same)
