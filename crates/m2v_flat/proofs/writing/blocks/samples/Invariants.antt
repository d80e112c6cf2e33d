use Rattle.std.proofs.Common.{◌+◌, ◌/◌, ◌%◌, pos}
use Rattle.m2v_plane.specs.Samples.{sample_of}
use Rattle.m2v_flat.proofs.Samples.{Made}
use Rattle.m2v_flat.proofs.writing.blocks.samples.Given as goal

abbrev pub invariant-loop-k : goal.invariant-loop-k
invariant-loop-k l = Made (λ k. pos (sample_of l.frame l.plane (l.line + k / 8) (l.column + k % 8))) l.k l.samples
