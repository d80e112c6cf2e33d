use Rattle.std.proofs.Common.{◌≡◌, take, false}
use Rattle.m2v_law_seam.specs.Spans.{units_in, has_matrices}
use Rattle.m2v_mend.specs.Kept.{bodies}
use Rattle.m2v_mend.proofs.alone.first_matrices.Given as goal

abbrev pub invariant-loop-member : goal.invariant-loop-member
invariant-loop-member l = has_matrices (units_in (bodies (take l.member-index l.members))) ≡ false
