use Rattle.std.proofs.Common.{◌≡◌, take}
use Rattle.m2v_law_seam.specs.Spans.{units_in, picture_count}
use Rattle.m2v_mend.specs.Kept.{bodies}
use Rattle.m2v_mend.proofs.alone.first_picture.Given as goal

abbrev pub invariant-loop-member : goal.invariant-loop-member
invariant-loop-member l = picture_count (units_in (bodies (take l.member-index l.members))) ≡ 0
