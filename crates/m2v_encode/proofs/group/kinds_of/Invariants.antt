use Rattle.std.proofs.Common.{◌≡◌, map, take}
use Rattle.m2v_order.specs.declared.jobs.PictureJob.{PictureJob}
use Rattle.m2v_encode.proofs.group.kinds_of.Given as goal

abbrev pub invariant-loop-i : goal.invariant-loop-i
invariant-loop-i l = l.kinds.items ≡ map (λ (j : PictureJob). j.kind) (take l.i l.fn.pictures)
