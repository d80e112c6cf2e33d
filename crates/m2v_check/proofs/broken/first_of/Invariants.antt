use Rattle.std.proofs.Common.{◌≡◌, drop}
use Rattle.m2v_check.specs.Breaking.{found, told_by}
use Rattle.m2v_check.proofs.broken.first_of.Given as goal

abbrev pub invariant-loop-place : goal.invariant-loop-place
invariant-loop-place l = record {
  value : found (told_by (drop l.place-index l.places)) ≡ found (told_by l.fn.places);
}
