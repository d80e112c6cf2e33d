use Rattle.std.proofs.Common.{◌≡◌, ◌≤◌}
use Rattle.m2v_enc_activity.specs.Activity.{anchors_before}
use Rattle.m2v_enc_activity.proofs.compare.anchor_before.Given as goal

abbrev pub invariant-loop-at : goal.invariant-loop-at
invariant-loop-at l = record {
  none_since : anchors_before l.pictures l.structure l.p ≡ anchors_before l.pictures l.structure l.at;
  most : l.at ≤ l.p;
}

abbrev pub decreases-loop-at : goal.decreases-loop-at
decreases-loop-at l = l.at
