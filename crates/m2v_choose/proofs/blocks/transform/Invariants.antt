use Rattle.std.proofs.Common.{◌≡◌, ◌<◌, ℕ, false, [], length, get_or}
use Rattle.m2v_idct.specs.Forward.{forward_of}
use Rattle.m2v_choose.specs.Decisions.{differences}
use Rattle.m2v_choose.specs.Trials.{StandsFor}
use Rattle.m2v_choose.proofs.blocks.transform.Given as goal

abbrev pub invariant-loop-block : goal.invariant-loop-block
invariant-loop-block l = record {
  len : length l.out ≡ 6;
  count : length l.most ≡ 6;
  at : (b : ℕ) → b < l.block → StandsFor l.least (forward_of (differences l.source.at l.prediction.at false b)) (get_or l.out b []) (get_or l.most b 0);
}
