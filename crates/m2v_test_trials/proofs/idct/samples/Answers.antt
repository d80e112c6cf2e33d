use Rattle.std.proofs.Common.{arith, pos}
use Rattle.std.proofs.lemmas.Int.{ints}
use Rattle.std.proofs.lemmas.List.Elements.{All-replicate, All-set}
use Rattle.m2v_idct.specs.Ranges.{IsSample}
use Rattle.m2v_test_trials.proofs.idct.samples.Goals as goal

pub loop-i-init : goal.loop-i-init
loop-i-init c = All-replicate IsSample 64 (pos 0) (omega (arith, ints), omega (arith, ints))

pub loop-i-preserved : goal.loop-i-preserved
loop-i-preserved c =
    let low = c.clamp.ensures.lower_bound in
    let high = c.clamp.ensures.upper_bound in
    All-set IsSample c.loop-i.block _ _ (omega (arith, ints), omega (arith, ints)) c.loop-i.invariant
