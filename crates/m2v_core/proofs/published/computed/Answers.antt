use Rattle.std.specs.Prelude.{not, is_some, slice_index_or, None}
use Rattle.m2v_core.proofs.Learns.{learn_none, learn_more, find_none, not_false}
use Rattle.m2v_core.proofs.published.computed.Goals as goal

pub learn_need-requires-clause-there : goal.learn_need-requires-clause-there
learn_need-requires-clause-there g c = λ κs l. not_false _ (find_none (λ i. not (is_some (slice_index_or c.args.published.now i None))) c.args.needs.now c.requires.none_missing c.loop-at.at c.loop-at-test.true)

pub loop-at-init : goal.loop-at-init
loop-at-init g c = record { fits = c.in_ok-cache.ensures; learned = learn_none _ _ _ _ }

pub loop-at-preserved : goal.loop-at-preserved
loop-at-preserved g c = record { fits = c.in_ok-learn_need.ensures.fits; learned = learn_more _ _ _ c.loop-at.at _ _ _ c.loop-at.invariant.learned c.in_ok-learn_need.ensures.learned }
