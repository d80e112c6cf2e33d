use Rattle.std.proofs.Common.{sym, ◌∙◌}
use Rattle.m2v_wave.specs.Benches.{IsBenchOf}
use Rattle.m2v_wave.proofs.run.run_jobs_beside.Goals as goal

pub worked-workers-requires-clause-idle : goal.worked-workers-requires-clause-idle
unfolding IsBenchOf
worked-workers-requires-clause-idle g c = λ κs l. c.requires.bench.4

pub one_pass-pass-requires-clause-some : goal.one_pass-pass-requires-clause-some
unfolding IsBenchOf
one_pass-pass-requires-clause-some g c = λ κs l. rw c.worked-workers.ensures.count c.requires.bench.2

pub ended-requires-clause-passes : goal.ended-requires-clause-passes
unfolding IsBenchOf
ended-requires-clause-passes g c = λ κs l. c.one_pass-pass.ensures.passes ∙ c.worked-workers.ensures.count ∙ sym c.requires.bench.3

pub ended-requires-clause-room : goal.ended-requires-clause-room
unfolding IsBenchOf
ended-requires-clause-room g c = λ κs l. (c.requires.bench.5, c.requires.bench.6)

pub ended-requires-clause-board : goal.ended-requires-clause-board
unfolding IsBenchOf
ended-requires-clause-board g c = λ κs l. (c.requires.bench.0, c.requires.bench.1)
