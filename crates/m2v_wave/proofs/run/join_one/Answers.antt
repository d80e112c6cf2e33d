use Rattle.std.proofs.Common.{ap, ◌∙◌, ◌+◌}
use Rattle.m2v_board.specs.declared.view.View.{View}
use Rattle.m2v_board.specs.Passes.{view, jobs_of}
use Rattle.m2v_wave.specs.Works.{HasWorked}
use Rattle.m2v_wave.proofs.Learns.{both_past}
use Rattle.m2v_wave.proofs.run.join_one.Goals as goal

pub join-requires-clause-other : goal.join-requires-clause-other
unfolding HasWorked
join-requires-clause-other g c = λ κs l. rw c.into_pass.ensures c.requires.worker.0.0.0

pub join-requires-clause-done : goal.join-requires-clause-done
unfolding HasWorked
join-requires-clause-done g c = λ κs l. rw c.into_pass.ensures c.requires.worker.0.0.1

pub returns-clause-all : goal.returns-clause-all
unfolding HasWorked
returns-clause-all g c =
    let a = c.requires.all in
    let o = c.join.ensures in
    ((o.pass.0, λ i. o.slots i ∙ a.0.1 i), both_past (jobs_of c.args.board.now) (view c.args.all.now) (view c.into_pass.result) _ o.pass.1 a.1)

pub returns-clause-passes : goal.returns-clause-passes
unfolding HasWorked
returns-clause-passes g c = ap (λ (v : View). v.passes) c.join.ensures.pass.1 ∙ (λ i. (view c.args.all.now).passes + (ap (λ p. (view p).passes) c.into_pass.ensures ∙ c.requires.worker.1) i)
