use Rattle.m2v_choose.proofs.Better.{vector_is, sad_is}
use Rattle.m2v_choose.proofs.vectors.search.Goals as goal

pub returns-clause-value : goal.returns-clause-value
returns-clause-value g c = λ r e.
    let best = c.best_vector_in.ensures in
    vector_is r c.args.task.now (g.V.RefView.at c.args.view.now) (g.V.RefView.size c.args.view.now) c.place_of-at.result c.args.form c.best_vector_in.result e c.place_of-at.ensures
    (record { value = best.value; sad = best.sad; inside = best.inside; within = best.within })

pub returns-clause-sad : goal.returns-clause-sad
returns-clause-sad g c = λ r e.
    let best = c.best_vector_in.ensures in
    sad_is r c.args.task.now (g.V.RefView.at c.args.view.now) (g.V.RefView.size c.args.view.now) c.place_of-at.result c.args.form c.best_vector_in.result e c.place_of-at.ensures
    (record { value = best.value; sad = best.sad; inside = best.inside; within = best.within })
