use Rattle.std.proofs.Common.{refl, ◌∙◌}
use Rattle.m2v_recon.specs.Steps.{levels_of}
use Rattle.m2v_choose.specs.Trials.{references_of, direction_by}
use Rattle.m2v_choose.proofs.Predicted.{uncoded_writable}
use Rattle.m2v_choose.proofs.Holding.{still_made, still_try, still_backward, still_held}
use Rattle.m2v_choose.proofs.Still.{still_known}
use Rattle.m2v_choose.proofs.trial.Best.hold_still.Goals as goal

pub predict_moving-requires-clause-code : goal.predict_moving-requires-clause-code
predict_moving-requires-clause-code g c =
    let r = references_of (g.V.RefView.size c.args.forward.now) (g.V.RefView.at c.args.forward.now) (g.V.RefView.at c.args.backward.now) in
    (still_try c.args.task.now r c.requires.task c.moving_syntax-m.result c.plain_form-form.result (direction_by c.still_vector-vector.result) c.moving_syntax-m.ensures c.plain_form-form.ensures c.still_vector-vector.ensures c.requires.kind (g.V.RefView.Holds c.args.forward.now) (g.V.RefView.Holds c.args.backward.now) (g.V.RefView.size c.args.backward.now) c.requires.references).code

pub predict_moving-requires-clause-predict : goal.predict_moving-requires-clause-predict
predict_moving-requires-clause-predict g c =
    let r = references_of (g.V.RefView.size c.args.forward.now) (g.V.RefView.at c.args.forward.now) (g.V.RefView.at c.args.backward.now) in
    (still_try c.args.task.now r c.requires.task c.moving_syntax-m.result c.plain_form-form.result (direction_by c.still_vector-vector.result) c.moving_syntax-m.ensures c.plain_form-form.ensures c.still_vector-vector.ensures c.requires.kind (g.V.RefView.Holds c.args.forward.now) (g.V.RefView.Holds c.args.backward.now) (g.V.RefView.size c.args.backward.now) c.requires.references).predict

pub predict_moving-requires-clause-size : goal.predict_moving-requires-clause-size
predict_moving-requires-clause-size g c = λ e.
    let r = references_of (g.V.RefView.size c.args.forward.now) (g.V.RefView.at c.args.forward.now) (g.V.RefView.at c.args.backward.now) in
    c.requires.references.sizes (still_backward c.args.task.now r c.requires.task c.moving_syntax-m.result c.plain_form-form.result (direction_by c.still_vector-vector.result) c.moving_syntax-m.ensures c.plain_form-form.ensures c.still_vector-vector.ensures c.requires.kind e)

pub hold_written-requires-clause-increment : goal.hold_written-requires-clause-increment
hold_written-requires-clause-increment g c =
    let r = references_of (g.V.RefView.size c.args.forward.now) (g.V.RefView.at c.args.forward.now) (g.V.RefView.at c.args.backward.now) in
    (still_try c.args.task.now r c.requires.task c.moving_syntax-m.result c.plain_form-form.result (direction_by c.still_vector-vector.result) c.moving_syntax-m.ensures c.plain_form-form.ensures c.still_vector-vector.ensures c.requires.kind (g.V.RefView.Holds c.args.forward.now) (g.V.RefView.Holds c.args.backward.now) (g.V.RefView.size c.args.backward.now) c.requires.references).code.increment

pub hold_written-requires-clause-writable : goal.hold_written-requires-clause-writable
hold_written-requires-clause-writable g c =
    let r = references_of (g.V.RefView.size c.args.forward.now) (g.V.RefView.at c.args.forward.now) (g.V.RefView.at c.args.backward.now) in
    let can = still_try c.args.task.now r c.requires.task c.moving_syntax-m.result c.plain_form-form.result (direction_by c.still_vector-vector.result) c.moving_syntax-m.ensures c.plain_form-form.ensures c.still_vector-vector.ensures c.requires.kind (g.V.RefView.Holds c.args.forward.now) (g.V.RefView.Holds c.args.backward.now) (g.V.RefView.size c.args.backward.now) c.requires.references in
    uncoded_writable c.args.task.now.context.now c.args.task.now.first c.moving_syntax-m.result (levels_of c.no_levels.result.now) can.pattern c.no_levels.ensures (can.macro refl)

pub returns-clause-candidate : goal.returns-clause-candidate
returns-clause-candidate g c =
    let r = references_of (g.V.RefView.size c.args.forward.now) (g.V.RefView.at c.args.forward.now) (g.V.RefView.at c.args.backward.now) in
    c.hold_written.ensures.candidate ∙ still_held c.args.task.now r c.moving_syntax-m.result (levels_of c.no_levels.result.now) c.requires.kind (still_made c.args.task.now r c.requires.task c.moving_syntax-m.result c.plain_form-form.result (direction_by c.still_vector-vector.result) c.moving_syntax-m.ensures c.plain_form-form.ensures c.still_vector-vector.ensures c.requires.kind) c.no_levels.ensures

pub returns-clause-rated : goal.returns-clause-rated
returns-clause-rated g c =
    let r = references_of (g.V.RefView.size c.args.forward.now) (g.V.RefView.at c.args.forward.now) (g.V.RefView.at c.args.backward.now) in
    c.hold_written.ensures.rated r c.predict_moving.ensures

pub returns-clause-score : goal.returns-clause-score
returns-clause-score g c =
    let r = references_of (g.V.RefView.size c.args.forward.now) (g.V.RefView.at c.args.forward.now) (g.V.RefView.at c.args.backward.now) in
    c.hold_written.ensures.score r c.predict_moving.ensures

pub returns-clause-still : goal.returns-clause-still
returns-clause-still g c =
    let r = references_of (g.V.RefView.size c.args.forward.now) (g.V.RefView.at c.args.forward.now) (g.V.RefView.at c.args.backward.now) in
    still_known c.args.task.now r c.moving_syntax-m.result c.plain_form-form.result (direction_by c.still_vector-vector.result) c.predict_moving.new.out.at c.moving_syntax-m.ensures c.plain_form-form.ensures c.still_vector-vector.ensures c.predict_moving.ensures

pub returns-clause-squares : goal.returns-clause-squares
returns-clause-squares g c =
    let r = references_of (g.V.RefView.size c.args.forward.now) (g.V.RefView.at c.args.forward.now) (g.V.RefView.at c.args.backward.now) in
    c.hold_written.ensures.still ((still_try c.args.task.now r c.requires.task c.moving_syntax-m.result c.plain_form-form.result (direction_by c.still_vector-vector.result) c.moving_syntax-m.ensures c.plain_form-form.ensures c.still_vector-vector.ensures c.requires.kind (g.V.RefView.Holds c.args.forward.now) (g.V.RefView.Holds c.args.backward.now) (g.V.RefView.size c.args.backward.now) c.requires.references).pattern)
