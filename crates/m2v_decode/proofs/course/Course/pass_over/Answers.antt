use Rattle.std.proofs.Common.{ap}
use Rattle.m2v_model.specs.declared.state.State.{State}
use Rattle.m2v_decode.proofs.StepLaws.{steps_unread}
use Rattle.m2v_decode.proofs.course.Course.pass_over.Goals as goal

pub returns : goal.returns
returns c = λ u. steps_unread c.args.self.now _ c.args.row u c.requires.sound (ap (λ (z : State). record c.args.self.now { state = z }) c.enter_unread_slice.ensures)
