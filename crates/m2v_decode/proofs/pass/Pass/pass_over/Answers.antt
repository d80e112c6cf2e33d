use Rattle.std.proofs.Common.{ap}
use Rattle.m2v_model.specs.declared.state.State.{State}
use Rattle.m2v_decode.proofs.PassLaws.{passes_unread}
use Rattle.m2v_decode.proofs.pass.Pass.pass_over.Goals as goal

pub returns : goal.returns
returns c = λ u. passes_unread c.args.self.now _ c.args.row u c.requires.sound (ap (λ (z : State). record c.args.self.now { state = z }) c.enter_unread_slice.ensures)
