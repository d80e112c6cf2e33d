use Rattle.m2v_choose.proofs.OwnReady.{own_context, own_ready, start_own}
use Rattle.m2v_choose.proofs.laws.law_own_ready.Goals as goal

pub returns : goal.returns
returns c = record { start = λ context row q next code. start_own context row q next code; context = λ context own. own_context context own; ready = λ context st own state. own_ready context st own state }
