use Rattle.std.proofs.lemmas.Result.{on_ok_weaker, on_err_weaker}
use Rattle.m2v_port.proofs.Runs.{on_err}
use Rattle.m2v_mend.proofs.Flushing.{ended_then, ended_not, ended_cut}
use Rattle.m2v_mend.proofs.stretch.end.Goals as goal

pub returns-in_err-end_stretch-clause-err : goal.returns-in_err-end_stretch-clause-err
returns-in_err-end_stretch-clause-err g c = on_err c.from_residual.result (λ written listed h place is. ended_not _ c.args.folding.now written listed h place is)

pub returns-clause-told : goal.returns-clause-told
returns-clause-told g c =
    on_ok_weaker c.flush.result (λ f. ended_then _ _ c.args.folding.now c.end_stretch.new.self c.flush.new.folding c.in_ok-end_stretch.ensures.told f) c.flush.ensures.told

pub returns-clause-err : goal.returns-clause-err
returns-clause-err g c =
    on_err_weaker c.flush.result (λ cut. ended_cut _ _ c.args.folding.now c.end_stretch.new.self c.in_ok-end_stretch.ensures.told cut) c.flush.ensures.err
