use Rattle.m2v_flat.proofs.Progress.{not_begun}
use Rattle.m2v_flat.proofs.profile.flat.Goals as goal

pub returns-in_default-clause-err : goal.returns-in_default-clause-err
returns-in_default-clause-err g c = not_begun g.S.Source.left g.S.Source.faults g.K.Sink.held g.K.Sink.faults _ _ _ c.requires.passed.size
