use Rattle.m2v_y4m.proofs.Steps.{looked}
use Rattle.m2v_y4m.proofs.Spots.{looked_on}
use Rattle.m2v_y4m.proofs.reader.Reader.look_ahead.Goals as goal

pub returns-clause-same : goal.returns-clause-same
returns-clause-same g c = looked _ c.args.self.now c.gather.new.chunk _ _ c.self.view_is c.gather.ensures.held

pub returns-clause-read : goal.returns-clause-read
returns-clause-read g c = looked_on _ c.args.self.now c.gather.new.chunk _ _ c.self.view_is c.gather.ensures.held
