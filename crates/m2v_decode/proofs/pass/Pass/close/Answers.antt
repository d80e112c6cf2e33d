use Rattle.m2v_decode.proofs.PassLaws.{ends_none}
use Rattle.m2v_decode.proofs.pass.Pass.close.Goals as goal

pub returns-in-None : goal.returns-in-None
returns-in-None c = ends_none c.args.self.now c.requires.sound c.in-None.is
