use Rattle.m2v_model.specs.Pictures.{no_frames}
use Rattle.m2v_decode.proofs.PassLaws.{ends_some}
use Rattle.m2v_decode.proofs.pass.Pass.end.Goals as goal

pub returns : goal.returns
returns c = ends_some c.args.self.now c.count.new.self c.args.p.now c.requires.sound c.requires.open c.count.ensures.state c.count.ensures.tells no_frames
