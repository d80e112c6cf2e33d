use Rattle.std.proofs.Common.{refl}
use Rattle.m2v_decode.proofs.PassLaws.{passes_header}
use Rattle.m2v_decode.proofs.pass.Pass.enter.Goals as goal

pub returns : goal.returns
returns c = λ u.
    passes_header c.args.self.now c.close_before.new.self c.note.new.self _ c.args.header.now u c.requires.sound c.requires.fits c.requires.follows c.close_before.ensures c.in_ok-note.ensures refl c.enter.ensures.state (c.enter.ensures.matrices c.requires.fits)
