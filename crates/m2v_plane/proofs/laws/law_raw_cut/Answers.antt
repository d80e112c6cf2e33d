use Rattle.m2v_plane.proofs.RawVideo.{raw_cut}
use Rattle.m2v_plane.proofs.laws.law_raw_cut.Goals as goal

pub returns : goal.returns
returns c = record { same = λ n len. raw_cut c.args.dims.now c.args.bytes.now n c.requires.size len }
