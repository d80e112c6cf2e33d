use Rattle.m2v_plane.proofs.RawVideo.{crop_pad}
use Rattle.m2v_plane.proofs.laws.law_crop_pad.Goals as goal

pub returns : goal.returns
returns c = record { same = crop_pad c.args.dims.now c.args.bytes.now c.requires.size c.requires.whole }
