use Rattle.m2v_vlc.proofs.Coefficients.{zero_pointed}
use Rattle.m2v_vlc.proofs.Shorts.{zero_entries, first_long_stands}
use Rattle.m2v_vlc.proofs.Longs.{long_stands}
use Rattle.m2v_vlc.proofs.long.long_first.Goals as goal

pub returns : goal.returns
returns c = record { stands = λ run. first_long_stands c.args.seventeen c.long_at.result.now c.requires (long_stands zero_pointed c.args.seventeen c.long_at.result.now zero_entries c.requires c.long_at.ensures.far c.long_at.ensures.near run) }
