use Rattle.m2v_choose.proofs.Held.{hold_fits}
use Rattle.m2v_choose.proofs.laws.law_hold_fits.Goals as goal

pub returns : goal.returns
returns c = λ d own near some. hold_fits d own near some
