use Rattle.m2v_choose.proofs.Chosen.{choice_fits}
use Rattle.m2v_choose.proofs.Held.{own_choice_fits}
use Rattle.m2v_choose.proofs.laws.law_choice_fits.Goals as goal

pub returns : goal.returns
returns c = record { held = λ d fit. choice_fits d fit; own = λ d own near some most room. own_choice_fits d own near some most room }
