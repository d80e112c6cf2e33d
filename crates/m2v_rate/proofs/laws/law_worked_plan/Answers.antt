use Rattle.std.proofs.Common.{refl}
use Rattle.m2v_rate.specs.Sharing.{complexity, coarseness, complexity_at, need, from_on, needs, pool, share, quantiser, target, lack, reserve, most, raised}
use Rattle.m2v_rate.proofs.laws.law_worked_plan.Goals as goal

pub returns : goal.returns
unfolding complexity coarseness complexity_at need from_on needs pool share quantiser target lack reserve most raised
returns c = record { plan = refl; slices = refl }
