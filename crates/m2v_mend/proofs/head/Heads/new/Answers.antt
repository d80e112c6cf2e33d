use Rattle.std.proofs.Common.{refl, ap, length, arith}
use Rattle.m2v_mend.proofs.HeadLaws.{heads_new}
use Rattle.m2v_mend.proofs.head.Heads.new.Goals as goal

pub returns : goal.returns
returns c = heads_new _ refl (omega (arith, ap length c.new.ensures.items))
