use Rattle.std.proofs.Common.{refl}
use Rattle.m2v_quant.specs.Sparse.{spread}
use Rattle.m2v_quant.proofs.sparse.SparseLevels.new.Goals as goal

pub returns : goal.returns
unfolding spread
returns c = record { value = refl }
