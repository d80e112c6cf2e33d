use Rattle.m2v_quant.specs.Prefix.{AreSaturated}
use Rattle.m2v_quant.specs.Sparse.{spread}
use Rattle.m2v_quant.proofs.sparse.put_all.Given as goal

abbrev pub invariant-loop-i : goal.invariant-loop-i
invariant-loop-i l = AreSaturated (spread l.first l.later l.i) l.kind l.out l.told
