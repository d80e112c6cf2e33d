use Rattle.m2v_bits.proofs.Outputs.{GainsBut}
use Rattle.m2v_macro.specs.Texts.{escapes_text}
use Rattle.m2v_macro.proofs.write.put_escapes.Given as goal

abbrev pub invariant-loop-left : goal.invariant-loop-left
invariant-loop-left g l = GainsBut g.O.BitOutput.took g.O.BitOutput.space l.fn.out (escapes_text l.left) (escapes_text l.count) l.out

abbrev pub decreases-loop-left : goal.decreases-loop-left
decreases-loop-left g l = l.left
