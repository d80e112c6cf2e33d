use Rattle.std.proofs.Common.{arith, List, Bool, subst}
use Rattle.m2v_bits.specs.Outputs.{Gains}
use Rattle.m2v_bits.proofs.Outputs.{gains_none, gains_but_all, gains_but_less, gains_but_none, room_for_next}
use Rattle.m2v_macro.proofs.Lengths.{escapes_one, escapes_none}
use Rattle.m2v_macro.proofs.write.put_escapes.Goals as goal

pub loop-left-init : goal.loop-left-init
loop-left-init g c = gains_but_all

pub put_increment-requires : goal.put_increment-requires
put_increment-requires g c = room_for_next _ _ c.loop-left.invariant (escapes_one c.loop-left.left (omega arith)) c.requires

pub loop-left-preserved : goal.loop-left-preserved
loop-left-preserved g c = gains_but_less c.loop-left.invariant (escapes_one c.loop-left.left (omega arith)) c.put_increment.ensures

pub returns : goal.returns
returns g c =
    gains_but_none c.loop-left.invariant
    (subst (λ (text : List Bool). Gains g.O.BitOutput.took g.O.BitOutput.space c.loop-left.out text c.loop-left.out) (escapes_none c.loop-left.left (omega arith)) gains_none)
