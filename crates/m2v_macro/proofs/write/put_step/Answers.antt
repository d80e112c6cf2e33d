use Rattle.std.proofs.Common.{List, Bool, length, ◌≤◌, sym, subst}
use Rattle.m2v_bits.specs.Outputs.{Gains}
use Rattle.m2v_macro.proofs.Lengths.{near_step}
use Rattle.m2v_macro.proofs.write.put_step.Goals as goal

pub put_increment-requires : goal.put_increment-requires
put_increment-requires g c =
    subst (λ (text : List Bool). length text ≤ g.O.BitOutput.space c.args.out.now) (sym (near_step c.args.increment c.requires.some c.if-increment-le33.true)) c.requires.room

pub returns-then-increment-le33 : goal.returns-then-increment-le33
returns-then-increment-le33 g c =
    subst (λ (text : List Bool). Gains g.O.BitOutput.took g.O.BitOutput.space c.args.out.now text c.put_increment.new.out) (near_step c.args.increment c.requires.some c.if-increment-le33.true) c.put_increment.ensures
