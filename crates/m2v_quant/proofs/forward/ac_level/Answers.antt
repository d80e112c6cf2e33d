use Rattle.std.proofs.Common.{w32}
use Rattle.std.proofs.lemmas.Int.{to_z-of_z}
use mir.Val.{SFits}
use Rattle.m2v_quant.proofs.Reconstruction.{level_is}
use Rattle.m2v_quant.proofs.forward.ac_level.Goals as goal

pub returns-clause-value : goal.returns-clause-value
returns-clause-value c =
    let f = c.ranges.f in
    let quotient : SFits w32 c.quotient.result = record { sfits = c.quotient.type_inv } in
    let min : SFits w32 c.min.result = record { sfits = c.min.type_inv } in
    let max : SFits w32 c.max.result = record { sfits = c.max.type_inv } in
    simp to_z-of_z (rw (simp to_z-of_z at c.max.ensures.value, simp to_z-of_z at c.min.ensures.value, simp to_z-of_z at c.quotient.ensures) (level_is c.args.intra c.args.step c.args.f))
