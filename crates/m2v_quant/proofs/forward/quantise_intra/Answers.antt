use Rattle.std.proofs.Common.{◌∙◌, arith, get_or, pos, rules, w32}
use Rattle.std.proofs.lemmas.Int.{ints, to_z-of_z}
use mir.Val.{SFits}
use Rattle.m2v_quant.specs.Kinds.{IsLevel}
use Rattle.m2v_quant.proofs.Placed.{dc_placed, some_intra}
use Rattle.m2v_quant.proofs.forward.quantise_intra.Goals as goal

pub put_by_scan-requires-clause-before : goal.put_by_scan-requires-clause-before
put_by_scan-requires-clause-before c =
    let dc = c.dc_level-dc.result in
    let fits : SFits w32 dc = record { sfits = c.dc_level-dc.type_inv } in
    let first : SFits w32 (get_or c.args.f.now 0 (pos 0)) = search rules in
    let level : IsLevel dc = (omega (arith, ints, c.dc_level-dc.ensures.least), omega (arith, ints, c.dc_level-dc.ensures.most)) in
    rw (to_z-of_z w32 dc fits, c.requires.zeros)
    (dc_placed c.args.f.now c.args.kind.now c.intra_marks-marks.result dc c.requires.intra c.intra_marks-marks.ensures.later (simp to_z-of_z at c.dc_level-dc.ensures.value) level)

pub returns-clause-some : goal.returns-clause-some
returns-clause-some c =
    let dc = c.dc_level-dc.result in
    let fits : SFits w32 dc = record { sfits = c.dc_level-dc.type_inv } in
    let first : SFits w32 (get_or c.args.f.now 0 (pos 0)) = search rules in
    simp to_z-of_z at c.has_some.ensures
    ∙ some_intra c.args.f.now c.args.kind.now c.intra_marks-marks.result dc c.intra_marks-marks.type_inv c.requires.intra c.intra_marks-marks.ensures.later c.intra_marks-marks.ensures.first
    (simp to_z-of_z at c.dc_level-dc.ensures.value)
