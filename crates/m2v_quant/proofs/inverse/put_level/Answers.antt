use Rattle.std.proofs.Common.{◌≡◌, ◌+◌, ◌∙◌, length, get_or, ap, arith, pos, rules, refl, w32, to_z}
use Rattle.std.proofs.lemmas.Int.{to_z-of_z}
use mir.Val.{SFits}
use Rattle.std.specs.Prelude.{slice_index}
use Rattle.m2v_quant.specs.Scans.{scan_order}
use Rattle.m2v_quant.specs.Coefficients.{saturated_of}
use Rattle.m2v_quant.proofs.Scanned.{skipped, one_put}
use Rattle.m2v_quant.proofs.inverse.put_level.Goals as goal

pub returns-then-level-eq0 : goal.returns-then-level-eq0
returns-then-level-eq0 c =
    let levels = c.args.levels.now.at in
    let len : length levels ≡ 64 = search rules in
    let fits : SFits w32 (get_or levels c.args.i (pos 0)) = search rules in
    let zero = simp to_z-of_z at (ap (to_z w32) c.if-level-eq0.true) in
    skipped levels c.args.kind.now c.args.i 1 c.args.out.now c.args.told (omega arith)
    (λ j lt. let e : c.args.i + j ≡ c.args.i = omega arith in ap (λ p. get_or levels p (pos 0)) e ∙ zero) c.requires.before

pub returns : goal.returns
returns c =
    let levels = c.args.levels.now.at in
    let kind = c.args.kind.now in
    let len : length levels ≡ 64 = search rules in
    let fits : SFits w32 (get_or levels c.args.i (pos 0)) = search rules in
    let place = slice_index (scan_order kind.alternate) c.args.i in
    rw (simp to_z-of_z at c.put_coefficient.ensures.value)
    (one_put levels kind c.args.i c.args.out.now c.args.told place (saturated_of kind place (get_or levels c.args.i (pos 0))) c.put_coefficient.result
    len c.told-out c.requires.i c.put_coefficient.ensures.within refl refl (simp to_z-of_z at c.put_coefficient.ensures.parity) c.put_coefficient.ensures.row c.put_coefficient.ensures.rows c.requires.before)
