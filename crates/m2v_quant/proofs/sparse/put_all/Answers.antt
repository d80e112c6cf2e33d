use Rattle.std.proofs.Common.{◌≡◌, arith, length, replicate, rules, refl, pos, w32}
use Rattle.std.proofs.lemmas.Int.{to_z-of_z}
use Rattle.std.proofs.lemmas.List.{length-replicate}
use Rattle.std.specs.Prelude.{slice_index}
use Rattle.m2v_quant.specs.Scans.{scan_order}
use Rattle.m2v_quant.specs.Coefficients.{saturated_of}
use Rattle.m2v_quant.specs.Sparse.{kept_at, spread}
use Rattle.m2v_quant.proofs.Kept.{length_spread, spread_more}
use Rattle.m2v_quant.proofs.Scanned.{level_set, none_saturated}
use Rattle.m2v_quant.proofs.Zeros.{zeros_at}
use Rattle.m2v_quant.proofs.sparse.put_all.Goals as goal

pub loop-i-init : goal.loop-i-init
unfolding spread
loop-i-init c =
    let kind = c.args.kind.now in
    let v = c.args.first in
    let place = slice_index (scan_order kind.alternate) 0 in
    let fits = c.ranges.first in
    rw (to_z-of_z w32 v fits, simp to_z-of_z at c.put_coefficient-told.ensures.value, c.requires.zeros)
    (level_set (replicate 64 (pos 0)) kind 0 v (replicate 64 (pos 0)) (record { parity = 0; rows = 0 }) place (saturated_of kind place v) c.put_coefficient-told.result
    (length-replicate 64 (pos 0)) (length-replicate 64 (pos 0)) (omega arith) c.put_coefficient-told.ensures.within refl (zeros_at 64 0) refl
    (simp to_z-of_z at c.put_coefficient-told.ensures.parity) c.put_coefficient-told.ensures.row c.put_coefficient-told.ensures.rows (none_saturated kind))

pub loop-i-preserved : goal.loop-i-preserved
loop-i-preserved c =
    let kind = c.args.kind.now in
    let later = c.args.later.now in
    let i = c.loop-i.i in
    let x = kept_at later i in
    let kept = c.requires.kept.each i c.loop-i-test.true in
    let place = slice_index (scan_order kind.alternate) x.position in
    let levels = spread c.args.first later i in
    let fits = c.ranges.first in
    let len : length c.loop-i.out ≡ 64 = search rules in
    let before = simp to_z-of_z at c.loop-i.invariant in
    simp to_z-of_z (rw (c.put_kept-told.ensures.value, spread_more c.args.first later i)
    (level_set levels kind x.position x.level c.loop-i.out c.loop-i.told place (saturated_of kind place x.level) c.put_kept-told.result
    (length_spread c.args.first later i) len kept.inside c.put_kept-told.ensures.within refl kept.free refl c.put_kept-told.ensures.parity c.put_kept-told.ensures.row c.put_kept-told.ensures.rows before))
