use Rattle.std.proofs.Common.{arith, refl, pos, get_or, ap, ◌∙◌, w32}
use Rattle.std.proofs.lemmas.Int.{to_z-of_z}
use mir.Val.{SFits}
use Rattle.m2v_idct.specs.Inverse.{clip}
use Rattle.m2v_idct.proofs.InPlace.{between}
use Rattle.m2v_idct.proofs.Mean.{mean_everywhere}
use Rattle.m2v_idct.proofs.Passed.{coefficient_within, fits, passed_within}
use Rattle.m2v_idct.proofs.inverse_dct.has_mean.Goals as goal

pub is_far-requires-clause-c : goal.is_far-requires-clause-c
is_far-requires-clause-c c =
    passed_within 2048 2048 (get_or c.args.block.now 0 (pos 0)) (omega arith) (omega arith) (coefficient_within _ (c.requires.coefficients 0 (pos 0) (omega arith)))

pub returns : goal.returns
returns c far y x ly lx =
    let b = c.args.block.now in
    let first : SFits w32 (get_or b 0 (pos 0)) = fits 2048 _ (omega arith) (coefficient_within _ (c.requires.coefficients 0 (pos 0) (omega arith))) in
    let last : SFits w32 (get_or b 63 (pos 0)) = fits 2048 _ (omega arith) (coefficient_within _ (c.requires.coefficients 63 (pos 0) (omega arith))) in
    let q : SFits w32 c.mean.result = record { sfits = c.mean.type_inv } in
    let low = simp to_z-of_z at (c.is_far.ensures.low far) in
    let high = simp to_z-of_z at (c.is_far.ensures.high far) in
    let small = simp to_z-of_z at (c.if-not-is_small.ensures refl) in
    let value = simp to_z-of_z at c.mean.ensures.value in
    mean_everywhere b c.mean.result (between c.args.rows b c.requires.rows (c.if-not-is_middle_empty.ensures refl) (c.if-not-are_zero.ensures refl)) small (low, high) y x ly lx ∙ ap clip value
