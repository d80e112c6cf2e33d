use Rattle.std.proofs.Common.{arith, pos, ◌+ℤ◌}
use Rattle.std.specs.Int.{int_shr}
use Rattle.std.proofs.lemmas.Int.{ints, to_z-of_z}
use Rattle.m2v_idct.specs.Inverse.{eighth}
use Rattle.m2v_idct.proofs.Passed.{fits}
use Rattle.m2v_idct.proofs.Shifts.{eighth_within}
use Rattle.m2v_idct.proofs.terms.eighth_of.Goals as goal

pub returns-clause-value : goal.returns-clause-value
unfolding eighth
returns-clause-value c =
    let t = c.args.t in
    let ft = c.ranges.t in
    let fs = fits 650000004 (t +ℤ pos 4) (omega arith) (omega (arith, ints), omega (arith, ints)) in
    let fr = fits 82000000 (int_shr (t +ℤ pos 4) 3) (omega arith) (eighth_within t c.requires) in
    simp to_z-of_z
