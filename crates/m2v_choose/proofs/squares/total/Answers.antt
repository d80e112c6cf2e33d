use Rattle.std.proofs.Common.{arith, ◌∙◌, zero-add}
use Rattle.std.proofs.lemmas.Simd.{sum_fits, fold-sum}
use lib.Lanes.{sum_l}
use mir.Syntax.{w32}
use Rattle.m2v_choose.proofs.squares.total.Goals as goal

pub overflow_add-result : goal.overflow_add-result
overflow_add-result c = sum_fits w32 0 c.args.x (omega (arith, c.requires))

pub returns : goal.returns
returns c = fold-sum 0 c.args.x ∙ zero-add (sum_l c.args.x)
