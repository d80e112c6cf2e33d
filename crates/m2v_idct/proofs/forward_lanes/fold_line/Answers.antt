use Rattle.std.proofs.Common.{arith}
use mir.Syntax.{w32}
use Rattle.m2v_idct.proofs.AllLanes.{fits_word, told_as_within, told_within}
use Rattle.m2v_idct.proofs.ForwardSteps.{evens, evens_are, evens_small, line_folded, odds, odds_are, odds_small}
use Rattle.m2v_idct.proofs.forward_lanes.fold_line.Goals as goal

pub mirror_sums-requires-clause-within : goal.mirror_sums-requires-clause-within
mirror_sums-requires-clause-within c = told_within w32 2147483647 fits_word 256 c.args.f.now (omega arith) c.requires

pub mirror_differences-requires-clause-within : goal.mirror_differences-requires-clause-within
mirror_differences-requires-clause-within c = told_within w32 2147483647 fits_word 256 c.args.f.now (omega arith) c.requires

pub first_fours-requires-clause-x_within : goal.first_fours-requires-clause-x_within
first_fours-requires-clause-x_within c =
    let x = c.args.f.now in
    told_as_within w32 2147483647 fits_word 512 c.mirror_sums.result (evens x c.told-f c.requires) (omega arith) (evens_are x c.told-f c.requires c.mirror_sums.result c.mirror_sums.ensures) (evens_small x c.told-f c.requires)

pub first_fours-requires-clause-y_within : goal.first_fours-requires-clause-y_within
first_fours-requires-clause-y_within c =
    let x = c.args.f.now in
    told_as_within w32 2147483647 fits_word 512 c.mirror_differences.result (odds x c.told-f c.requires) (omega arith) (odds_are x c.told-f c.requires c.mirror_differences.result c.mirror_differences.ensures) (odds_small x c.told-f c.requires)

pub returns : goal.returns
returns c = line_folded c.args.f.now c.mirror_sums.result c.mirror_differences.result c.first_fours.result c.told-f c.requires c.mirror_sums.ensures c.mirror_differences.ensures c.first_fours.ensures
