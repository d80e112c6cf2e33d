use Rattle.std.proofs.Common.{arith, pos, replicate, ◌%◌}
use Rattle.std.proofs.lemmas.Int.{ints}
use Rattle.std.proofs.lemmas.List.Elements.{All-set, All-replicate}
use mir.Syntax.{w32}
use mir.Val.{SFits, to_z, of_z}
use Rattle.m2v_quant.specs.Kinds.{IsTransformed}
use Rattle.m2v_test_trials.proofs.quant.one_coefficient.Goals as goal

pub returns : goal.returns
returns c =
    let fits : SFits w32 c.clamp.result = record { sfits = c.clamp.type_inv } in
    let low = c.clamp.ensures.lower_bound in
    let high = c.clamp.ensures.upper_bound in
    let within : IsTransformed (to_z w32 (of_z w32 c.clamp.result)) = (omega (arith, ints), omega (arith, ints)) in
    let zero : IsTransformed (pos 0) = (omega (arith, ints), omega (arith, ints)) in
    All-set IsTransformed (replicate 64 (pos 0)) (c.args.place % 64) (to_z w32 (of_z w32 c.clamp.result)) within (All-replicate IsTransformed 64 (pos 0) zero)
