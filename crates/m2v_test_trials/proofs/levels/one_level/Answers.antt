use Rattle.std.proofs.Common.{arith, pos, replicate, ◌%◌}
use Rattle.std.proofs.lemmas.Int.{ints}
use Rattle.std.proofs.lemmas.List.Elements.{All-set, All-replicate}
use mir.Syntax.{w32}
use mir.Val.{SFits, to_z, of_z}
use Rattle.m2v_quant.specs.Kinds.{IsLevel}
use Rattle.m2v_test_trials.proofs.levels.one_level.Goals as goal

pub returns : goal.returns
returns c =
    let fits : SFits w32 c.clamp.result = record { sfits = c.clamp.type_inv } in
    let low = c.clamp.ensures.lower_bound in
    let high = c.clamp.ensures.upper_bound in
    let within : IsLevel (to_z w32 (of_z w32 c.clamp.result)) = (omega (arith, ints), omega (arith, ints)) in
    let zero : IsLevel (pos 0) = (omega (arith, ints), omega (arith, ints)) in
    All-set IsLevel (replicate 64 (pos 0)) (c.args.position % 64) (to_z w32 (of_z w32 c.clamp.result)) within (All-replicate IsLevel 64 (pos 0) zero)
