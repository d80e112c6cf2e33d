use Rattle.std.proofs.Common.{◌≡◌, ◌≤◌, ◌*◌, ◌⊎◌, true, false, ℕ, List, [], ◌∷◌, ap, ◌∙◌, subst}
use Rattle.m2v_macro.specs.States.{after}
use Rattle.m2v_recon.specs.Steps.{levels_of}
use Rattle.m2v_macroblock.specs.Macroblocks.{kind_for, macroblock_of}
use Rattle.m2v_macroblock.specs.Predictions.{sample_at}
use Rattle.m2v_choose.specs.Trials.{rebuilt_by, rebuilt_with, block_squared, coded_squared}
use Rattle.m2v_choose.proofs.Tried.{own_picture, each_level}
use Rattle.m2v_choose.proofs.trial.coded_squares.Goals as goal

pub kinds-kinds-requires-clause-picture : goal.kinds-kinds-requires-clause-picture
kinds-kinds-requires-clause-picture c = own_picture c.args.task.now.context.now c.requires.task.asked.own

pub squares_until-requires-clause-levels : goal.squares_until-requires-clause-levels
squares_until-requires-clause-levels c = each_level c.args.levels.now c.requires.writable.levels

pub returns-clause-most : goal.returns-clause-most
unfolding rebuilt_by sample_at after
returns-clause-most c =
    let t = c.args.task.now in
    let m = c.args.syntax.now in
    let ls = levels_of c.args.levels.now in
    let p = c.args.prediction.now.at in
    let q = λ (n : ℕ). kind_for t.context.now m.kind.intra true n ∷ kind_for t.context.now m.kind.intra false n ∷ [] in
    let same : rebuilt_with p m ls c.kinds-kinds.result ≡ rebuilt_by t p (macroblock_of m c.args.levels.now) =
    ap (rebuilt_with p m ls) (c.kinds-kinds.ensures.value ∙ ap q c.quantiser_behind-quantiser.ensures.value) in
    subst (λ (x : List ℕ). c.squares_until.result ≤ coded_squared m.pattern (block_squared m.dct_field t.source.now.at x)) same c.squares_until.ensures.most

pub returns-clause-rebuilt : goal.returns-clause-rebuilt
unfolding rebuilt_by sample_at after
returns-clause-rebuilt c = λ less.
    let t = c.args.task.now in
    let m = c.args.syntax.now in
    let ls = levels_of c.args.levels.now in
    let p = c.args.prediction.now.at in
    let q = λ (n : ℕ). kind_for t.context.now m.kind.intra true n ∷ kind_for t.context.now m.kind.intra false n ∷ [] in
    let same : rebuilt_with p m ls c.kinds-kinds.result ≡ rebuilt_by t p (macroblock_of m c.args.levels.now) =
    ap (rebuilt_with p m ls) (c.kinds-kinds.ensures.value ∙ ap q c.quantiser_behind-quantiser.ensures.value) in
    c.squares_until.ensures.rebuilt less ∙ same

pub returns-clause-enough : goal.returns-clause-enough
unfolding rebuilt_by sample_at after
returns-clause-enough c =
    let t = c.args.task.now in
    let m = c.args.syntax.now in
    let ls = levels_of c.args.levels.now in
    let p = c.args.prediction.now.at in
    let q = λ (n : ℕ). kind_for t.context.now m.kind.intra true n ∷ kind_for t.context.now m.kind.intra false n ∷ [] in
    let same : rebuilt_with p m ls c.kinds-kinds.result ≡ rebuilt_by t p (macroblock_of m c.args.levels.now) =
    ap (rebuilt_with p m ls) (c.kinds-kinds.ensures.value ∙ ap q c.quantiser_behind-quantiser.ensures.value) in
    subst (λ (x : List ℕ). (c.squares_until.result ≡ coded_squared m.pattern (block_squared m.dct_field t.source.now.at x)) ⊎ (c.args.limit ≤ 8 * c.squares_until.result)) same c.squares_until.ensures.enough
