use Rattle.std.proofs.Common.{ℕ, List, length, ap, sym, subst, ◌∙◌}
use Rattle.m2v_recon.specs.Macro.{kind_at, macro_sample}
use Rattle.m2v_recon.specs.Steps.{levels_of}
use Rattle.m2v_choose.specs.Trials.{AreAlike, block_squared, rebuilt_with}
use Rattle.m2v_choose.proofs.PartSquares.{coded_alike, other_alike, squares_alike}
use Rattle.m2v_choose.proofs.Alike.{length_block}
use Rattle.m2v_choose.proofs.trial.rebuilt_block.Goals as goal

pub returns-clause-value : goal.returns-clause-value
returns-clause-value c =
    let m = c.args.syntax.now in
    let kinds = c.args.kinds.now in
    let s = c.args.source.now.at in
    c.block_squared.ensures.value ∙ ap (λ (x : List ℕ). block_squared m.dct_field s x c.args.block) c.rebuild_block.ensures.value
    ∙ squares_alike m.dct_field s _ _ c.args.block
    (coded_alike m.dct_field c.args.rebuilt.now.at (levels_of c.args.levels.now) c.single-one.result m.pattern (kind_at kinds 0) (kind_at kinds 1) c.args.block c.requires.block c.single-one.ensures.coded c.requires.coded)

pub returns-clause-len : goal.returns-clause-len
returns-clause-len c =
    let m = c.args.syntax.now in
    let kinds = c.args.kinds.now in
    ap length c.rebuild_block.ensures.value ∙ length_block (macro_sample c.args.rebuilt.now.at (levels_of c.args.levels.now) c.single-one.result (kind_at kinds 0) (kind_at kinds 1) m.dct_field)

pub returns-clause-own : goal.returns-clause-own
returns-clause-own c =
    let m = c.args.syntax.now in
    let ls = levels_of c.args.levels.now in
    let kinds = c.args.kinds.now in
    subst (λ (x : List ℕ). AreAlike m.dct_field c.args.block x (rebuilt_with c.args.rebuilt.now.at m ls kinds)) (sym c.rebuild_block.ensures.value)
    (coded_alike m.dct_field c.args.rebuilt.now.at ls c.single-one.result m.pattern (kind_at kinds 0) (kind_at kinds 1) c.args.block c.requires.block c.single-one.ensures.coded c.requires.coded)

pub returns-clause-rest : goal.returns-clause-rest
returns-clause-rest c =
    λ b lt other.
    let m = c.args.syntax.now in
    let kinds = c.args.kinds.now in
    subst (λ (x : List ℕ). AreAlike m.dct_field b x c.args.rebuilt.now.at) (sym c.rebuild_block.ensures.value)
    (other_alike m.dct_field c.args.rebuilt.now.at (levels_of c.args.levels.now) c.single-one.result (kind_at kinds 0) (kind_at kinds 1) b lt (c.single-one.ensures.alone b lt other) c.are_bytes.ensures)
