use Rattle.std.proofs.Common.{Bool, cond, ap, sym, ◌∙◌}
use Rattle.m2v_recon.specs.Steps.{levels_of}
use Rattle.m2v_choose.specs.Trials.{block_squared, rebuilt_with}
use Rattle.m2v_recon.specs.Macro.{kind_at}
use Rattle.m2v_choose.proofs.PartSquares.{alike_itself, alike_back, other_alike}
use Rattle.m2v_choose.proofs.trial.coded_block.Goals as goal

pub returns-then-not-is_coded-clause-value : goal.returns-then-not-is_coded-clause-value
returns-then-not-is_coded-clause-value c =
    let own = block_squared c.args.syntax.now.dct_field c.args.source.now.at (rebuilt_with c.args.rebuilt.now.at c.args.syntax.now (levels_of c.args.levels.now) c.args.kinds.now) c.args.block in
    sym (ap (λ (k : Bool). cond k own 0) (sym c.is_coded.ensures.value ∙ c.if-not-is_coded.true))

pub rebuilt_block-requires-clause-coded : goal.rebuilt_block-requires-clause-coded
rebuilt_block-requires-clause-coded c = sym c.is_coded.ensures.value ∙ c.if-not-is_coded.false

pub returns-clause-value : goal.returns-clause-value
returns-clause-value c =
    let own = block_squared c.args.syntax.now.dct_field c.args.source.now.at (rebuilt_with c.args.rebuilt.now.at c.args.syntax.now (levels_of c.args.levels.now) c.args.kinds.now) c.args.block in
    c.rebuilt_block.ensures.value ∙ sym (ap (λ (k : Bool). cond k own 0) (sym c.is_coded.ensures.value ∙ c.if-not-is_coded.false))

pub returns-then-not-is_coded-clause-own : goal.returns-then-not-is_coded-clause-own
returns-then-not-is_coded-clause-own c =
    let m = c.args.syntax.now in
    let ls = levels_of c.args.levels.now in
    let kinds = c.args.kinds.now in
    let p = c.args.rebuilt.now.at in
    alike_back m.dct_field c.args.block (rebuilt_with p m ls kinds) p
    (other_alike m.dct_field p ls m.pattern (kind_at kinds 0) (kind_at kinds 1) c.args.block c.requires.block (sym c.is_coded.ensures.value ∙ c.if-not-is_coded.true) c.are_bytes.ensures)

pub returns-then-not-is_coded-clause-rest : goal.returns-then-not-is_coded-clause-rest
returns-then-not-is_coded-clause-rest c = λ b lt other. alike_itself c.args.syntax.now.dct_field b c.args.rebuilt.now.at
