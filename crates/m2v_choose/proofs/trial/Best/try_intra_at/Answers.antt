use Rattle.std.proofs.Common.{sym, ◌∙◌}
use Rattle.m2v_choose.specs.Candidates.{intra_by}
use Rattle.m2v_choose.specs.Trials.{decided}
use Rattle.m2v_choose.proofs.IntraCoded.{tried_one, tried_two}
use Rattle.m2v_choose.proofs.trial.Best.try_intra_at.Goals as goal

pub returns-then-has_dct_type-clause-tried : goal.returns-then-has_dct_type-clause-tried
returns-then-has_dct_type-clause-tried c = λ r rated.
    let d = decided r c.args.task.now in
    let first = c.try_intra_coding.ensures.tried r rated in
    tried_two d (intra_by d) c.args.q c.args.self.now c.try_intra_coding.new.self c.try_intra_coding-then-has_dct_type.new.self (sym c.has_dct_type.ensures ∙ c.if-has_dct_type.true) first
    (c.try_intra_coding-then-has_dct_type.ensures.tried r first.rated)

pub returns-else-has_dct_type-clause-tried : goal.returns-else-has_dct_type-clause-tried
returns-else-has_dct_type-clause-tried c = λ r rated.
    let d = decided r c.args.task.now in
    tried_one d (intra_by d) c.args.q c.args.self.now c.try_intra_coding.new.self (sym c.has_dct_type.ensures ∙ c.if-has_dct_type.false) (c.try_intra_coding.ensures.tried r rated)
