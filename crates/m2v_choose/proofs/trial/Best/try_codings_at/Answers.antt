use Rattle.std.proofs.Common.{sym, ◌∙◌}
use Rattle.m2v_choose.specs.Trials.{decided}
use Rattle.m2v_choose.proofs.Coded.{tried_one, tried_two}
use Rattle.m2v_choose.proofs.trial.Best.try_codings_at.Goals as goal

pub returns-then-has_dct_type : goal.returns-then-has_dct_type
returns-then-has_dct_type c = record {
  tried = λ r p same samples frame field rated.
      let has = sym c.has_dct_type.ensures ∙ c.if-has_dct_type.true in
      let first = c.try_coding.ensures.tried r p same samples frame rated in
      tried_two (decided r c.args.task.now) p c.args.q c.args.self.now c.try_coding.new.self c.try_coding-then-has_dct_type.new.self has first
      (c.try_coding-then-has_dct_type.ensures.tried r p same samples (field has) first.rated);
}

pub returns-else-has_dct_type : goal.returns-else-has_dct_type
returns-else-has_dct_type c = record {
  tried = λ r p same samples frame field rated.
      tried_one (decided r c.args.task.now) p c.args.q c.args.self.now c.try_coding.new.self (sym c.has_dct_type.ensures ∙ c.if-has_dct_type.false)
      (c.try_coding.ensures.tried r p same samples frame rated);
}
