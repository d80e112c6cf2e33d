use Rattle.std.proofs.Common.{◌≡◌, true, false, sym, ◌∙◌, refl}
use Rattle.m2v_choose.specs.Trials.{decided}
use Rattle.m2v_choose.proofs.Coded.{tried_nothing}
use Rattle.m2v_choose.proofs.trial.Best.rules_out_all.Goals as goal

pub returns-then-has_dct_type : goal.returns-then-has_dct_type
returns-then-has_dct_type c = λ yes r p same samples rated.
    tried_nothing (decided r c.args.task.now) p c.args.self.now
    (λ q. c.if-not-rules_out.ensures refl r p q same samples rated)
    (λ has q. c.rules_out-then-has_dct_type.ensures yes r p q same samples rated)

pub returns : goal.returns
returns c = λ yes r p same samples rated.
    tried_nothing (decided r c.args.task.now) p c.args.self.now
    (λ q. c.if-not-rules_out.ensures refl r p q same samples rated)
    (λ has q. let no : true ≡ false = sym has ∙ sym c.has_dct_type.ensures ∙ c.if-has_dct_type.false in absurd cc)
