use Rattle.std.proofs.Common.{ap, ◌∙◌}
use Rattle.m2v_check.specs.Holding.{most_with}
use Rattle.m2v_check.proofs.AmountLaws.{one_more}
use Rattle.m2v_check.proofs.amounts.Amounts.add.Goals as goal

pub returns : goal.returns
returns c = record {
  value = λ t. ap (most_with t c.args.self.now.most) c.in_ok-push_back.ensures.items ∙ one_more t c.args.self.now.most c.args.self.now.waiting.items c.args.amount;
}
