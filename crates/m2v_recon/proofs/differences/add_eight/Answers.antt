use Rattle.std.proofs.Common.{◌∙◌}
use Rattle.m2v_recon.proofs.differences.add_eight.Goals as goal

pub returns : goal.returns
returns g c = record {
  within = λ j lt. c.put_eight.ensures.within j lt ∙ c.eight_sums-line.ensures j lt;
  before = c.put_eight.ensures.before;
  behind = c.put_eight.ensures.behind;
}
