use Rattle.std.proofs.Common.{inl, inr}
use Rattle.std.proofs.lemmas.Bool.{cases_lt}
use Rattle.m2v_vlc.proofs.Coefficients.{zero_pointed, first_by, middle_by, last_by}
use Rattle.m2v_vlc.proofs.read.zero_at.Goals as goal

pub returns-then-p-ge2048 : goal.returns-then-p-ge2048
returns-then-p-ge2048 c = first_by zero_pointed c.args.input.now.rest c.peek-p.result c.at.result c.peek-p.ensures.value c.peek-p.ensures.below c.if-p-ge2048.true c.at.ensures

pub returns-else-p-ge2048 : goal.returns-else-p-ge2048
returns-else-p-ge2048 c =
    elim (cases_lt c.peek-p.result 512) [
      | inl small ↦ last_by zero_pointed c.args.input.now.rest c.peek-p.result c.long_at.result c.peek-p.ensures.value small (c.long_at.ensures.last small)
      | inr large ↦ middle_by zero_pointed c.args.input.now.rest c.peek-p.result c.long_at.result c.peek-p.ensures.value c.if-p-ge2048.false large (c.long_at.ensures.middle large)
    ]
