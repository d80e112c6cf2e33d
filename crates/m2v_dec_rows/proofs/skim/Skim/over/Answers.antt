use Rattle.std.proofs.Common.{refl}
use Rattle.m2v_model.specs.Streams.{over}
use Rattle.m2v_dec_rows.proofs.FrontLaws.{over_stops}
use Rattle.m2v_dec_rows.proofs.skim.Skim.over.Goals as goal

pub returns-in-Ok : goal.returns-in-Ok
returns-in-Ok c = λ p. (over, c.in-Ok.ensures.exact, over_stops c.args.self.now.state, refl)
