use Rattle.std.proofs.Common.{ap}
use Rattle.m2v_model.specs.declared.phase.Phase.TheVariants.{Headers}
use Rattle.m2v_dec_piece.specs.Cutting.{Held}
use Rattle.m2v_dec_piece.proofs.Steps.{begun_here}
use Rattle.m2v_dec_piece.proofs.hand.Hand.begin.Goals as goal

pub returns : goal.returns
returns c = let r = c.requires in begun_here c.args.self.now _ r.ahead r.phase r.fits (ap (λ (h : Held). record h { phase = Headers }) c.self.view_is)
