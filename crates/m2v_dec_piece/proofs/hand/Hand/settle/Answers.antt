use Rattle.std.proofs.Common.{sym, subst, ap, arith}
use Rattle.m2v_dec_piece.specs.Cutting.{Held}
use Rattle.m2v_dec_piece.proofs.SliceLaws.{Knows, knows_other}
use Rattle.m2v_dec_piece.proofs.hand.Hand.settle.Goals as goal

pub invariant_of-self : goal.invariant_of-self
invariant_of-self c =
    let r = c.requires in
    let from = c.self.inside.slices in
    let known = c.self-2.invariant in
    let is = ap (λ (h : Held). record h { ahead = 0 }) c.self-2.view_is in
    let before = subst (Knows from) c.self.view_is c.self.invariant.5 in
    (omega arith, known.1, known.2, known.3, known.4, subst (Knows from) (sym is) (knows_other c.args.self.now _ c.args.b from r.ahead r.some r.none r.fits (ap (λ (h : Held). record h { ahead = 0 }) c.in_ok-put_behind.ensures.ok) before))
