use Rattle.std.proofs.Common.{sym, subst, ◌∙◌}
use Rattle.m2v_dec_piece.proofs.Steps.{took_zero, stops_zero}
use Rattle.m2v_dec_piece.proofs.SliceLaws.{Knows, knows_zero}
use Rattle.m2v_dec_piece.proofs.hand.Hand.third_zero.Goals as goal

pub invariant_of-self : goal.invariant_of-self
invariant_of-self c =
    let from = c.self.inside.slices in
    let known = c.self-2.invariant in
    let before = subst (Knows from) c.self.view_is c.self.invariant.5 in
    (known.0, known.1, known.2, known.3, known.4, subst (Knows from) (sym c.self-2.view_is) (knows_zero c.args.self.now c.put.new.self from c.requires.ahead c.requires.fits c.in-Ok.ensures.ok before))

pub returns-in-Ok-clause-ok : goal.returns-in-Ok-clause-ok
returns-in-Ok-clause-ok c = took_zero c.args.self.now _ c.requires.ahead c.requires.fits (c.self-2.view_is ∙ c.in-Ok.ensures.ok) c.in-Ok.ensures.fits

pub returns-in-Err-clause-err : goal.returns-in-Err-clause-err
returns-in-Err-clause-err c = stops_zero c.args.self.now c.in-Err.e c.requires.ahead c.requires.fits c.in-Err.ensures.err
