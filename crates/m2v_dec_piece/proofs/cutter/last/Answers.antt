use Rattle.std.proofs.Common.{ap, arith, refl}
use Rattle.std.proofs.lemmas.Bool.{both_ways}
use Rattle.m2v_dec_piece.specs.Cutting.{Held}
use Rattle.m2v_dec_piece.proofs.Stands.{none_left, one_left}
use Rattle.m2v_dec_piece.proofs.cutter.last.Goals as goal

pub returns-then-is_empty-clause-last : goal.returns-then-is_empty-clause-last
returns-then-is_empty-clause-last c = let h = c.args.hand.now in (none_left h.phase h.sure (c.is_empty.ensures.value.0 c.if-is_empty.true), refl)

pub returns-clause-last : goal.returns-clause-last
returns-clause-last c =
    let h = c.args.hand.now in
    let piece = c.in_ok-piece.ensures.piece in (
      one_left h c.requires.fits (λ e. absurd (both_ways c.is_empty.result c.if-is_empty.false (c.is_empty.ensures.value.1 e))),
      piece,
      omega (arith, ap (λ (x : Held). x.place) c.in_ok-piece.ensures.next, piece.at, piece.length),
    )
