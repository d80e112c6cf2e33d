use Rattle.std.proofs.Common.{◌+◌, arith, ap, sym, subst, ◌∙◌, ◌++◌, replicate, refl, min}
use Rattle.m2v_dec_piece.specs.declared.answer.Piece.{Piece}
use Rattle.m2v_dec_piece.specs.Cutting.{IsPiece}
use Rattle.m2v_dec_piece.proofs.WholeLaws.{piece_is, piece_sound}
use Rattle.m2v_dec_piece.proofs.SliceLaws.{piece_slices}
use Rattle.m2v_dec_piece.proofs.hand.Hand.hand_out.Goals as goal

pub of-requires : goal.of-requires
of-requires c =
    let h = c.self.inside in
    let p : Piece = record { bytes = c.pad.new.bytes; place = h.place; length = c.len-2.result + h.zeros } in
    let are = c.in_ok-pad.ensures ∙ ap (λ v. v.items ++ replicate (min 64 h.zeros) 0) c.replace-bytes.ensures.value in
    let is = piece_is p h.bytes.items h.zeros h.place c.self.invariant.2 are refl (omega (arith, c.len-2.ensures)) (rw (← c.self.view_is) at c.requires.fits.limit) in
    piece_slices p h.place (h.bytes.items ++ replicate h.zeros 0) h.slices h.ahead _ is c.self.invariant.5 c.min-slices.ensures

pub returns-clause-piece : goal.returns-clause-piece
returns-clause-piece c =
    let h = c.self.inside in
    let p : Piece = record { bytes = c.pad.new.bytes; place = h.place; length = c.len-2.result + h.zeros } in
    let are = c.in_ok-pad.ensures ∙ ap (λ v. v.items ++ replicate (min 64 h.zeros) 0) c.replace-bytes.ensures.value in
    let is = piece_is p h.bytes.items h.zeros h.place c.self.invariant.2 are refl (omega (arith, c.len-2.ensures)) (rw (← c.self.view_is) at c.requires.fits.limit) in
    rw (← c.self.view_is) (subst (λ (x : Piece). IsPiece x h.place (h.bytes.items ++ replicate h.zeros 0)) (sym c.of.ensures) is)

pub returns-clause-sound : goal.returns-clause-sound
returns-clause-sound c some =
    let length = ap (λ (p : Piece). p.length) c.of.ensures in
    let place = ap (λ (p : Piece). p.place) c.of.ensures in
    piece_sound _ c.args.self.now.place c.args.self.now.sure (returns-clause-piece c) (omega (arith, length, place, c.self.invariant.1, c.len-2.ensures)) some
