use Rattle.std.proofs.Common.{map, ap, arith}
use Rattle.m2v_decode.specs.m2v_dec_piece.declared.answer.Piece.{Piece}
use Rattle.m2v_mend.proofs.Parting.{in_map, next_map}
use Rattle.m2v_mend.proofs.Stepping.{bytes_left}
use Rattle.m2v_mend.proofs.copies.bytes_of.Goals as goal

pub loop-piece-preserved : goal.loop-piece-preserved
loop-piece-preserved g c =
    let own = g.P.HasPiece.own_piece in
    let ps = c.args.pieces.now in
    let i = c.loop-piece.piece-index in
    let left = bytes_left (map own ps) i (own c.piece-item.result) (in_map own ps i c.loop-piece-test.true) (next_map own ps i c.piece-item.result c.loop-piece-test.true c.piece-item.is) in
    let length = ap (λ (p : Piece). p.length) c.as_piece.ensures in
    omega (arith, left, length, c.in_ok-total.ensures, c.loop-piece.invariant)
