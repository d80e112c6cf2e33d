use Rattle.std.proofs.Common.{map, refl, ◌∙◌, arith}
use Rattle.m2v_decode.specs.m2v_dec_piece.Sound.{IsSoundPiece}
use Rattle.m2v_mend.proofs.Stepping.{walked_none, walked_more, halts_at, bytes_left}
use Rattle.m2v_mend.proofs.Parting.{all_next, in_map, next_map}
use Rattle.m2v_mend.proofs.strand.Strand.pieces.Goals as goal

pub loop-piece-init : goal.loop-piece-init
loop-piece-init g c = record { walked = λ d f. walked_none d _ f; ready = c.requires.ready; total = refl; opening = refl }

pub piece-requires-clause-piece : goal.piece-requires-clause-piece
piece-requires-clause-piece g c =
    let own = g.P.HasPiece.own_piece in
    rw c.as_piece.ensures (all_next own IsSoundPiece c.args.pieces.now c.loop-piece.piece-index c.piece-item.result c.loop-piece-test.true c.piece-item.is c.requires.pieces)

pub piece-requires-clause-counted : goal.piece-requires-clause-counted
piece-requires-clause-counted g c =
    let own = g.P.HasPiece.own_piece in
    let left = bytes_left (map own c.args.pieces.now) c.loop-piece.piece-index (own c.piece-item.result) (in_map own c.args.pieces.now c.loop-piece.piece-index c.loop-piece-test.true) (next_map own c.args.pieces.now c.loop-piece.piece-index c.piece-item.result c.loop-piece-test.true c.piece-item.is) in
    rw c.as_piece.ensures (omega (arith, left, c.loop-piece.invariant.total, c.requires.counted))

pub returns-in-Some-clause-told : goal.returns-in-Some-clause-told
returns-in-Some-clause-told g c =
    let own = g.P.HasPiece.own_piece in
    let told = rw (c.in-Some.is, c.as_piece.ensures) at c.in_ok-fault.ensures.told in
    let lt = in_map own c.args.pieces.now c.loop-piece.piece-index c.loop-piece-test.true in
    let is = next_map own c.args.pieces.now c.loop-piece.piece-index c.piece-item.result c.loop-piece-test.true c.piece-item.is in
    λ d f. halts_at d _ _ (map own c.args.pieces.now) c.loop-piece.piece-index (own c.piece-item.result) c.in-Some.fault lt is (c.loop-piece.invariant.walked d f) told

pub loop-piece-preserved : goal.loop-piece-preserved
loop-piece-preserved g c =
    let own = g.P.HasPiece.own_piece in
    let told = rw (c.in_default.is, c.as_piece.ensures) at c.in_ok-fault.ensures.told in
    let ready = c.in_ok-fault.ensures.ready c.in_default.is in
    let bytes = rw c.as_piece.ensures at (c.in_ok-fault.ensures.bytes c.in_default.is) in
    let lt = in_map own c.args.pieces.now c.loop-piece.piece-index c.loop-piece-test.true in
    let is = next_map own c.args.pieces.now c.loop-piece.piece-index c.piece-item.result c.loop-piece-test.true c.piece-item.is in
    let left = bytes_left (map own c.args.pieces.now) c.loop-piece.piece-index (own c.piece-item.result) lt is in
    let inv = c.loop-piece.invariant in
    record {
      walked = λ d f. walked_more d _ _ _ (map own c.args.pieces.now) c.loop-piece.piece-index (own c.piece-item.result) lt is (inv.walked d f) told;
      ready = ready;
      total = omega (arith, bytes, left, inv.total);
      opening = c.in_ok-fault.ensures.opening c.in_default.is ∙ inv.opening;
    }
