use Rattle.std.proofs.Common.{◌≡◌, ◌+◌, drop, map}
use Rattle.m2v_mend.specs.Strand.{bytes_in}
use Rattle.m2v_mend.proofs.copies.bytes_of.Given as goal

abbrev pub invariant-loop-piece : goal.invariant-loop-piece
invariant-loop-piece g l = l.total + bytes_in (drop l.piece-index (map g.P.HasPiece.own_piece l.pieces)) ≡ bytes_in (map g.P.HasPiece.own_piece l.pieces)
