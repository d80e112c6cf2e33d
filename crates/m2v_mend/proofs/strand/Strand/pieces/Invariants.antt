use Rattle.std.proofs.Common.{◌≡◌, ◌+◌, take, drop, map}
use Rattle.m2v_decode.specs.Decoding.{Decoding}
use Rattle.m2v_decode.specs.Reading.{Follows}
use Rattle.m2v_mend.specs.Strand.{IsReady, Walked, bytes_in}
use Rattle.m2v_mend.proofs.strand.Strand.pieces.Given as goal

abbrev pub invariant-loop-piece : goal.invariant-loop-piece
invariant-loop-piece g l = record {
  walked : (d : Decoding) → Follows l.fn.self.reading d → Walked d l.fn.self (take l.piece-index (map g.P.HasPiece.own_piece l.pieces)) l.self;
  ready : IsReady l.self;
  total : l.self.bytes + bytes_in (drop l.piece-index (map g.P.HasPiece.own_piece l.pieces)) ≡ l.fn.self.bytes + bytes_in (map g.P.HasPiece.own_piece l.fn.pieces);
  opening : l.self.opening ≡ l.fn.self.opening;
}
