use Rattle.std.specs.Prelude.{All}
use Rattle.m2v_decode.specs.m2v_dec_piece.Sound.{IsSoundPiece}
use Rattle.m2v_mend.proofs.CopyLaws.{Continue}
use Rattle.m2v_mend.proofs.copies.copies.Given as goal

abbrev pub invariant-loop-member : goal.invariant-loop-member
invariant-loop-member l = record {
  sound : All IsSoundPiece l.copies.items;
  continue : Continue l.begun l.behind l.low l.members l.copies.items l.member-index;
}
