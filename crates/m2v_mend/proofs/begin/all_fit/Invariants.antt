use Rattle.std.proofs.Common.{◌≡◌, take, true}
use Rattle.m2v_law_seam.specs.Strands.{all_fit}
use Rattle.m2v_mend.specs.Strand.{wholes_of}
use Rattle.m2v_mend.proofs.begin.all_fit.Given as goal

abbrev pub invariant-loop-piece : goal.invariant-loop-piece
invariant-loop-piece l = all_fit (wholes_of (take l.piece-index l.pieces)) ≡ true
