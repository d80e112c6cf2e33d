use Rattle.m2v_law_audit.proofs.MovedPieces.{is_moved}
use Rattle.m2v_law_audit.proofs.moved_laws.law_moved.Goals as goal

pub returns : goal.returns
returns c = is_moved
