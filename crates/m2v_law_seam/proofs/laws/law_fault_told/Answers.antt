use Rattle.m2v_law_seam.proofs.Placing.{fault_placed}
use Rattle.m2v_law_seam.proofs.laws.law_fault_told.Goals as goal

pub returns : goal.returns
returns c = λ s bytes ps. fault_placed s bytes ps
