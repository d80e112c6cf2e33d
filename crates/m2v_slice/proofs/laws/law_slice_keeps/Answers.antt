use Rattle.m2v_slice.proofs.Keeps.{keeps}
use Rattle.m2v_slice.proofs.laws.law_slice_keeps.Goals as goal

pub returns : goal.returns
returns c = λ t slice row n le. keeps t slice row n le
