use Rattle.m2v_law_audit.proofs.FlatLaws.{flat_clean}
use Rattle.m2v_law_audit.proofs.encoded_laws.law_flat.Goals as goal

pub returns : goal.returns
returns c = flat_clean
