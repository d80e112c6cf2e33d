use Rattle.m2v_law_audit.proofs.EncodedHeaders.{whole_keeps}
use Rattle.m2v_law_audit.proofs.EncodedLaws.{found_clean}
use Rattle.m2v_law_audit.proofs.encoded_laws.law_encoded.Goals as goal

pub returns-clause-found : goal.returns-clause-found
returns-clause-found c = found_clean

pub returns-clause-whole : goal.returns-clause-whole
returns-clause-whole c = whole_keeps
