use Rattle.m2v_enc_stream.proofs.CalmSlices.{slice_calm}
use Rattle.m2v_enc_stream.proofs.tree.law_slice_calm.Goals as goal

pub returns : goal.returns
returns c = λ t slice. slice_calm t slice
