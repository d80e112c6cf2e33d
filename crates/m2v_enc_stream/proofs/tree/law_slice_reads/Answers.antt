use Rattle.m2v_enc_stream.proofs.Slices.{slice_stands, none_large}
use Rattle.m2v_enc_stream.proofs.tree.law_slice_reads.Goals as goal

pub returns : goal.returns
returns c = record {
  stands = λ t references zeros slice decoded. slice_stands t references zeros slice decoded;
  large = λ t slice. none_large t slice;
}
