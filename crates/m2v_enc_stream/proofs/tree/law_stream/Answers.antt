use Rattle.m2v_enc_stream.proofs.TreeStreams.{stream_stands}
use Rattle.m2v_enc_stream.proofs.tree.law_stream.Goals as goal

pub returns : goal.returns
returns c = λ s frames passes some few. stream_stands (record { calm = c.law_slice_calm.ensures; reads = c.law_slice_reads.ensures.stands; large = c.law_slice_reads.ensures.large }) s frames passes some few
