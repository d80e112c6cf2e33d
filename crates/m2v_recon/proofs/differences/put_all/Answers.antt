use Rattle.std.proofs.Common.{arith}
use Rattle.std.proofs.lemmas.Simd.{put_chunk_whole}
use Rattle.m2v_recon.proofs.differences.put_all.Goals as goal

pub returns : goal.returns
returns c = record { value = put_chunk_whole c.args.out.now c.args.line.now (omega arith) }
