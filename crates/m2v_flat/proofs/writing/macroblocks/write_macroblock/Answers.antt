use Rattle.m2v_flat.proofs.Lengths.{intra_known}
use Rattle.m2v_flat.proofs.writing.macroblocks.write_macroblock.Goals as goal

pub write_type_i-requires-clause-known : goal.write_type_i-requires-clause-known
write_type_i-requires-clause-known c = intra_known
