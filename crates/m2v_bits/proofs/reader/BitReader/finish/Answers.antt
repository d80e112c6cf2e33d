use Rattle.std.proofs.Common.{arith, length, ◌+◌, ◌*◌}
use Rattle.std.proofs.lemmas.List.{drop_all}
use Rattle.m2v_bits.specs.Bits.{bits, padded}
use Rattle.m2v_bits.proofs.Cursor.{length-bits, length-padded}
use Rattle.m2v_bits.proofs.reader.BitReader.finish.Goals as goal

pub returns-clause-rest : goal.returns-clause-rest
returns-clause-rest c =
    let r = c.self.inside in
    drop_all (8 * length r.bytes.now + r.zeros) (padded (bits r.bytes.now) r.zeros) (omega (arith, length-bits r.bytes.now, length-padded (bits r.bytes.now) r.zeros))
