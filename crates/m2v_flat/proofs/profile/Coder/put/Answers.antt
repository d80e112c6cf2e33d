use Rattle.std.proofs.Common.{arith, refl, inl, inr, ap, length, Err}
use Rattle.m2v_bits.proofs.Cursor.{length-bits}
use Rattle.m2v_flat.proofs.profile.Coder.put.Goals as goal

pub returns-in-Err-Failed-clause-err : goal.returns-in-Err-Failed-clause-err
returns-in-Err-Failed-clause-err g c =
    record {
      why = inl (refl, c.in-Err-Failed.ensures.failed (ap Err c.in-Err-Failed.field-0-is));
      grown = rw (c.bytes-bytes.ensures.value) at c.in-Err-Failed.ensures.err;
    }

pub returns-in-Err-Memory-clause-err : goal.returns-in-Err-Memory-clause-err
returns-in-Err-Memory-clause-err g c = record { why = inr refl; grown = rw (c.bytes-bytes.ensures.value) at c.in-Err-Memory.ensures.err }

pub returns-in-Ok-clause-most : goal.returns-in-Ok-clause-most
returns-in-Ok-clause-most g c = omega (arith, length-bits c.bytes-bytes.result.now, ap length c.bytes-bytes.ensures.bits, c.requires.ready.room)
