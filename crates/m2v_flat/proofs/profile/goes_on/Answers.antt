use Rattle.std.proofs.Common.{refl, inl, inr, ap, Err}
use Rattle.m2v_flat.proofs.profile.goes_on.Goals as goal

pub returns-in-Err-Failed-clause-err : goal.returns-in-Err-Failed-clause-err
returns-in-Err-Failed-clause-err g c = record { why = inl (refl, c.in-Err-Failed.ensures.failed (ap Err c.in-Err-Failed.field-0-is)); moved = c.in-Err-Failed.ensures.err }

pub returns-in-Err-Memory-clause-err : goal.returns-in-Err-Memory-clause-err
returns-in-Err-Memory-clause-err g c = record { why = inr refl; moved = c.in-Err-Memory.ensures.err }
