use Rattle.std.proofs.Common.{ap, Err}
use Rattle.m2v_encode.specs.Steps.{PutStops}
use Rattle.m2v_encode.proofs.pictures.put_bytes.Goals as goal

pub returns-in-Err-Failed-clause-put : goal.returns-in-Err-Failed-clause-put
unfolding PutStops
returns-in-Err-Failed-clause-put g c = record { grown = tt; err = (c.in-Err-Failed.ensures.failed (ap Err c.in-Err-Failed.field-0-is), c.in-Err-Failed.ensures.err) }

pub returns-in-Err-Memory-clause-put : goal.returns-in-Err-Memory-clause-put
unfolding PutStops
returns-in-Err-Memory-clause-put g c = record { grown = tt; err = c.in-Err-Memory.ensures.err }
