use Rattle.m2v_law_shown.proofs.Streams.{tells_jobs}
use Rattle.m2v_law_shown.proofs.Account.{tells_numbers, stream_intervals}
use Rattle.m2v_law_shown.proofs.laws.law_told.Goals as goal

pub returns : goal.returns
returns c = record { told = tells_jobs; numbers = tells_numbers; intervals = stream_intervals }
