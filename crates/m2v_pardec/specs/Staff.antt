-- A batch that has a place for each worker.
use Rattle.m2v_wave.specs.Benches.{IsBenchOf}
use Rattle.m2v_dec_batch.specs.Jobs.{jobs_of}
use Rattle.m2v_dec_batch.specs.Batches.{headers}
use Rattle.m2v_dec_batch.specs.Learned.{FitsCache}
use Rattle.m2v_pardec.specs.declared.workers.Staffed.{Staffed}

-- the places are this batch's
abbrev pub IsStaffed : Staffed → Type 0
IsStaffed s = IsBenchOf (λ b. jobs_of (headers b)) FitsCache s.book.now s.bench
