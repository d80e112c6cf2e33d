-- A group that is ready to be coded.
use Rattle.m2v_wave.specs.Benches.{IsBenchOf}
use Rattle.m2v_slice.specs.Jobs.{jobs_of, FitsCache}
use Rattle.m2v_encode.specs.declared.ready.ReadyGroup.{ReadyGroup}
use Rattle.m2v_encode.specs.Groups.{IsDone}

-- what is told of the group is so, and the bench is its book's
pub record IsReady (r : ReadyGroup) : Type 0 where
  pub told : IsDone r.book r.facts.settings r.facts.pictures.items r.facts.frames r.facts.rows r.facts.times.items
  pub bench : IsBenchOf jobs_of FitsCache r.book r.bench
