use Rattle.m2v_core.proofs.Good.{every_good}
use Rattle.m2v_core.proofs.Stays.{run_stays, fetched, refused}
use Rattle.m2v_core.proofs.laws.law_good.Goals as goal

pub returns : goal.returns
returns g c = record {
  good = λ book. every_good (g.B.JobBook.value book) (g.B.JobBook.needs book) (g.B.JobBook.jobs book);
  stays = λ book. run_stays (g.B.JobBook.value book) (g.B.JobBook.needs book);
  fetched = λ book. fetched (g.B.JobBook.value book) (g.B.JobBook.needs book) (g.B.JobBook.jobs book);
  refused = λ book. refused (g.B.JobBook.value book) (g.B.JobBook.needs book);
}
