use Rattle.std.proofs.Common.{◌≤◌, subst}
use Rattle.m2v_slice.proofs.Rows.{jobs_are}
use Rattle.m2v_slice.proofs.book.EncodeBook.for_group.Goals as goal

pub returns-clause-jobs : goal.returns-clause-jobs
returns-clause-jobs c = jobs_are _ (subst (λ n. n ≤ 72) c.rows_of-rows.ensures.value c.rows_of-rows.ensures.most)
