use Rattle.std.proofs.Common.{◌+◌, ◌/◌, ◌<◌, ℕ, length, sym, subst}
use Rattle.m2v_slice.proofs.Rows.{job_picture}
use Rattle.m2v_slice.proofs.book.EncodeBook.picture_of_job.Goals as goal

pub returns-clause-picture : goal.returns-clause-picture
returns-clause-picture c =
    subst (λ (n : ℕ). c.args.j / (n + 1) < length c.args.self.now.pictures) (sym c.rows.ensures.value) (job_picture c.args.self.now c.args.j c.requires.job)
