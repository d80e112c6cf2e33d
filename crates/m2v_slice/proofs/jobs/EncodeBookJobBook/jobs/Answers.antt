use Rattle.std.proofs.Common.{◌≤◌, ℕ, sym, subst}
use Rattle.m2v_slice.proofs.Rows.{jobs_are}
use Rattle.m2v_slice.proofs.jobs.EncodeBookJobBook.jobs.Goals as goal

pub returns : goal.returns
returns c = rw (c.pictures.ensures.value, c.rows.ensures.value) (sym (jobs_are c.args.self.now (subst (λ (n : ℕ). n ≤ 72) c.rows.ensures.value c.rows.ensures.most)))
