use Rattle.std.proofs.Common.{◌∙◌, ◌<◌, sym, subst, ap, List, get_or}
use Rattle.m2v_order.specs.declared.jobs.PictureJob.{PictureJob}
use Rattle.m2v_slice.specs.Headers.{IsJob}
use Rattle.m2v_slice.specs.Books.{no_job}
use Rattle.m2v_slice.proofs.Slices.{is_job}
use Rattle.m2v_encode.proofs.Pieces.{job_there}
use Rattle.m2v_encode.proofs.done.DoneGroup.job.Goals as goal

pub returns-clause-job : goal.returns-clause-job
returns-clause-job c =
    let b = c.self.inside.done in
    let lt = rw (← c.self.view_is) at c.requires.picture in
    let is = c.index.ensures ∙ ap (λ (xs : List PictureJob). get_or xs c.args.p c.index.result.now) c.self.invariant.pictures ∙ job_there b c.args.p c.index.result.now lt in
    subst IsJob (sym is) (is_job b c.self.invariant.book c.args.p lt)

pub returns-clause-early : goal.returns-clause-early
returns-clause-early c =
    let b = c.self.inside.done in
    let lt = rw (← c.self.view_is) at c.requires.picture in
    let is = c.index.ensures ∙ ap (λ (xs : List PictureJob). get_or xs c.args.p c.index.result.now) c.self.invariant.pictures ∙ job_there b c.args.p c.index.result.now lt in
    subst (λ (j : PictureJob). j.display < 1000000) (sym is) (c.self.invariant.early c.args.p no_job lt)
