use Rattle.std.proofs.Common.{ℕ, ap, subst, sym, ◌∙◌, take}
use Rattle.m2v_wave.specs.Pieces.{MayServe}
use Rattle.m2v_wave.proofs.Renewals.{first_serve}
use Rattle.m2v_wave.proofs.bench.renewed.Goals as goal

pub renew_all-requires-clause-fits : goal.renew_all-requires-clause-fits
renew_all-requires-clause-fits g c = λ κs l.
    let n = g.B.JobBook.jobs c.args.book.now in
    let own = ap (λ v. v.items) c.into_posts-posts.ensures in
    let first = c.deref_mut.ensures.value ∙ c.truncate.ensures.items ∙ ap (take c.jobs.result) own ∙ ap (λ (m : ℕ). take m c.args.spare.posts.items) c.jobs.ensures in
    subst (MayServe n (g.B.JobBook.fits_piece c.args.book.now) (g.B.JobBook.fits_shared c.args.book.now)) (sym first)
    (first_serve n (g.B.JobBook.fits_piece c.args.book.now) (g.B.JobBook.fits_shared c.args.book.now) c.args.spare.posts.items c.requires.spare)
