use Rattle.std.proofs.Common.{arith}
use Rattle.m2v_board.specs.Posts.{IsBlank}
use Rattle.m2v_wave.proofs.Renewals.{part_stays, places_renewed}
use Rattle.m2v_wave.proofs.bench.renew_all.Goals as goal

pub renew-requires-clause-fits : goal.renew-requires-clause-fits
renew-requires-clause-fits g c = λ κs l.
    let j = c.loop-j.j in
    let d = c.index-posts-j.result in
    let same = c.loop-j.invariant.0 j d (omega arith) in
    let fits = c.requires.fits in (
      part_stays (λ b. g.B.JobBook.fits_piece c.args.book.now j b.value.piece) c.args.posts.now c.loop-j.posts j d same (fits.pieces j d (omega arith) (omega arith)),
      part_stays (λ b. g.B.JobBook.fits_shared c.args.book.now j b.value.shared) c.args.posts.now c.loop-j.posts j d same (fits.parts j d (omega arith) (omega arith)),
    )

pub loop-j-preserved : goal.loop-j-preserved
loop-j-preserved g c =
    places_renewed (λ i b. IsBlank (g.B.JobBook.fits_piece c.args.book.now) (g.B.JobBook.fits_shared c.args.book.now) i b.value)
    c.args.posts.now c.loop-j.posts c.loop-j.j c.renew.new.post (omega arith) c.loop-j.invariant.0 c.loop-j.invariant.1 c.renew.ensures

pub returns-clause-blank : goal.returns-clause-blank
returns-clause-blank g c = λ k d lt. c.loop-j.invariant.1 k d (omega (arith, lt, c.loop-j.auto.posts, c.loop-j-test.false))
