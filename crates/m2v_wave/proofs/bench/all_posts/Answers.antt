use Rattle.std.proofs.Common.{arith, ap, ◌∙◌, ◌∷◌, [], length, length-append}
use Rattle.m2v_board.specs.Posts.{IsBlank}
use Rattle.m2v_wave.proofs.Learns.{places_more}
use Rattle.m2v_wave.proofs.bench.all_posts.Goals as goal

pub loop-j-preserved : goal.loop-j-preserved
loop-j-preserved g c =
    let inv = c.loop-j.invariant in
    let items = c.in_ok-push.ensures.items in
    let post = c.in_ok-blank_post.field-0 in
    record {
      count = ap length items ∙ length-append c.loop-j.posts.items (post ∷ []) ∙ (let n = inv.count in omega arith);
      blank = rw items (places_more (λ j b. IsBlank (g.B.JobBook.fits_piece c.args.book.now) (g.B.JobBook.fits_shared c.args.book.now) j b.value) c.loop-j.posts.items post c.loop-j.j inv.count inv.blank c.in_ok-blank_post.ensures);
    }
