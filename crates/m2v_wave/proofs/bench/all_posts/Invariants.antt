use Rattle.std.proofs.Common.{◌≡◌, ℕ, ◌<◌, ◌≤◌, length, get_or}
use Rattle.m2v_board.specs.Posts.{IsBlank}
use Rattle.m2v_wave.proofs.bench.all_posts.Given as goal

abbrev pub invariant-loop-j : goal.invariant-loop-j
invariant-loop-j g l = record {
  count : length l.posts.items ≡ l.j;
  blank : (k : ℕ) (d : _) → k < l.j → IsBlank (g.B.JobBook.fits_piece l.book) (g.B.JobBook.fits_shared l.book) k (get_or l.posts.items k d).value;
}
