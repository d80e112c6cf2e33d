use Rattle.std.proofs.Common.{ℕ, ◌<◌, ◌≤◌, ◌≡◌, get_or}
use Rattle.m2v_board.specs.Posts.{IsBlank}
use Rattle.m2v_wave.proofs.bench.renew_all.Given as goal

abbrev pub invariant-loop-j : goal.invariant-loop-j
invariant-loop-j g l =
    ((k : ℕ) (d : _) → l.j ≤ k → get_or l.posts k d ≡ get_or l.initial.posts k d)
    × ((k : ℕ) (d : _) → k < l.j → IsBlank (g.B.JobBook.fits_piece l.book) (g.B.JobBook.fits_shared l.book) k (get_or l.posts k d).value)
