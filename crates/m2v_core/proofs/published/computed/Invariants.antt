use Rattle.std.proofs.Common.{◌≡◌}
use Rattle.m2v_core.specs.Book.{cache_after}
use Rattle.m2v_core.proofs.published.computed.Given as goal

abbrev pub invariant-loop-at : goal.invariant-loop-at
invariant-loop-at g l = record {
  fits : g.B.JobBook.fits_cache l.book l.cache;
  learned : l.cache ≡ cache_after (g.B.JobBook.learned l.book l.j) (g.B.JobBook.shared l.book) l.needs l.at l.initial.cache;
}
