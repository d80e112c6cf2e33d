use Rattle.std.proofs.Common.{◌≡◌}
use Rattle.std.specs.Prelude.{All}
use Rattle.std.specs.Vec.{vec_len}
use Rattle.m2v_wave.proofs.bench.blank_caches.Given as goal

abbrev pub invariant-loop-i : goal.invariant-loop-i
invariant-loop-i g l = record {
  count : vec_len l.caches ≡ l._i;
  fits : All (g.B.JobBook.fits_cache l.book) l.caches.items;
}
