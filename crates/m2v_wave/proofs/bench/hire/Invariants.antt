use Rattle.std.proofs.Common.{◌≡◌, ◌+◌}
use Rattle.std.specs.Prelude.{All}
use Rattle.std.specs.Vec.{vec_len, vec_capacity}
use Rattle.m2v_board.specs.Passes.{IsNew}
use Rattle.m2v_wave.specs.Works.{CanWork}
use Rattle.m2v_wave.proofs.bench.hire.Given as goal

abbrev pub invariant-loop-pass : goal.invariant-loop-pass
invariant-loop-pass g l = record {
  count : vec_len l.crew + vec_len l.passes ≡ vec_len l.initial.passes;
  same : vec_len l.caches ≡ vec_len l.passes;
  new : All (λ p. IsNew l.board p) l.passes.items;
  fits : All (g.B.JobBook.fits_cache l.book) l.caches.items;
  room : vec_capacity l.crew ≡ vec_capacity l.fn.crew;
  idle : All (λ w. CanWork g.B.JobBook.jobs g.B.JobBook.fits_cache l.book l.board w) l.crew.items;
}

abbrev pub decreases-loop-pass : goal.decreases-loop-pass
decreases-loop-pass g l = vec_len l.passes
