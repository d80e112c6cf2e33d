use Rattle.std.proofs.Common.{◌≡◌, ℕ, take}
use Rattle.std.specs.Prelude.{All, Contains}
use Rattle.m2v_core.specs.Book.{cache_after}
use Rattle.m2v_board.specs.Passes.{view, slot_of, IsPassOf}
use Rattle.m2v_wave.proofs.worker.learn_all.Given as goal

abbrev pub invariant-loop-at : goal.invariant-loop-at
invariant-loop-at g l = record {
  pass : IsPassOf l.board l.pass;
  passes : (view l.pass).passes ≡ (view l.fn.pass).passes;
  slots : (i : ℕ) → slot_of l.pass i ≡ slot_of l.fn.pass i;
  borrowed : All (λ i. Contains (view l.pass).borrowed i) (take l.at l.needs);
  fits : g.B.JobBook.fits_cache l.book l.cache;
  learned : l.cache ≡ cache_after (g.B.JobBook.learned l.book l.j) (g.B.JobBook.shared l.book) l.needs l.at l.fn.cache;
}
