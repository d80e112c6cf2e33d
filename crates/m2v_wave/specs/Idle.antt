-- What a worker's pass is between two jobs.
use Rattle.std.specs.Prelude.{◌≡◌, ℕ, ◌<◌, None}
use Rattle.m2v_board.specs.Rule.{past}
use Rattle.m2v_board.specs.declared.board.Board.{Board}
use Rattle.m2v_board.specs.declared.pass.Pass.{Pass}
use Rattle.m2v_board.specs.Passes.{jobs_of, view, slot_of, IsPassOf}

module _ {B P S C : Type 0} where
  -- it has no job open
  abbrev pub IsIdle : {g : _} → Board B P S C → Pass B P S C g → Type 0
  IsIdle b p = IsPassOf b p × ((j : ℕ) → slot_of p j ≡ None)

  -- and it has drawn past the jobs
  abbrev pub IsEnded : {g : _} → Board B P S C → Pass B P S C g → Type 0
  IsEnded b p = IsIdle b p × (0 < past (jobs_of b) (view p).drawn)
