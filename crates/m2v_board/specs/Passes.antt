-- What contracts see of a board and of its passes.
use Rattle.std.specs.Prelude.{◌≡◌, ℕ, [], Option, Box}
use Rattle.m2v_board.specs.declared.view.View.{View}
use Rattle.m2v_board.specs.declared.post.Post.{Post}
use Rattle.m2v_board.specs.declared.board.Board.{Board}
use Rattle.std.specs.declared.alloc.Global.{Global}
use Rattle.m2v_board.specs.declared.pass.Pass.{Pass}
use Rattle.m2v_board.specs.Rule.{first_view}
use Rattle.m2v_board.specs.Slots.{slot_at}

module _ {B P S C : Type 0} where
  abbrev pub book_of : Board B P S C → B
  book_of b = b.table.shared.key.book.value

  abbrev pub jobs_of : Board B P S C → ℕ
  jobs_of b = b.table.shared.key.jobs

  abbrev pub workers_of : Board B P S C → ℕ
  workers_of b = b.table.shared.key.workers

  abbrev pub view : {g : _} → Pass B P S C g → View
  view p = p.seat.me.0

  abbrev pub IsPassOf : {g : _} → Board B P S C → Pass B P S C g → Type 0
  IsPassOf b p = (p.seat.table_id ≡ b.table.shared.table_id) × (p.seat.me.0.jobs ≡ b.table.shared.key.jobs)

  -- it has done nothing yet
  abbrev pub IsNew : {g : _} → Board B P S C → Pass B P S C g → Type 0
  IsNew b p = IsPassOf b p × (p.seat.me ≡ (first_view b.table.shared.key.jobs 1, []))

  -- what is in the slot of the job j, if the job is open; a post that was taken is None there
  abbrev pub slot_of : {g : _} → Pass B P S C g → ℕ → Option (Option (Box (Post B P S C) Global))
  slot_of p j = slot_at p.seat.me.1 j
