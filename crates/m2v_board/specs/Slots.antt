-- The slots that a pass has, each with the number of its job.
use Rattle.std.specs.Prelude.{◌≡◌, ℕ, ◌==◌, ◌≤◌, List, [], ◌∷◌, map, Option, Some, None, if◌then◌else◌}
use Rattle.std.specs.VecDeque.{deque_capacity}
use Rattle.std.specs.declared.collections.VecDeque.{VecDeque}

module _ {S : Type 0} where
  -- the jobs, in the order of the slots
  abbrev pub jobs_in : List (ℕ × S) → List ℕ
  jobs_in slots = map (λ x. x.0) slots

  -- what is in the slot of the job j, if the pass has that slot
  abbrev pub slot_at : List (ℕ × S) → ℕ → Option S
  slot_at [] j = None
  slot_at (x ∷ xs) j = if x.0 == j then Some x.1 else slot_at xs j

module _ {A : Type 0} where
  -- an empty queue with room for n jobs
  abbrev pub IsRoom : ℕ → VecDeque ℕ A → Type 0
  IsRoom n q = (q.items ≡ []) × (n ≤ deque_capacity q)
