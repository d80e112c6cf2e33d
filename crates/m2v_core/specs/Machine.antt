-- What contracts see of a core: its book and its state; what every core keeps, and what a step of it does.
use Rattle.std.specs.Prelude.{◌≡◌, ℕ, ◌⊎◌, List, Some, Result, Err}
use Rattle.m2v_core.specs.declared.event.Event.{Event}
use Rattle.m2v_core.specs.declared.event.Answer.{Answer}
use Rattle.m2v_core.specs.declared.event.StepFault.{StepFault}
use Rattle.m2v_core.specs.declared.event.StepFault.TheVariants.{Memory}
use Rattle.m2v_core.specs.Core.{State, Good, published_at, answer, after}

-- a book, and a state of the core over it
pub record Machine (B P : Type 0) : Type 0 where
  pub book : B
  pub state : State P

module _ {P : Type 0} where
  -- a good state over a book of n jobs, whose pieces are of that book
  pub record IsSoundCore (n : ℕ) (value : ℕ → P) (fits_piece : ℕ → P → Type 0) (s : State P) : Type 0 where
    pub count : s.jobs ≡ n
    pub good : Good value s
    pub fits : (j : ℕ) (p : P) → published_at s j ≡ Some p → fits_piece j p

  -- all of the step, or nothing for want of memory
  abbrev pub Stepped : (ℕ → P) → (ℕ → List ℕ) → State P → Event → Result Answer StepFault → State P → Type 0
  Stepped value needs s event got t = ((got ≡ Err Memory) × (t ≡ s)) ⊎ ((got ≡ answer needs s event) × (t ≡ after value needs s event))
