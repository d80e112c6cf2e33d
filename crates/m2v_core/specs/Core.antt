-- The scheduling core: its states, what it answers to each event, what each event does, and which states are good.
use Rattle.std.specs.Prelude.{◌≡◌, ℕ, ◌+◌, ◌<◌, ◌≤◌, ◌==◌, Bool, not, ◌&&◌, List, [], ◌∷◌, ◌++◌, length, replicate, Option, Some, None, Result, Ok, Err, is_some, is_none, slice_index_or, slice_set, nat_lt, sum_by, count_by, find, if◌then◌else◌}
use Rattle.std.specs.List.{list_any}
use Rattle.m2v_core.specs.declared.event.Event.{Event}
use Rattle.m2v_core.specs.declared.event.Event.TheVariants.{Claim, Publish, Fetch}
use Rattle.m2v_core.specs.declared.event.Answer.{Answer}
use Rattle.m2v_core.specs.declared.event.Answer.TheVariants.{Drawn, End, Done}
use Rattle.m2v_core.specs.declared.event.StepFault.{StepFault}
use Rattle.m2v_core.specs.declared.event.StepFault.TheVariants.{NotLawful}

-- how many jobs there are, the next to be drawn, the jobs that each worker claimed, and the piece of each job that is published
pub record State (P : Type 0) : Type 0 where
  pub jobs : ℕ
  pub next : ℕ
  pub claimed : List (List ℕ)
  pub published : List (Option P)

-- how often x stands in the list
abbrev pub times : ℕ → List ℕ → ℕ
times x xs = count_by (λ y. y == x) xs

-- at a publication of the job j: the answer where this is its first need that isn't published
abbrev pub of_missing : ℕ → Option ℕ → Result Answer StepFault
of_missing j None = Ok Done
of_missing j (Some need) = Err (NotLawful j need)

module _ {P : Type 0} where
  -- nothing is drawn yet
  abbrev pub opening : ℕ → ℕ → State P
  opening n workers = record { jobs = n; next = 0; claimed = replicate workers []; published = replicate n None }

  abbrev pub workers : State P → ℕ
  workers s = length s.claimed

  abbrev pub of_worker : State P → ℕ → List ℕ
  of_worker s w = slice_index_or s.claimed w []

  abbrev pub published_at : State P → ℕ → Option P
  published_at s j = slice_index_or s.published j None

  abbrev pub is_published : State P → ℕ → Bool
  is_published s j = is_some (published_at s j)

  abbrev pub published_count : State P → ℕ
  published_count s = count_by is_some s.published

  -- the worker claimed the job, and it isn't published
  abbrev pub is_open : State P → ℕ → ℕ → Bool
  is_open s w j = list_any (λ i. i == j) (of_worker s w) && not (is_published s j)

  -- how many claims of a worker aren't published
  abbrev pub open_count : State P → ℕ → ℕ
  open_count s w = count_by (λ j. not (is_published s j)) (of_worker s w)

  -- the first need that isn't published
  abbrev pub missing : State P → List ℕ → Option ℕ
  missing s needs = find (λ i. not (is_published s i)) needs

  -- what a core answers
  unfoldable pub answer : (ℕ → List ℕ) → State P → Event → Result Answer StepFault
  answer needs s (Claim w) = if nat_lt w (workers s) then (if nat_lt s.next s.jobs then Ok (Drawn s.next) else Ok End) else Err (NotLawful w (workers s))
  answer needs s (Publish w j) = if nat_lt w (workers s) then (if is_open s w j then of_missing j (missing s (needs j)) else Err (NotLawful j (open_count s w))) else Err (NotLawful w (workers s))
  answer needs s (Fetch w j) = if nat_lt w (workers s) then (if is_published s j then Ok Done else Err (NotLawful j (published_count s))) else Err (NotLawful w (workers s))

  -- the next job goes to the worker
  abbrev pub claim : State P → ℕ → State P
  claim s w = record s { next = s.next + 1; claimed = slice_set s.claimed w (of_worker s w ++ s.next ∷ []) }

  -- the piece of the job is there for all
  abbrev pub publish : (ℕ → P) → State P → ℕ → State P
  publish value s j = record s { published = slice_set s.published j (Some (value j)) }

  abbrev pub may_claim : State P → ℕ → Bool
  may_claim s w = nat_lt w (workers s) && nat_lt s.next s.jobs

  abbrev pub may_publish : (ℕ → List ℕ) → State P → ℕ → ℕ → Bool
  may_publish needs s w j = nat_lt w (workers s) && (is_open s w j && is_none (missing s (needs j)))

  -- what an event does
  unfoldable pub after : (ℕ → P) → (ℕ → List ℕ) → State P → Event → State P
  after value needs s (Claim w) = if may_claim s w then claim s w else s
  after value needs s (Publish w j) = if may_publish needs s w j then publish value s j else s
  after value needs s (Fetch w j) = s

  -- what a list of events does
  unfoldable pub run : (ℕ → P) → (ℕ → List ℕ) → State P → List Event → State P
  run value needs s [] = s
  run value needs s (e ∷ es) = run value needs (after value needs s e) es

  -- each number below `next` stands in one claimed list, once, and the lists have no other number; what is published was claimed, and is the value of its job
  pub record Good (value : ℕ → P) (s : State P) : Type 0 where
    pub next : s.next ≤ s.jobs
    pub size : length s.published ≡ s.jobs
    pub once : (j : ℕ) → sum_by (times j) s.claimed ≡ (if nat_lt j s.next then 1 else 0)
    pub final : (j : ℕ) (p : P) → published_at s j ≡ Some p → (j < s.next) × (p ≡ value j)
