-- A run of the program, as it is seen from outside.
use Rattle.std.specs.Prelude.{ℕ, ◌≡◌, ◌⊎◌, Bool, List, Option}
use Rattle.m2v_port.specs.Ends.{Change, change}

-- how the place for a file beside output, of reconstructions or of a list, stands in the end: whether it is open, and the
-- name that it tells
pub record Place : Type 0 where
  pub ready : Bool
  pub name : Option (List ℕ)

-- the words, what the run did to each endpoint, and the status
pub record Run : Type 1 where
  pub words : List (List ℕ)
  pub input : Change
  pub output : Change
  pub recon : Change
  pub place : Place
  pub report : Change
  pub status : ℕ

-- what was done to the endpoints that a command works on
pub record Work : Type 1 where
  pub input : Change
  pub output : Change
  pub recon : Change
  pub place : Place

-- by what each endpoint tells and its count, from how they stood to how they stand; the place, by whether it is open and what
-- name it tells
abbrev pub worked : {S K N : Type 0} → (S → Option (List ℕ)) → (S → ℕ) → (K → Option (List ℕ)) → (K → ℕ) → (N → Option (List ℕ)) → (N → ℕ)
    → (N → Bool) → (N → Option (List ℕ)) → S → S → K → K → N → N → Work
worked left taken held put listed shown ready name input input' output output' recon recon' = record {
  input = change left taken input input';
  output = change held put output output';
  recon = change listed shown recon recon';
  place = record { ready = ready recon'; name = name recon' };
}

abbrev pub work_of : Run → Work
work_of r = record { input = r.input; output = r.output; recon = r.recon; place = r.place }

-- nothing was looked at
abbrev pub IsUntouched : Work → Type 0
IsUntouched k = k.input.Unchanged × k.output.Unchanged × k.recon.Unchanged

-- This is answered. In its place may come want of memory, and 7 or 8 where the count of input or output rose.
pub data Yields (r : Run) (Answer : Type 0) : Type 0 where
  said : Answer → Yields r Answer
  read : r.status ≡ 7 → r.input.Failed → Yields r Answer
  write : r.status ≡ 8 → r.output.Failed → Yields r Answer
  memory : r.status ≡ 12 → Yields r Answer

-- Refused with this status, or by want of memory, and nothing else was looked at.
abbrev pub RefusedBy : ℕ → Run → Type 0
RefusedBy n r = ((r.status ≡ n) ⊎ (r.status ≡ 12)) × IsUntouched (work_of r)

-- no endpoint of the run failed
pub record NoneFailed (r : Run) : Type 0 where
  pub input : r.input.Failed → ⊥
  pub output : r.output.Failed → ⊥
  pub report : r.report.Failed → ⊥

-- success, unless memory runs out
abbrev pub Succeeds : Run → Type 0
Succeeds r = (r.status ≡ 0) ⊎ (r.status ≡ 12)
