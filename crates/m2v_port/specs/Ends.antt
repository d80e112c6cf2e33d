-- What calls do to an endpoint: the one form in which the crates above speak of it.
use Rattle.std.specs.Prelude.{◌≡◌, ℕ, ◌≤◌, Bool, IsTrue, List, Option, None, IfSome, ⊤}
use Rattle.m2v_port.specs.Port.{Rose}

-- What an endpoint told of its bytes before and after, whether its count of faults rose, and whether it is as it was,
-- its count too.
pub record Change : Type 1 where
  pub old : Option (List ℕ)
  pub new : Option (List ℕ)
  pub Failed : Type 0
  pub Unchanged : Type 0

-- The change from one state of an endpoint to another, by what it tells and its count. Where proofs have several states
-- of an input, they are i0, i1 and so on; those of output are o0, o1, those of recon r0, r1.
abbrev pub change : {E : Type 0} → (E → Option (List ℕ)) → (E → ℕ) → E → E → Change
change tells faults old new = record { old = tells old; new = tells new; Failed = Rose (faults old) (faults new); Unchanged = new ≡ old }

-- An endpoint that isn't there: it tells nothing, and never fails.
abbrev pub absent : Change
absent = record { old = None; new = None; Failed = ⊥; Unchanged = ⊤ }

-- Where the endpoint told its bytes before, this holds of them.
abbrev pub Tells : Change → (List ℕ → Type 0) → Type 0
Tells c Holds = IfSome c.old Holds

-- A sink may take bytes still, under the name that it had, and its count never falls.
pub record SinkStays {K : Type 0} (ready : K → Bool) (name : K → Option (List ℕ)) (faults : K → ℕ) (old new : K) : Type 0 where
  pub is_ready : IsTrue (ready new)
  pub keeps_name : name new ≡ name old
  pub counts : faults old ≤ faults new
