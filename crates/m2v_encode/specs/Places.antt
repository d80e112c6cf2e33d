-- A place for reconstructions that may be there or not: what a call did to it.
use Rattle.std.proofs.Common.{inl, inr}
use Rattle.std.specs.Prelude.{ℕ, Bool, List, ◌⊎◌, Option, Some, None, ⊤}
use Rattle.std.specs.Borrow.{MutBor}
use Rattle.m2v_port.specs.Ends.{Change, change, absent, SinkStays}

-- a place that is lent, or none, as the call left it
abbrev pub Left : Type 0 → Type 0
Left N = Unit {0} ⊎ ((MutBor N × Unit {0}) ⊎ ⊥)

-- This holds of what was done to the place; where there is none, of a recon that isn't there.
abbrev pub Beside : {N : Type 0} → (N → Option (List ℕ)) → (N → ℕ) → (Change → Type 0)
    → Option (MutBor N) → Left N → Type 0
Beside held faults Holds (Some place) (inr (inl left)) = Holds (change held faults place.now left.0.now)
Beside held faults Holds (Some place) _ = ⊥
Beside held faults Holds None _ = Holds absent

-- The place, where there is one, may take bytes still, under the name that it had, and its count never falls.
abbrev pub PlaceStays : {N : Type 0} → (N → Bool) → (N → Option (List ℕ)) → (N → ℕ)
    → Option (MutBor N) → Left N → Type 0
PlaceStays ready name faults (Some place) (inr (inl left)) = SinkStays ready name faults place.now left.0.now
PlaceStays ready name faults (Some place) _ = ⊥
PlaceStays ready name faults None _ = ⊤
