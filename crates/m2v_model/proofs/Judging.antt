-- Rules that hold are no breaches.
use Rattle.std.proofs.Common.{◌≡◌, ℕ, ◌≤◌, Bool, true, [], refl}
use Rattle.std.proofs.lemmas.Bool.{le-leb, le-ltb}
use Rattle.m2v_model.specs.Lawful.{Breach, judge, at_most, within}

pub judge_none : (b : Bool) (x : Breach) → b ≡ true → judge b x ≡ []
judge_none b x e = rw e refl

pub most_none : (rule picture have need : ℕ) → have ≤ need → at_most rule picture have need ≡ []
most_none rule picture have need le = rw (le-leb have need le) refl

pub within_none : (rule picture have low high : ℕ) → low ≤ have → have ≤ high → within rule picture have low high ≡ []
within_none rule picture have low high above below = rw (le-ltb have low above, le-leb have high below) refl
