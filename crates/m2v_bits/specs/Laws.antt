-- What the laws of a syntax say.
use Rattle.std.specs.Prelude.{◌≡◌, ℕ, Bool, List, ◌++◌, ◌⊎◌, Ok, Err}
use Rattle.m2v_bits.specs.Syntax.{Syntax, Spells}

-- At each text exactly one of a value and a fault stands, it has one value, and it is what is read.
pub record Decided {T K V : Type 0} (s : Syntax T K V) : Type 0 where
  pub some : (t : T) → ((v : V) × (rest : T) × s.Stands v t rest) ⊎ ((f : K × ℕ) × s.Broken t f)
  pub not_both : (v : V) (t rest : T) (f : K × ℕ) → s.Stands v t rest → s.Broken t f → ⊥
  pub one_value : (v w : V) (t rest behind : T) → s.Stands v t rest → s.Stands w t behind → (v ≡ w) × (rest ≡ behind)
  pub one_fault : (t : T) (f g : K × ℕ) → s.Broken t f → s.Broken t g → f ≡ g
  pub found : (v : V) (t rest : T) → s.read t ≡ Ok (v, rest) → s.Stands v t rest
  pub first : (t : T) (f : K × ℕ) → s.read t ≡ Err f → s.Broken t f

-- What is written of each value that fits spells it, and is read back as it, whatever follows.
pub record RoundTrip {K V : Type 0} (s : Syntax (List Bool) K V) (Fits : V → Type 0) (text : V → List Bool) : Type 0 where
  pub spells : (v : V) → Fits v → Spells s v (text v)
  pub read : (v : V) (rest : List Bool) → Fits v → s.read (text v ++ rest) ≡ Ok (v, rest)
