-- The laws of a syntax, from its being lawful.
use Rattle.std.proofs.Common.{◌≡◌, ℕ, Bool, List, ◌++◌, length, Ok, Err, Result, ◌⊎◌, inl, inr, refl, sym, ap, ◌∙◌}
use Rattle.m2v_bits.specs.Syntax.{Syntax, Spells}
use Rattle.m2v_bits.specs.Laws.{Decided, RoundTrip}
use Rattle.m2v_bits.proofs.SyntaxLaws.{Lawful, good, bad, good_is}

either : {T K V : Type 0} {left : T → ℕ} {s : Syntax T K V} → Lawful left s → (t : T) (r : Result (V × T) (K × ℕ)) → s.read t ≡ r → ((v : V) × (rest : T) × s.Stands v t rest) ⊎ ((f : K × ℕ) × s.Broken t f)
either ls t (Ok x) e = inl (x.0, x.1, ls.found x.0 t x.1 e)
either ls t (Err f) e = inr (f, ls.first t f e)

apart : {T K V : Type 0} (x : V × T) (f : K × ℕ) → good x ≡ bad f → ⊥
apart x f e = absurd cc

bad_is : {T K V : Type 0} (f g : K × ℕ) → bad {T = T} {V = V} f ≡ bad g → f ≡ g
bad_is f g e = cc

pub decided : {T K V : Type 0} {left : T → ℕ} {s : Syntax T K V} → Lawful left s → Decided s
decided {T} {K} {V} {s = s} ls = record {
  some = λ t. either ls t (s.read t) refl;
  not_both = λ v t rest f st b. apart (v, rest) f (sym (ls.only v t rest st) ∙ ls.refused t f b);
  one_value = λ v w t rest behind st su.
      let same = good_is {K = K} (v, rest) (w, behind) (sym (ls.only v t rest st) ∙ ls.only w t behind su) in
      (ap (λ (x : V × T). x.0) same, ap (λ (x : V × T). x.1) same);
  one_fault = λ t f g b c. bad_is {T = T} {V = V} f g (sym (ls.refused t f b) ∙ ls.refused t g c);
  found = ls.found;
  first = ls.first;
}

pub round_trip : {K V : Type 0} {s : Syntax (List Bool) K V} (Fits : V → Type 0) (text : V → List Bool) → Lawful length s → ((v : V) → Fits v → Spells s v (text v)) → RoundTrip s Fits text
round_trip Fits text ls spells = record {
  spells = spells;
  read = λ v rest fits. ls.only v (text v ++ rest) rest ((spells v fits).stands rest);
}
