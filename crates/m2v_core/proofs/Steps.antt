-- What a step leaves good, and what a refused one leaves as it was.
use Rattle.std.proofs.Common.{◌≡◌, ℕ, ◌<◌, List, length, set, get_or, sym, ap, ◌∙◌, subst, arith, get_or-set_other, get_or-set_same}
use Rattle.std.specs.Prelude.{Option, Some, None, unwrap_or, Result, Ok, Err, OnErr}
use mathlib.Core.Logic.{⊎_elim, dite}
use native.Mathlib.Decide.{ℕ_discrete}
use Rattle.m2v_core.specs.declared.event.Event.{Event}
use Rattle.m2v_core.specs.declared.event.Answer.{Answer}
use Rattle.m2v_core.specs.declared.event.StepFault.{StepFault}
use Rattle.m2v_core.specs.Core.{State, Good}
use Rattle.m2v_core.specs.Machine.{Stepped, IsSoundCore}
use Rattle.m2v_core.proofs.Good.{after_good, publish_good}
use Rattle.m2v_core.proofs.Stays.{refused}

module _ {P : Type 0} (value : ℕ → P) where
  module _ (needs : ℕ → List ℕ) (s : State P) (e : Event) where
    pub stepped_same : (got : Result Answer StepFault) (t : State P) → Stepped value needs s e got t → OnErr got (t ≡ s)
    stepped_same (Ok a) t h = tt
    stepped_same (Err f) t h = ⊎_elim (λ m. m.1) (λ d. d.1 ∙ refused value needs s e f (sym d.0)) h

    pub stepped_good : (got : Result Answer StepFault) (t : State P) → Good value s → Stepped value needs s e got t → Good value t
    stepped_good got t good h = ⊎_elim (λ m. subst (Good value) (sym m.1) good) (λ d. subst (Good value) (sym d.1) (after_good value needs s e good)) h

  -- a piece more that is the value of its job
  pub published_sound : (n : ℕ) (fits : ℕ → P → Type 0) (s : State P) (j : ℕ) (v : P) → IsSoundCore n value fits s → j < s.next → v ≡ value j → fits j v
      → IsSoundCore n value fits record s { published = set s.published j (Some v) }
  published_sound n fits s j v h below is fit = record {
    count = h.count;
    good = subst (λ (p : P). Good value record s { published = set s.published j (Some p) }) (sym is) (publish_good value s j h.good below);
    fits = λ i p e. dite (ℕ_discrete i j)
        (λ same.
        let near : j < length s.published = (let a = h.good.next in let b = h.good.size in omega arith) in
        let here = get_or-set_same s.published j (Some v) None near in
        let q : Some v ≡ Some p = sym here ∙ ap (λ m. get_or (set s.published j (Some v)) m None) (sym same) ∙ e in
        let is_v : v ≡ p = ap (λ (o : Option P). unwrap_or o v) q in
        subst (λ (m : ℕ). fits m p) (sym same) (subst (fits j) is_v fit))
        (λ ne. h.fits i p (sym (get_or-set_other s.published j i (Some v) None ne) ∙ e));
  }
