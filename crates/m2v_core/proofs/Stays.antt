-- What is published stays, and an event that is refused does nothing.
use Rattle.std.proofs.Common.{◌≡◌, ℕ, ◌<◌, Bool, true, false, not, cond, ◌&&◌, List, [], ◌∷◌, refl, sym, ap, ◌∙◌, arith, ltb, length-set, get_or-set_other}
use Rattle.std.specs.Prelude.{◌↔◌, Option, Some, None, is_some, is_none, Ok, Err}
use Rattle.std.proofs.lemmas.Bool.{lt-ltb, and_parts}
use mathlib.Core.Bool.{true≢false}
use mathlib.Core.Logic.{dite}
use native.Mathlib.Decide.{ℕ_discrete}
use Rattle.m2v_core.specs.declared.event.Event.{Event}
use Rattle.m2v_core.specs.declared.event.Event.TheVariants.{Claim, Publish, Fetch}
use Rattle.m2v_core.specs.declared.event.Answer.TheVariants.{Drawn, End, Done}
use Rattle.m2v_core.specs.declared.event.StepFault.{StepFault}
use Rattle.m2v_core.specs.declared.event.StepFault.TheVariants.{NotLawful}
use Rattle.m2v_core.specs.Core.{State, Good, opening, workers, of_missing, published_at, published_count, is_published, is_open, open_count, missing, may_claim, may_publish, claim, publish, answer, after, run}
use Rattle.m2v_core.proofs.Good.{every_good, length_same}

ok_not_err : {A E : Type 0} (a : A) (e : E) → Ok a ≡ Err e → ⊥
ok_not_err a e h = cc

module _ {P : Type 0} (value : ℕ → P) (needs : ℕ → List ℕ) where
  after_stays : (s : State P) (e : Event) (j : ℕ) (p : P) → published_at s j ≡ Some p → published_at (after value needs s e) j ≡ Some p
  unfolding after
  after_stays s (Claim w) j p h = by (may_claim s w)
    where
      by : (b : Bool) → published_at (cond b (claim s w) s) j ≡ Some p
      by true = h
      by false = h
  after_stays s (Publish w i) j p h = by (may_publish needs s w i) refl
    where
      by : (b : Bool) → may_publish needs s w i ≡ b → published_at (cond b (publish value s i) s) j ≡ Some p
      by true e = dite (ℕ_discrete j i)
          (λ same.
          let u = and_parts _ _ (and_parts _ _ (and_parts _ _ e).1).0 in
          let there : is_published s i ≡ true = ap (λ (n : ℕ). is_published s n) (sym same) ∙ ap is_some h in
          absurd (true≢false (sym u.1 ∙ ap not there)))
          (λ ne. get_or-set_other s.published i j (Some (value i)) None ne ∙ h)
      by false e = h
  after_stays s (Fetch w i) j p h = h

  pub run_stays : (s : State P) (es : List Event) (j : ℕ) (p : P) → published_at s j ≡ Some p → published_at (run value needs s es) j ≡ Some p
  unfolding run
  run_stays s [] j p h = h
  run_stays s (e ∷ es) j p h = run_stays (after value needs s e) es j p (after_stays s e j p h)

  after_workers : (s : State P) (e : Event) → workers (after value needs s e) ≡ workers s
  unfolding after
  after_workers s (Claim w) = by (may_claim s w)
    where
      by : (b : Bool) → workers (cond b (claim s w) s) ≡ workers s
      by true = length-set s.claimed w _
      by false = refl
  after_workers s (Publish w i) = by (may_publish needs s w i)
    where
      by : (b : Bool) → workers (cond b (publish value s i) s) ≡ workers s
      by true = refl
      by false = refl
  after_workers s (Fetch w i) = refl

  run_workers : (s : State P) (es : List Event) → workers (run value needs s es) ≡ workers s
  unfolding run
  run_workers s [] = refl
  run_workers s (e ∷ es) = run_workers (after value needs s e) es ∙ after_workers s e

  fetched_good : (s : State P) (w j : ℕ) → Good value s → w < workers s → (answer needs s (Fetch w j) ≡ Ok Done) ↔ (published_at s j ≡ Some (value j))
  unfolding answer
  fetched_good s w j h lt = rw (lt-ltb w (workers s) lt) (by (published_at s j) refl)
    where
      by : (o : Option P) → published_at s j ≡ o → (cond (is_some o) (Ok Done) (Err (NotLawful j (published_count s))) ≡ Ok Done) ↔ (o ≡ Some (value j))
      by None e = ((λ h. absurd (ok_not_err Done (NotLawful j (published_count s)) (sym h))), (λ h. absurd (true≢false (sym (ap is_some h)))))
      by (Some p) e = ((λ _. ap Some (h.final j p e).1), (λ _. refl))

  pub fetched : (n count : ℕ) (es : List Event) (w j : ℕ) → w < count → (answer needs (run value needs (opening n count) es) (Fetch w j) ≡ Ok Done) ↔ (published_at (run value needs (opening n count) es) j ≡ Some (value j))
  fetched n count es w j lt =
      let s : State P = run value needs (opening n count) es in
      let size : workers s ≡ count = run_workers (opening n count) es ∙ length_same [] count in
      fetched_good s w j (every_good value needs n count es) (omega arith)

  pub refused : (s : State P) (e : Event) (f : StepFault) → answer needs s e ≡ Err f → after value needs s e ≡ s
  unfolding answer after
  refused s (Claim w) f = by (ltb w (workers s)) (ltb s.next s.jobs)
    where
      by : (a b : Bool) → cond a (cond b (Ok (Drawn s.next)) (Ok End)) (Err (NotLawful w (workers s))) ≡ Err f → cond (a && b) (claim s w) s ≡ s
      by true true e = absurd (ok_not_err (Drawn s.next) f e)
      by true false e = refl
      by false b e = refl
  refused s (Publish w j) f = by (ltb w (workers s)) (is_open s w j) (missing s (needs j))
    where
      by : (a b : Bool) (m : Option ℕ) → cond a (cond b (of_missing j m) (Err (NotLawful j (open_count s w)))) (Err (NotLawful w (workers s))) ≡ Err f → cond (a && (b && is_none m)) (publish value s j) s ≡ s
      by true true None e = absurd (ok_not_err Done f e)
      by true true (Some i) e = refl
      by true false m e = refl
      by false b m e = refl
  refused s (Fetch w j) f = λ e. refl
