-- Every event keeps a core good.
use Rattle.std.proofs.Common.{◌≡◌, ℕ, zero, suc, ◌+◌, ◌<◌, ◌≤◌, Bool, true, false, cond, List, [], ◌∷◌, ◌++◌, length, set, get_or, replicate, refl, sym, ap, ◌∙◌, subst, arith, eqb, ltb, length-set, get_or-set_other, get_or-set_same}
use Rattle.std.specs.Prelude.{sum_by, ◌||◌, Option, Some, None, is_some}
use Rattle.std.specs.List.{list_any}
use Rattle.std.proofs.lemmas.Bool.Decides.{nat_tests}
use Rattle.std.proofs.lemmas.Bool.{ltb-true, and_parts}
use Rattle.std.proofs.lemmas.List.Sums.{sum_by-cons, sum_by_push, sum_by-set, get_or-le-sum_by}
use mathlib.Core.Bool.{true≢false}
use mathlib.Core.Logic.{dite}
use native.Mathlib.Decide.{ℕ_discrete}
use Rattle.m2v_core.specs.declared.event.Event.{Event}
use Rattle.m2v_core.specs.declared.event.Event.TheVariants.{Claim, Publish, Fetch}
use Rattle.m2v_core.specs.Core.{State, Good, opening, workers, of_worker, is_open, may_claim, may_publish, claim, publish, after, run, times}

one_if : Bool → ℕ
one_if b = cond b 1 0

next_below : (x r : ℕ) → cond (ltb x r) 1 0 + cond (eqb r x) 1 0 ≡ cond (ltb x (r + 1)) 1 0
next_below x r = grind (arith, nat_tests)

below_one : (j n t : ℕ) → 0 < t → t ≤ cond (ltb j n) 1 0 → j < n
below_one j n t pos le = grind (arith, nat_tests)

none_below : (j : ℕ) → let z : ℕ = 0 in z ≡ cond (ltb j 0) 1 0
none_below j = grind (arith, nat_tests)

nothing : (j w : ℕ) → let z : ℕ = 0 in z ≡ sum_by (times j) (replicate w [])
nothing j zero = refl
nothing j (suc w) = nothing j w

pub length_same : {A : Type 0} (a : A) (n : ℕ) → length (replicate n a) ≡ n
length_same a zero = refl
length_same a (suc n) = ap suc (length_same a n)

get_same : {A : Type 0} (a : A) (n j : ℕ) → get_or (replicate n a) j a ≡ a
get_same a zero j = refl
get_same a (suc n) zero = refl
get_same a (suc n) (suc j) = get_same a n j

none_is_not_some : {P : Type 0} (p : P) → None ≡ Some p → ⊥
none_is_not_some p e = true≢false (sym (ap is_some e))

-- a job that stands in the list stands there some time
any_times : (j : ℕ) (xs : List ℕ) → list_any (λ i. eqb i j) xs ≡ true → 0 < times j xs
any_times j [] e = absurd (true≢false (sym e))
any_times j (x ∷ xs) e = subst (λ (n : ℕ). 0 < n) (sym (sum_by-cons (λ y. cond (eqb y j) 1 0) x xs)) (by (eqb x j) e (any_times j xs))
  where
    by : (b : Bool) → (b || list_any (λ i. eqb i j) xs) ≡ true → (list_any (λ i. eqb i j) xs ≡ true → 0 < times j xs) → 0 < cond b 1 0 + times j xs
    by true e rec = omega arith
    by false e rec = let r = rec e in omega arith

module _ {P : Type 0} (value : ℕ → P) where
  opening_good : (n w : ℕ) → Good value (opening n w)
  opening_good n w = record {
    next = omega arith;
    size = length_same None n;
    once = λ j. sym (nothing j w) ∙ none_below j;
    final = λ j p e. absurd (none_is_not_some p (sym (get_same None n j) ∙ e));
  }

  pub claim_good : (s : State P) (w : ℕ) → Good value s → w < workers s → s.next < s.jobs → Good value (claim s w)
  claim_good s w h is_worker more = record {
    next = omega arith;
    size = h.size;
    once = λ j.
        let t = sum_by-set (times j) s.claimed w (of_worker s w ++ s.next ∷ []) [] is_worker in
        let p = sum_by_push (λ y. cond (eqb y j) 1 0) (of_worker s w) s.next in
        let b = next_below j s.next in
        let o = h.once j in
        omega arith;
    final = λ j p e. let f = h.final j p e in let lt = f.0 in (omega arith, f.1);
  }

  pub publish_good : (s : State P) (j : ℕ) → Good value s → j < s.next → Good value (publish value s j)
  publish_good s j h below =
      let near : j < length s.published = (let a = h.next in let b = h.size in omega arith) in
      record {
        next = h.next;
        size = length-set s.published j (Some (value j)) ∙ h.size;
        once = h.once;
        final = λ i p e. dite (ℕ_discrete i j)
            (λ same.
            let here = get_or-set_same s.published j (Some (value j)) None near in
            let q = sym here ∙ ap (λ n. get_or (set s.published j (Some (value j))) n None) (sym same) ∙ e in
            (omega arith, (ap (λ (o : Option P). of_some o p) (sym q) ∙ ap value (sym same))))
            (λ ne. h.final i p (sym (get_or-set_other s.published j i (Some (value j)) None ne) ∙ e));
      }
    where
      of_some : Option P → P → P
      of_some (Some x) d = x
      of_some None d = d

  -- an open job was drawn
  pub open_below : (s : State P) (w j : ℕ) → Good value s → w < workers s → is_open s w j ≡ true → j < s.next
  open_below s w j h is_worker is =
      let pos = any_times j (of_worker s w) (and_parts _ _ is).0 in
      let one = get_or-le-sum_by (times j) s.claimed w [] is_worker in
      let o = h.once j in
      below_one j s.next (times j (of_worker s w)) (omega arith) (omega arith)

  pub after_good : (needs : ℕ → List ℕ) (s : State P) (e : Event) → Good value s → Good value (after value needs s e)
  unfolding after
  after_good needs s (Claim w) h = by (may_claim s w) refl
    where
      by : (b : Bool) → may_claim s w ≡ b → Good value (cond b (claim s w) s)
      by true e = let t = and_parts _ _ e in claim_good s w h (ltb-true _ _ t.0) (ltb-true _ _ t.1)
      by false e = h
  after_good needs s (Publish w j) h = by (may_publish needs s w j) refl
    where
      by : (b : Bool) → may_publish needs s w j ≡ b → Good value (cond b (publish value s j) s)
      by true e =
          let t = and_parts _ _ e in
          publish_good s j h (open_below s w j h (ltb-true _ _ t.0) (and_parts _ _ t.1).0)
      by false e = h
  after_good needs s (Fetch w j) h = h

  pub run_good : (needs : ℕ → List ℕ) (s : State P) (es : List Event) → Good value s → Good value (run value needs s es)
  unfolding run
  run_good needs s [] h = h
  run_good needs s (e ∷ es) h = run_good needs (after value needs s e) es (after_good needs s e h)

  pub every_good : (needs : ℕ → List ℕ) (n w : ℕ) (es : List Event) → Good value (run value needs (opening n w) es)
  every_good needs n w es = run_good needs (opening n w) es (opening_good n w)
