-- Which candidate leads behind others: the first of least score, also where those that come first are looked at last.
use Rattle.std.proofs.Common.{◌≡◌, ℕ, ◌+◌, ◌<◌, ◌≤◌, Bool, true, false, ◌&&◌, ◌⊎◌, inl, inr, List, [], ◌∷◌, ◌++◌, filter, refl, ap, sym, ◌∙◌, subst, arith}
use Rattle.std.specs.Prelude.{nat_lt, cond, if◌then◌else◌}
use Rattle.std.proofs.lemmas.Bool.{le-ltb, lt-ltb, cases_lt}
use Rattle.m2v_search.specs.Least.{least, better}
use Rattle.m2v_choose.specs.Decisions.{Decision, Candidate}
use Rattle.m2v_choose.specs.Choice.{score, fits}
use Rattle.m2v_choose.specs.Trials.{Leader, led}

pub yes_is : {A : Type 0} (b : Bool) (x y : A) → b ≡ true → (if b then x else y) ≡ x
yes_is true x y e = refl
yes_is false x y e = absurd cc

pub no_is : {A : Type 0} (b : Bool) (x y : A) → b ≡ false → (if b then x else y) ≡ y
no_is true x y e = absurd cc
no_is false x y e = refl

-- a candidate and a limit
abbrev pub at : Candidate → ℕ → Leader
at x n = record { candidate = x; below = n }

module _ (d : Decision) where
  -- one candidate more, by whether it fits
  step : Bool → Leader → Candidate → Leader
  step fit a x = if fit && nat_lt (score d x) a.below then at x (score d x) else a

  step_taken : (a : Leader) (x : Candidate) → score d x < a.below → step true a x ≡ at x (score d x)
  unfolding step
  step_taken a x lt = yes_is (nat_lt (score d x) a.below) (at x (score d x)) a (lt-ltb (score d x) a.below lt)

  step_left : (a : Leader) (x : Candidate) → a.below ≤ score d x → step true a x ≡ a
  unfolding step
  step_left a x le = no_is (nat_lt (score d x) a.below) (at x (score d x)) a (le-ltb (score d x) a.below le)

  pub led_on : (a : Leader) (xs ys : List Candidate) → led d a (xs ++ ys) ≡ led d (led d a xs) ys
  unfolding led step
  led_on a [] ys = refl
  led_on a (x ∷ xs) ys = led_on (step (fits d x) a x) xs ys

  step_low : (fit : Bool) (a : Leader) (x : Candidate) → (step fit a x).below ≤ a.below
  unfolding step
  step_low false a x = let same : a.below ≤ a.below = omega arith in same
  step_low true a x = elim (cases_lt (score d x) a.below) [
    | inl lt ↦ let h : (step true a x).below ≡ score d x = ap (λ (l : Leader). l.below) (step_taken a x lt) in omega (arith, h, lt)
    | inr ge ↦ let h : (step true a x).below ≡ a.below = ap (λ (l : Leader). l.below) (step_left a x ge) in omega (arith, h)
  ]

  led_low : (a : Leader) (xs : List Candidate) → (led d a xs).below ≤ a.below
  unfolding led step
  led_low a [] = let same : a.below ≤ a.below = omega arith in same
  led_low a (x ∷ xs) = omega (arith, led_low (step (fits d x) a x) xs, step_low (fits d x) a x)

  -- by a lower limit the same one leads, if it scores below it
  abbrev Cut : Candidate → ℕ → Leader → List Candidate → Type 0
  Cut c n a xs = led d (at c n) xs ≡ (if nat_lt (led d a xs).below n then led d a xs else at c n)

  cut_more : (c : Candidate) (n : ℕ) (a : Leader) (x : Candidate) (xs : List Candidate) → n ≤ a.below → ((b : Leader) → n ≤ b.below → Cut c n b xs) → (fit : Bool)
      → led d (step fit (at c n) x) xs ≡ (if nat_lt (led d (step fit a x) xs).below n then led d (step fit a x) xs else at c n)
  unfolding step
  cut_more c n a x xs le rest false = rest a le
  cut_more c n a x xs le rest true =
      let goal = λ (l m : Leader). led d l xs ≡ (if nat_lt (led d m xs).below n then led d m xs else at c n) in
      elim (cases_lt (score d x) n) [
        | inl low ↦
            let first = step_taken (at c n) x low in
            let second = step_taken a x (omega (arith, low, le)) in
            let new = at x (score d x) in
            let lower : nat_lt (led d new xs).below n ≡ true = lt-ltb (led d new xs).below n (omega (arith, led_low new xs, low)) in
            subst (λ (l : Leader). goal l (step true a x)) (sym first)
            (subst (λ (m : Leader). goal new m) (sym second) (sym (yes_is (nat_lt (led d new xs).below n) (led d new xs) (at c n) lower)))
        | inr high ↦
            let first = step_left (at c n) x high in
            subst (λ (l : Leader). goal l (step true a x)) (sym first)
            (elim (cases_lt (score d x) a.below) [
              | inl lt ↦ subst (λ (m : Leader). goal (at c n) m) (sym (step_taken a x lt)) (rest (at x (score d x)) high)
              | inr ge ↦ subst (λ (m : Leader). goal (at c n) m) (sym (step_left a x ge)) (rest a le)
            ])
      ]

  cut : (c : Candidate) (n : ℕ) (a : Leader) (xs : List Candidate) → n ≤ a.below → Cut c n a xs
  unfolding led step
  cut c n a [] le = sym (no_is (nat_lt a.below n) a (at c n) (le-ltb a.below n le))
  cut c n a (x ∷ xs) le = cut_more c n a x xs le (λ b h. cut c n b xs h) (fits d x)

  -- none is taken
  none_taken : (a : Leader) (xs : List Candidate) → a.below ≤ (led d a xs).below → led d a xs ≡ a
  none_taken a xs le =
      cut a.candidate a.below a xs (let same : a.below ≤ a.below = omega arith in same)
      ∙ no_is (nat_lt (led d a xs).below a.below) (led d a xs) a (le-ltb (led d a xs).below a.below le)

  -- candidates that come first may be looked at last, only as far as they score no more than the others
  swapped : (a p i : Leader) (xs ys : List Candidate) (limit : ℕ) → p ≡ led d a ys → i ≡ led d (at a.candidate limit) xs
      → limit ≤ a.below → limit ≤ p.below + 1 → (limit ≡ a.below) ⊎ (limit ≡ p.below + 1)
      → (if nat_lt i.below limit then i else p).candidate ≡ (led d a (xs ++ ys)).candidate
  swapped a p i xs ys limit is_p is_i most near one =
      let r = led d a xs in
      let low = led_low a xs in
      let candidate = λ (l : Leader). l.candidate in
      let behind : led d r ys ≡ (if nat_lt p.below r.below then p else r) = cut r.candidate r.below a ys low ∙ ap (λ (l : Leader). if nat_lt l.below r.below then l else r) (sym is_p) in
      let before : i ≡ (if nat_lt r.below limit then r else at a.candidate limit) = is_i ∙ cut a.candidate limit a xs most in
      let whole : (led d r ys).candidate ≡ (led d a (xs ++ ys)).candidate = ap candidate (sym (led_on a xs ys)) in
      let pick = λ (l : Leader). if nat_lt l.below limit then l else p in
      elim (cases_lt r.below limit) [
        | inl lt ↦
            let same = before ∙ yes_is (nat_lt r.below limit) r (at a.candidate limit) (lt-ltb r.below limit lt) in
            ap candidate (ap pick same ∙ yes_is (nat_lt r.below limit) r p (lt-ltb r.below limit lt)
            ∙ sym (behind ∙ no_is (nat_lt p.below r.below) p r (le-ltb p.below r.below (omega (arith, lt, near)))))
            ∙ whole
        | inr ge ↦
            let same = before ∙ no_is (nat_lt r.below limit) r (at a.candidate limit) (le-ltb r.below limit ge) in
            let none : nat_lt limit limit ≡ false = le-ltb limit limit (let le : limit ≤ limit = omega arith in le) in
            let other : pick i ≡ p = ap pick same ∙ no_is (nat_lt limit limit) (at a.candidate limit) p none in
            elim (cases_lt p.below r.below) [
              | inl less ↦ ap candidate (other ∙ sym (behind ∙ yes_is (nat_lt p.below r.below) p r (lt-ltb p.below r.below less))) ∙ whole
              | inr more ↦
                  elim one [
                    | inl all ↦
                        let p_low : (led d a ys).below ≡ p.below = ap (λ (l : Leader). l.below) (sym is_p) in
                        let p_is : p ≡ a = is_p ∙ none_taken a ys (omega (arith, p_low, more, ge, all)) in
                        let r_is : r ≡ a = none_taken a xs (omega (arith, ge, all)) in
                        ap candidate (other ∙ p_is ∙ sym r_is ∙ sym (behind ∙ no_is (nat_lt p.below r.below) p r (le-ltb p.below r.below more))) ∙ whole
                    | inr over ↦ absurd (omega (arith, over, ge, more))
                  ]
            ]
      ]

  -- so they may be looked at from the one that leads by then
  pub swapped_on : (a p i : Leader) (xs ys : List Candidate) (limit : ℕ) → p ≡ led d a ys → i ≡ led d (at p.candidate limit) xs
      → limit ≤ a.below → limit ≤ p.below + 1 → (limit ≡ a.below) ⊎ (limit ≡ p.below + 1)
      → i.candidate ≡ (led d a (xs ++ ys)).candidate
  swapped_on a p i xs ys limit is_p is_i most near one =
      let r = led d a xs in
      let other = led d (at a.candidate limit) xs in
      let candidate = λ (l : Leader). l.candidate in
      let pick = λ (l : Leader). if nat_lt l.below limit then l else p in
      let mine : i ≡ (if nat_lt r.below limit then r else at p.candidate limit) = is_i ∙ cut p.candidate limit a xs most in
      let theirs : other ≡ (if nat_lt r.below limit then r else at a.candidate limit) = cut a.candidate limit a xs most in
      elim (cases_lt r.below limit) [
        | inl lt ↦
            let e = lt-ltb r.below limit lt in
            ap candidate (mine ∙ yes_is (nat_lt r.below limit) r (at p.candidate limit) e
            ∙ sym (ap pick (theirs ∙ yes_is (nat_lt r.below limit) r (at a.candidate limit) e) ∙ yes_is (nat_lt r.below limit) r p e))
        | inr ge ↦
            let e = le-ltb r.below limit ge in
            let none : nat_lt limit limit ≡ false = le-ltb limit limit (let le : limit ≤ limit = omega arith in le) in
            ap candidate (mine ∙ no_is (nat_lt r.below limit) r (at p.candidate limit) e)
            ∙ sym (ap candidate (ap pick (theirs ∙ no_is (nat_lt r.below limit) r (at a.candidate limit) e) ∙ no_is (nat_lt limit limit) (at a.candidate limit) p none))
      ]
      ∙ swapped a p other xs ys limit is_p refl most near one

  -- who leads is the first of least score
  abbrev pub LeastBehind : Leader → List Candidate → Type 0
  LeastBehind a xs = ((led d a xs).candidate ≡ least (score d) a.candidate (filter (fits d) xs)) × ((led d a xs).below ≡ score d (led d a xs).candidate)

  least_more : (a : Leader) (x : Candidate) (xs : List Candidate) → a.below ≡ score d a.candidate → ((b : Leader) → b.below ≡ score d b.candidate → LeastBehind b xs) → (fit : Bool)
      → ((led d (step fit a x) xs).candidate ≡ least (score d) a.candidate (cond fit (x ∷ filter (fits d) xs) (filter (fits d) xs)))
      × ((led d (step fit a x) xs).below ≡ score d (led d (step fit a x) xs).candidate)
  unfolding step least better
  least_more a x xs e rest false = rest a e
  least_more a x xs e rest true =
      let ys = filter (fits d) xs in
      let goal = λ (l : Leader) (y : Candidate). ((led d l xs).candidate ≡ least (score d) y ys) × ((led d l xs).below ≡ score d (led d l xs).candidate) in
      elim (cases_lt (score d x) a.below) [
        | inl lt ↦
            let second : better (score d) a.candidate x ≡ x = yes_is (nat_lt (score d x) (score d a.candidate)) x a.candidate (lt-ltb (score d x) (score d a.candidate) (omega (arith, lt, e))) in
            subst (λ (l : Leader). goal l (better (score d) a.candidate x)) (sym (step_taken a x lt))
            (subst (λ (y : Candidate). goal (at x (score d x)) y) (sym second) (rest (at x (score d x)) refl))
        | inr ge ↦
            let second : better (score d) a.candidate x ≡ a.candidate = no_is (nat_lt (score d x) (score d a.candidate)) x a.candidate (le-ltb (score d x) (score d a.candidate) (omega (arith, ge, e))) in
            subst (λ (l : Leader). goal l (better (score d) a.candidate x)) (sym (step_left a x ge))
            (subst (λ (y : Candidate). goal a y) (sym second) (rest a e))
      ]

  pub led_least : (a : Leader) (xs : List Candidate) → a.below ≡ score d a.candidate → LeastBehind a xs
  unfolding led step least
  led_least a [] e = (refl, e)
  led_least a (x ∷ xs) e = least_more a x xs e (λ b h. led_least b xs h) (fits d x)
