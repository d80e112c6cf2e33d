-- The open jobs of a pass: those that it drew and hasn't published.
use Rattle.std.proofs.Common.{◌≡◌, ℕ, zero, suc, ◌+◌, ◌<◌, ◌≤◌, Bool, true, false, cond, List, [], ◌∷◌, ◌++◌, length, refl, sym, ap, ◌∙◌, subst, arith, eqb, ltb, leb}
use Rattle.std.specs.Prelude.{count_by}
use Rattle.std.proofs.lemmas.Bool.Decides.{nat_tests}
use Rattle.std.proofs.lemmas.Bool.{eq-eqb, ne_eqb, lt-ltb}
use Rattle.std.proofs.lemmas.List.Sums.{sum_by-cons}
use mathlib.Core.Logic.{dite}
use native.Mathlib.Decide.{ℕ_discrete}
use Rattle.m2v_board.specs.Rule.{times, past, one_if}
use Rattle.m2v_board.proofs.Sums.{times_push, past_push}
use Rattle.m2v_board.proofs.Slots.{times_cons, times_append}

below : ℕ → List ℕ → ℕ
below n xs = count_by (λ y. ltb y n) xs

one_below : (y n : ℕ) → one_if (ltb y (n + 1)) ≡ one_if (ltb y n) + one_if (eqb y n)
one_below y n = grind (arith, nat_tests)

below_cons : (n x : ℕ) (xs : List ℕ) → below n (x ∷ xs) ≡ one_if (ltb x n) + below n xs
unfolding below
below_cons n x xs = sum_by-cons (λ y. cond (ltb y n) 1 0) x xs

below_more : (n : ℕ) (xs : List ℕ) → below (n + 1) xs ≡ below n xs + times n xs
unfolding below
below_more n [] = refl
below_more n (x ∷ xs) =
    let a = below_cons (n + 1) x xs in
    let b = below_cons n x xs in
    let c = times_cons n x xs in
    let d = below_more n xs in
    let e = one_below x n in
    omega arith

below_none : (xs : List ℕ) → below 0 xs ≡ 0
unfolding below
below_none [] = refl
below_none (x ∷ xs) = let a = below_cons 0 x xs in let d = below_none xs in let e = none x in omega arith
  where
    none : (x : ℕ) → one_if (ltb x 0) ≡ 0
    none x = grind (arith, nat_tests)

-- numbers that stand once each
module _ (xs : List ℕ) (once : (i : ℕ) → times i xs ≤ 1) where
  below_few : (n : ℕ) → below n xs ≤ n
  below_few zero = let a = below_none xs in omega arith
  below_few (suc n) = let a = below_few n in let b = below_more n xs in let o = once n in
      subst (λ (m : ℕ). below m xs ≤ m) (add n) (omega arith)
    where
      add : (n : ℕ) → n + 1 ≡ suc n
      add n = omega arith

  below_fewer : (r : ℕ) → times r xs ≡ 0 → (n : ℕ) → r < n → below n xs + 1 ≤ n
  below_fewer r gone zero lt = absurd (omega arith)
  below_fewer r gone (suc n) lt = subst (λ (m : ℕ). below m xs + 1 ≤ m) (add n) (dite (ℕ_discrete r n)
      (λ e. let a = below_few n in let b = below_more n xs in let z = ap (λ (m : ℕ). times m xs) e in omega arith)
      (λ ne. let a = below_fewer r gone n (omega arith) in let b = below_more n xs in let o = once n in omega arith))
    where
      add : (n : ℕ) → n + 1 ≡ suc n
      add n = omega arith

all_below : (n : ℕ) (xs : List ℕ) → ((i : ℕ) → 0 < times i xs → i < n) → below n xs ≡ length xs
unfolding below
all_below n [] h = refl
all_below n (x ∷ xs) h =
    let lt : x < n = h x (let c = times_cons x x xs in let o = ap one_if (eq-eqb x x refl) in omega arith) in
    let a = below_cons n x xs in
    let o = ap one_if (lt-ltb x n lt) in
    let d = all_below n xs (λ i p. h i (let c = times_cons i x xs in omega arith)) in
    omega arith

-- there is room for one job more
pub fewer_open : (n r : ℕ) (xs : List ℕ) → r < n → times r xs ≡ 0 → ((i : ℕ) → times i xs ≤ 1) → ((i : ℕ) → 0 < times i xs → i < n) → length xs < n
fewer_open n r xs lt gone once all = let a = below_fewer xs once r gone n lt in let b = all_below n xs all in omega arith

module _ (n i o p d : ℕ) (tally : o + p ≡ cond (ltb i n) d 0) where
  pub open_below : 0 < o → i < n
  open_below pos = grind (arith, nat_tests)

  pub open_more : 0 < o → p < d
  open_more pos = grind (arith, nat_tests)

  pub none_drawn : d ≡ 0 → o ≡ 0
  none_drawn z = grind (arith, nat_tests)

  pub all_published : o ≡ 0 → i < n → p ≡ d
  all_published z lt = grind (arith, nat_tests)

  claimed : (e : ℕ) → (n ≤ i → e ≡ 0) → (e + o) + p ≡ cond (ltb i n) (d + e) 0
  claimed e none = by (ltb i n) refl tally
    where
      by : (b : Bool) → ltb i n ≡ b → o + p ≡ cond b d 0 → (e + o) + p ≡ cond b (d + e) 0
      by true h t = omega arith
      by false h t = let z : e ≡ 0 = none (ge h) in omega arith
        where
          ge : ltb i n ≡ false → n ≤ i
          ge h = grind (arith, nat_tests)

  passed : (e : ℕ) → (i < n → e ≡ 0) → o + p ≡ cond (ltb i n) (d + e) 0
  passed e none = by (ltb i n) refl tally
    where
      lt : ltb i n ≡ true → i < n
      lt h = grind (arith, nat_tests)

      by : (b : Bool) → ltb i n ≡ b → o + p ≡ cond b d 0 → o + p ≡ cond b (d + e) 0
      by true h t = let z : e ≡ 0 = none (lt h) in omega arith
      by false h t = t

  joined : (p' d' : ℕ) → p' ≡ cond (ltb i n) d' 0 → o + (p + p') ≡ cond (ltb i n) (d + d') 0
  joined p' d' t' = by (ltb i n) tally t'
    where
      by : (b : Bool) → o + p ≡ cond b d 0 → p' ≡ cond b d' 0 → o + (p + p') ≡ cond b (d + d') 0
      by true t u = omega arith
      by false t u = omega arith

off : (r i n : ℕ) → r < n → n ≤ i → one_if (eqb r i) ≡ 0
off r i n lt ge = grind (arith, nat_tests)

off_past : (r i n : ℕ) → n ≤ r → i < n → one_if (eqb r i) ≡ 0
off_past r i n ge lt = grind (arith, nat_tests)

-- a job that was claimed is open
pub claim_tally : (n r i : ℕ) (open_ drawn published : List ℕ) → r < n → times i open_ + times i published ≡ cond (ltb i n) (times i drawn) 0
    → times i (r ∷ open_) + times i published ≡ cond (ltb i n) (times i (drawn ++ r ∷ [])) 0
claim_tally n r i open_ drawn published lt t =
    ap (λ (m : ℕ). m + times i published) (times_cons i r open_)
    ∙ claimed n i (times i open_) (times i published) (times i drawn) t (one_if (eqb r i)) (λ ge. off r i n lt ge)
    ∙ ap (λ (m : ℕ). cond (ltb i n) m 0) (sym (times_push i r drawn))

pub past_tally : (n r i : ℕ) (open_ drawn published : List ℕ) → n ≤ r → times i open_ + times i published ≡ cond (ltb i n) (times i drawn) 0
    → times i open_ + times i published ≡ cond (ltb i n) (times i (drawn ++ r ∷ [])) 0
past_tally n r i open_ drawn published ge t =
    passed n i (times i open_) (times i published) (times i drawn) t (one_if (eqb r i)) (λ lt. off_past r i n ge lt)
    ∙ ap (λ (m : ℕ). cond (ltb i n) m 0) (sym (times_push i r drawn))

-- a job that was published isn't open
pub publish_tally : (i j x : ℕ) (open_ rest_ published : List ℕ) → times i (j ∷ rest_) ≡ times i open_ → times i open_ + times i published ≡ x → times i rest_ + times i (published ++ j ∷ []) ≡ x
publish_tally i j x open_ rest_ published same t = let a = times_cons i j rest_ in let b = times_push i j published in omega arith

-- a pass that has nothing open is joined
pub join_tally : (n i : ℕ) (open_ p d p' d' : List ℕ) → times i open_ + times i p ≡ cond (ltb i n) (times i d) 0 → times i p' ≡ cond (ltb i n) (times i d') 0
    → times i open_ + times i (p ++ p') ≡ cond (ltb i n) (times i (d ++ d')) 0
join_tally n i open_ p d p' d' t t' =
    ap (λ (m : ℕ). times i open_ + m) (times_append i p p')
    ∙ joined n i (times i open_) (times i p) (times i d) t (times i p') (times i d') t'
    ∙ ap (λ (m : ℕ). cond (ltb i n) m 0) (sym (times_append i d d'))

-- one job more, of which there is none yet
pub claim_once : (r i : ℕ) (xs : List ℕ) → times r xs ≡ 0 → times i xs ≤ 1 → times i (r ∷ xs) ≤ 1
claim_once r i xs gone once = let c = times_cons i r xs in dite (ℕ_discrete r i)
    (λ e. let z = ap (λ (m : ℕ). times m xs) e in let o = ap one_if (eq-eqb r i e) in omega arith)
    (λ ne. let o = ap one_if (ne_eqb r i ne) in omega arith)

pub rest_once : (i j : ℕ) (xs : List ℕ) → times i (j ∷ xs) ≤ 1 → times i xs ≤ 1
rest_once i j xs once = let c = times_cons i j xs in omega arith

-- a number below n leaves the count of those past n
pub past_same : (n r : ℕ) (xs : List ℕ) → r < n → past n (xs ++ r ∷ []) ≡ past n xs
past_same n r xs lt = past_push n r xs ∙ (let z = small n r lt in omega arith)
  where
    small : (n r : ℕ) → r < n → one_if (leb n r) ≡ 0
    small n r lt = grind (arith, nat_tests)

pub not_past : (b : Bool) (m : ℕ) → b ≡ ltb 0 m → b ≡ false → m ≡ 0
not_past b m e f = grind (arith, nat_tests)
