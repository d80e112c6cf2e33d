-- The numbers of calls that fail, and how many of them are still to come.
use Rattle.std.proofs.Common.{◌≡◌, ℕ, ◌+◌, ◌-◌, ◌^◌, min, ◌<◌, ◌≤◌, Bool, true, false, cond, ◌||◌, List, [], ◌∷◌, get_or, refl, ◌∙◌, ap, arith, add-one, Fits, w64, nat_lt, ◌==◌}
use Rattle.std.specs.List.{count_by, list_any}
use Rattle.std.proofs.lemmas.List.Sums.{sum_by-cons}
use Rattle.m2v_port.specs.Memory.{Calls, after_call}
use Rattle.std.proofs.lemmas.Bool.Decides.{nat_tests}

-- no list of 64 bit numbers has a greater one
pub none_stands : (xs : List ℕ) (made : ℕ) → 2 ^ 64 ≤ made + 1 → ((i : ℕ) → Fits w64 (get_or xs i 0)) → list_any (λ number. number == made + 1) xs ≡ false
none_stands [] made past fit = refl
none_stands (x ∷ xs) made past fit =
    let rest = none_stands xs made past (λ i. rw add-one at (fit (i + 1))) in
    let here : x < 2 ^ 64 = omega (arith, fit 0) in
    let other : (x == made + 1) ≡ false = grind (arith, nat_tests) in
    ap (λ b. b || list_any (λ number. number == made + 1) xs) other ∙ rest

-- how many are still to come after so many calls
abbrev pub to_come : ℕ → List ℕ → ℕ
to_come made xs = count_by (λ number. nat_lt made number) xs

to_come-cons : (made x : ℕ) (xs : List ℕ) → to_come made (x ∷ xs) ≡ cond (nat_lt made x) 1 0 + to_come made xs
to_come-cons made x xs = sum_by-cons (λ number. cond (nat_lt made number) 1 0) x xs

-- after more calls there are no more
pub fewer : (made later : ℕ) (xs : List ℕ) → made ≤ later → to_come later xs ≤ to_come made xs
fewer made later [] le = omega arith
fewer made later (x ∷ xs) le =
    let here : cond (nat_lt later x) 1 0 ≤ cond (nat_lt made x) 1 0 = grind (arith, nat_tests) in
    omega (arith, fewer made later xs le, here, to_come-cons made x xs, to_come-cons later x xs)

-- after a call that fails there is one less at least
pub one_fewer : (made : ℕ) (xs : List ℕ) → list_any (λ number. number == made + 1) xs ≡ true → to_come (made + 1) xs + 1 ≤ to_come made xs
one_fewer made [] stands = absurd (cc)
one_fewer made (x ∷ xs) stands = first_or_later (x == made + 1) refl stands (one_fewer made xs)
  where
    first_or_later : (b : Bool) → (x == made + 1) ≡ b → (b || list_any (λ number. number == made + 1) xs) ≡ true
        → (list_any (λ number. number == made + 1) xs ≡ true → to_come (made + 1) xs + 1 ≤ to_come made xs) → to_come (made + 1) (x ∷ xs) + 1 ≤ to_come made (x ∷ xs)
    first_or_later true is any later =
        let is_next : x ≡ made + 1 = grind (arith, nat_tests) in
        let here : cond (nat_lt (made + 1) x) 1 0 + 1 ≤ cond (nat_lt made x) 1 0 = grind (arith, nat_tests) in
        omega (arith, here, fewer made (made + 1) xs (omega arith), to_come-cons made x xs, to_come-cons (made + 1) x xs)
    first_or_later false is any later =
        let here : cond (nat_lt (made + 1) x) 1 0 ≤ cond (nat_lt made x) 1 0 = grind (arith, nat_tests) in
        omega (arith, here, later any, to_come-cons made x xs, to_come-cons (made + 1) x xs)

-- a call that fails, of those whose numbers fit
pub after_failing : (fail : List ℕ) (made failed later : ℕ) (room : ℕ) → later ≡ min (made + 1) (2 ^ 64 - 1) → made + 1 < 2 ^ 64 → list_any (λ number. number == made + 1) fail ≡ true
    → failed + to_come made fail ≤ room → failed + 1 + to_come later fail ≤ room
after_failing fail made failed later room is fits stands bound =
    let next : later ≡ made + 1 = omega arith in
    rw next (omega (arith, one_fewer made fail stands))

-- a call that doesn't fail
pub after_passing : (fail : List ℕ) (made failed later : ℕ) → later ≡ min (made + 1) (2 ^ 64 - 1) → list_any (λ number. number == made + 1) fail ≡ false
    → let calls : Calls = record { fail = fail; made = later; failed = failed } in calls ≡ after_call (record { fail = fail; made = made; failed = failed })
after_passing fail made failed later is passes = rw (passes, is) refl
