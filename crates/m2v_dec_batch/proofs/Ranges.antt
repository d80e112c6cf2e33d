-- Ranges of jobs.
use Rattle.std.proofs.Common.{◌≡◌, ℕ, zero, suc, ◌+◌, ◌-◌, ◌<◌, ◌≤◌, List, ◌∷◌, [], ◌++◌, length, get_or, sym, ap, ◌∙◌, arith, append_assoc}
use Rattle.std.specs.List.{range_with_len}
use Rattle.std.proofs.lemmas.List.{length-append, get_or_append_left, get_or-append-add}
use Rattle.std.proofs.lemmas.List.FromFn.{length-range_with_len, get_or-range_with_len}

-- a number of the first of two ranges
pub at_first : (a m b n i : ℕ) → i < m → get_or (range_with_len a m ++ range_with_len b n) i 0 ≡ a + i
at_first a m b n i lt =
    get_or_append_left (range_with_len a m) (range_with_len b n) 0 i (omega (arith, lt, length-range_with_len a m)) ∙ get_or-range_with_len a m i 0 lt

-- a number of the second
pub at_second : (a m b n i : ℕ) → m ≤ i → i < m + n → get_or (range_with_len a m ++ range_with_len b n) i 0 ≡ b + (i - m)
at_second a m b n i le lt =
    let e : i ≡ length (range_with_len a m) + (i - m) = omega (arith, le, length-range_with_len a m) in
    ap (λ (k : ℕ). get_or (range_with_len a m ++ range_with_len b n) k 0) e
    ∙ get_or-append-add (range_with_len a m) (range_with_len b n) (i - m) 0
    ∙ get_or-range_with_len b n (i - m) 0 (omega (arith, le, lt))

pub range_more : (a n : ℕ) → range_with_len a (suc n) ≡ range_with_len a n ++ (a + n) ∷ []
range_more a zero = let e : a + 0 ≡ a = omega arith in ap (λ (k : ℕ). k ∷ []) (sym e)
range_more a (suc n) =
    let e : a + 1 + n ≡ a + suc n = omega arith in
    ap (λ (l : List ℕ). a ∷ l) (range_more (a + 1) n ∙ ap (λ (k : ℕ). range_with_len (a + 1) n ++ k ∷ []) e)

-- one number more
pub pushed : (xs out : List ℕ) (a i : ℕ) → out ≡ xs ++ range_with_len a i → out ++ (a + i) ∷ [] ≡ xs ++ range_with_len a (i + 1)
pushed xs out a i e =
    ap (λ (l : List ℕ). l ++ (a + i) ∷ []) e
    ∙ append_assoc xs (range_with_len a i) ((a + i) ∷ [])
    ∙ ap (λ (l : List ℕ). xs ++ l) (sym (range_more a i) ∙ ap (range_with_len a) (let e : suc i ≡ i + 1 = omega arith in e))

pub pushed_length : (xs out : List ℕ) (a i : ℕ) → out ≡ xs ++ range_with_len a i → length out ≡ length xs + i
pushed_length xs out a i e = omega (arith, ap (λ (l : List ℕ). length l) e, length-append xs (range_with_len a i), length-range_with_len a i)
