-- Bytes in which no two zeros stand together.
use Rattle.std.proofs.Common.{◌≡◌, ◌⊎◌, inl, inr, ℕ, ◌+◌, ◌-◌, ◌≤◌, ◌<◌, List, get_or, take, drop, ap, ◌∙◌, arith}
use Rattle.std.proofs.lemmas.Bool.{cases_lt}
use Rattle.std.proofs.lemmas.List.{get_or-take, get_or-drop}
use Rattle.m2v_bits.specs.Bits.{HasNoPair, IsStartCode}

-- 16 bytes more, with the one behind them
pub pair_more : (bytes : List ℕ) (n : ℕ) → HasNoPair n bytes → HasNoPair 16 (take ((n + 17) - n) (drop n bytes)) → HasNoPair (n + 16) bytes
pair_more bytes n some more k lt = by_place (cases_lt k n)
  where
    at : (j : ℕ) → j < 17 → get_or (take ((n + 17) - n) (drop n bytes)) j 0 ≡ get_or bytes (n + j) 0
    at j lt = get_or-take ((n + 17) - n) (drop n bytes) j 0 (omega (arith, lt)) ∙ get_or-drop n bytes j 0

    by_place : (k < n) ⊎ (n ≤ k) → 0 < get_or bytes k 0 + get_or bytes (k + 1) 0
    by_place (inl below) = some k below
    by_place (inr above) =
        let e : n + (k - n) ≡ k = omega (arith, above) in
        let next : n + (k - n + 1) ≡ k + 1 = omega (arith, above) in
        let first = at (k - n) (omega (arith, lt, above)) ∙ ap (λ i. get_or bytes i 0) e in
        let second = at (k - n + 1) (omega (arith, lt, above)) ∙ ap (λ i. get_or bytes i 0) next in
        omega (arith, more (k - n) (omega (arith, lt, above)), first, second)

-- no start code begins where no pair of zeros does
pub pair_first : (bytes : List ℕ) (from n : ℕ) → HasNoPair n (drop from bytes) → (k : ℕ) → from ≤ k → k < from + n → IsStartCode bytes k → ⊥
pair_first bytes from n none k le lt code =
    let e : from + (k - from) ≡ k = omega (arith, le) in
    let next : from + (k - from + 1) ≡ k + 1 = omega (arith, le) in
    let first = get_or-drop from bytes (k - from) 0 ∙ ap (λ i. get_or bytes i 0) e in
    let second = get_or-drop from bytes (k - from + 1) 0 ∙ ap (λ i. get_or bytes i 0) next in
    omega (arith, none (k - from) (omega (arith, le, lt)), first, second, code.1, code.2)
