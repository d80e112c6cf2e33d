-- Sums over pictures, and bounds of what is shared.
use Rattle.std.proofs.Common.{inl, inr, ◌≡◌, ℕ, zero, suc, ◌+◌, ◌-◌, ◌*◌, ◌/◌, ◌<◌, ◌≤◌, arith, length, ap}
use Rattle.std.specs.List.{range_with_len, sum_by}
use Rattle.std.proofs.Math.Nat.{mul_comm}
use Rattle.std.proofs.lemmas.Bool.{cases_lt}
use Rattle.m2v_rate.specs.Sharing.{Outlook, need, needs, from_on, pool, share}
use Rattle.m2v_rate.proofs.Targets.{sum_more, part_most}

-- a term is part of its sum
pub term_in_sum : (f : ℕ → ℕ) (n k : ℕ) → k < n → f k ≤ sum_by f (range_with_len 0 n)
term_in_sum f zero k lt = absurd (omega arith)
term_in_sum f (suc n) k lt =
    let next : n + 1 ≡ suc n = omega arith in
    let whole : sum_by f (range_with_len 0 (n + 1)) ≡ sum_by f (range_with_len 0 (suc n)) = ap (λ (m : ℕ). sum_by f (range_with_len 0 m)) next in
    let here : 0 + n ≡ n = omega arith in
    let last : f (0 + n) ≡ f n = ap f here in
    elim (cases_lt k n) [
      | inl before ↦ omega (arith, term_in_sum f n k before, sum_more f 0 n, whole, last)
      | inr behind ↦
          let at : k ≡ n = omega (arith, lt, behind) in
          let same : f k ≡ f n = ap f at in
          omega (arith, sum_more f 0 n, whole, last, same)
    ]

-- a part of the pool is at most the pool, where what is wanted is part of all that is wanted
pub share_most : (o : Outlook) (p j : ℕ) → j < length o.kinds → share o p j ≤ pool o p
unfolding share needs from_on
share_most o p j lt =
    let in_all = term_in_sum (need o) (length o.kinds) j lt in
    let e : length o.kinds - 0 ≡ length o.kinds = omega arith in
    let all : sum_by (need o) (range_with_len 0 (length o.kinds - 0)) ≡ sum_by (need o) (range_with_len 0 (length o.kinds)) = ap (λ (m : ℕ). sum_by (need o) (range_with_len 0 m)) e in
    let few : need o j ≤ needs o p = omega (arith, in_all, all) in
    let swapped : need o j * pool o p / needs o p ≡ pool o p * need o j / needs o p = ap (λ (n : ℕ). n / needs o p) (mul_comm (need o j) (pool o p)) in
    omega (arith, swapped, part_most (pool o p) (need o j) (needs o p) (omega arith) few)
