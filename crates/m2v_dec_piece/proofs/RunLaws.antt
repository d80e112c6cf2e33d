-- Bytes in which no two zeros stand together, by the first of them.
use Rattle.std.proofs.Common.{◌≡◌, ℕ, suc, ◌+◌, ◌<◌, List, [], ◌∷◌, get_or, ap, arith}
use Rattle.m2v_dec_piece.specs.Cutting.{IsRun}

pub run_tail : (b : ℕ) (bs : List ℕ) → IsRun (b ∷ bs) → IsRun bs
run_tail b bs run k lt =
    let first : k + 1 ≡ suc k = omega arith in
    let second : k + 1 + 1 ≡ suc (k + 1) = omega arith in
    let from = run (k + 1) (omega (arith, lt)) in
    omega (arith, from, ap (λ i. get_or (b ∷ bs) i 0) first, ap (λ i. get_or (b ∷ bs) i 0) second)

pub run_last : (b : ℕ) → IsRun (b ∷ []) → 0 < b
run_last b run = omega (arith, run 0 (omega arith))

pub run_pair : (bs : List ℕ) → IsRun (0 ∷ 0 ∷ bs) → ⊥
run_pair bs run = absurd (omega (arith, run 0 (omega arith)))
