-- The lines of rules, one after another.
use Rattle.std.proofs.Common.{◌≡◌, ℕ, zero, suc, ◌+◌, ◌-◌, ◌≤◌, ap, ◌∙◌, arith}
use Rattle.m2v_audit.specs.Report.{Report, with_count, with_counts}

pub count_next : (r s new : Report) (rule : ℕ) → 1 ≤ rule → s ≡ with_counts (rule - 1) r → new ≡ with_count s rule
    → new ≡ with_counts (rule + 1 - 1) r
unfolding with_counts
count_next r s new zero least before step = absurd (omega (arith, least))
count_next r s new (suc n) least before step =
    let here : suc n - 1 ≡ n = omega arith in
    let next : suc n + 1 - 1 ≡ suc n = omega arith in
    rw next (step ∙ ap (λ (x : Report). with_count x (suc n)) (rw here at before))
