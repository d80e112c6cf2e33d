-- The book of the tests meets what is asked of a book.
use Rattle.std.proofs.Common.{◌≡◌, ℕ, zero, suc, ◌+◌, ◌<◌, length, arith}
use Rattle.m2v_core.specs.Book.{cache_after}
use Rattle.m2v_test_trials.specs.Chain.{chain_needs, chain_value}

-- what a cache holds after the need of a job, and the value of the job
pub chain_works : (j c x : ℕ) → x ≡ cache_after (λ _ part _. part) chain_value (chain_needs j) (length (chain_needs j)) c → 0 < j → j + x ≡ chain_value j
unfolding cache_after
chain_works zero c x e lt = absurd (omega arith)
chain_works (suc j) c x e lt = omega arith

pub chain_small : (j : ℕ) → j < 3 → chain_value j < 4
chain_small zero lt = omega arith
chain_small (suc zero) lt = omega arith
chain_small (suc (suc zero)) lt = omega arith
chain_small (suc (suc (suc j))) lt = absurd (omega arith)
