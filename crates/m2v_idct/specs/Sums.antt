-- Sums of whole numbers.
use Rattle.std.specs.Prelude.{ℕ, zero, suc, ℤ, pos, ◌+ℤ◌}

-- g 0 + g 1 + .. + g (n - 1)
unfoldable pub sum_below : ℕ → (ℕ → ℤ) → ℤ
sum_below zero g = pos 0
sum_below (suc n) g = sum_below n g +ℤ g n
