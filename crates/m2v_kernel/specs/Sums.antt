-- Sums of absolute differences, and means. `zip2 f xs ys` is the list of f x y over both lists, place by place.
use Rattle.std.specs.Prelude.{ℕ, zero, suc, ◌+◌, ◌-◌, ◌/◌, ◌<◌, List, [], ◌++◌, sum, take, drop, slice_index}
use Rattle.std.specs.Simd.Lanes.{zip2}

-- how far two samples lie apart
abbrev pub apart : ℕ → ℕ → ℕ
apart a b = (a - b) + (b - a)

-- the sum of the absolute differences of two lists of samples
abbrev pub sad : List ℕ → List ℕ → ℕ
sad xs ys = sum (zip2 apart xs ys)

-- the mean of two samples, rounded up
abbrev pub mean : ℕ → ℕ → ℕ
mean a b = (a + b + 1) / 2

-- so many lines of 16 samples in a window, the first of them at `place`, each `stride` behind the one before
unfoldable pub lines_at : ℕ → List ℕ → ℕ → ℕ → List ℕ
lines_at zero window place stride = []
lines_at (suc n) window place stride = take 16 (drop place window) ++ lines_at n window (place + stride) stride

-- the sum of two samples side by side, and the mean of two such pairs, rounded up
abbrev pub pair : ℕ → ℕ → ℕ
pair a b = a + b

abbrev pub quarter : ℕ → ℕ → ℕ
quarter s t = (s + t + 2) / 4

-- the means of lines of a window and of as many that stand `behind` samples behind them
unfoldable pub means_at : ℕ → List ℕ → ℕ → ℕ → ℕ → List ℕ
means_at n window place behind stride = zip2 mean (lines_at n window place stride) (lines_at n window (place + behind) stride)

-- the sums of the samples of lines with those to their right
abbrev pub pairs_at : ℕ → List ℕ → ℕ → ℕ → List ℕ
pairs_at n window place stride = zip2 pair (lines_at n window place stride) (lines_at n window (place + 1) stride)

-- the means of four samples each of a window, two side by side and the two below them
unfoldable pub quarters_at : ℕ → List ℕ → ℕ → ℕ → List ℕ
quarters_at n window place stride = zip2 quarter (pairs_at n window place stride) (pairs_at n window (place + stride) stride)

-- numbers of eight bits
pub record AreBytes (xs : List ℕ) : Type 0 where
  pub small : (i : ℕ) → slice_index xs i < 256
