-- The frames that are made of a seed.
use Rattle.std.specs.Prelude.{ℕ, zero, suc, ◌+◌, ◌*◌, ◌/◌, ◌%◌, ◌^◌, List, ◌++◌, map}
use Rattle.std.specs.List.{range_with_len}
use Rattle.m2v_plane.specs.Samples.{plane_by}

-- the state behind so many draws: it starts at the seed
unfoldable pub state_behind : ℕ → ℕ → ℕ
state_behind seed zero = seed
state_behind seed (suc n) = (state_behind seed n * 6364136223846793005 + 1442695040888963407) % 2 ^ 64

-- a draw by its number, from 0
abbrev pub draw : ℕ → ℕ → ℕ
draw seed n = state_behind seed (n + 1) / 2 ^ 56

-- the number of the draw of a luma sample: one a sample, in raster order over all frames
abbrev pub number_at : ℕ → ℕ → ℕ → ℕ
number_at t y c = (t * 144 + y) * 176 + c

-- the luma of frame t at line y and column c
abbrev pub luma : ℕ → ℕ → ℕ → ℕ → ℕ
luma seed t y c = (3 * c + 2 * y + 5 * t) % 128 + 32 + draw seed (number_at t y c) / 16

-- its chroma at line y and column c of the chroma planes
abbrev pub cb : ℕ → ℕ → ℕ → ℕ
cb t y c = (c + t) % 64 + 96

abbrev pub cr : ℕ → ℕ → ℕ → ℕ
cr t y c = (y + 2 * t) % 64 + 96

-- frame t as a raw frame of 176 by 144 samples
unfoldable pub frame : ℕ → ℕ → List ℕ
frame seed t = plane_by 144 176 (luma seed t) ++ (plane_by 72 88 (cb t) ++ plane_by 72 88 (cr t))

-- the 48 frames
unfoldable pub generated : ℕ → List (List ℕ)
generated seed = map (frame seed) (range_with_len 0 48)
