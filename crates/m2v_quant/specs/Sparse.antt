-- The levels of a block of which those that are 0 aren't kept.
use Rattle.std.specs.Prelude.{ℕ, zero, suc, ◌<◌, ◌≤◌, ◌≡◌, ◌≢◌, List, ◌∷◌, replicate, slice_index_or, slice_set, ℤ, pos}
use Rattle.m2v_quant.specs.declared.sparse.LevelAt.{LevelAt}
use Rattle.m2v_quant.specs.Kinds.{IsLevel}

-- number n of those that are kept
abbrev pub kept_at : List LevelAt → ℕ → LevelAt
kept_at later n = slice_index_or later n (record { position = 0; level = pos 0 })

-- the 64 levels in scan order: the first, and the first n that are kept behind it, each at its position
unfoldable pub spread : ℤ → List LevelAt → ℕ → List ℤ
spread first later zero = first ∷ replicate 63 (pos 0)
spread first later (suc n) = slice_set (spread first later n) (kept_at later n).position (kept_at later n).level

-- levels are 0 from position n on
pub record IsClearFrom (n : ℕ) (levels : List ℤ) : Type 0 where
  pub zero : (i : ℕ) → n ≤ i → slice_index_or levels i (pos 0) ≡ pos 0

-- number j of those that are kept: its position is behind the first j, and it stands where those before left a 0
pub record IsKept (first : ℤ) (later : List LevelAt) (j : ℕ) : Type 0 where
  pub rises : j < (kept_at later j).position
  pub inside : (kept_at later j).position < 64
  pub free : slice_index_or (spread first later j) (kept_at later j).position (pos 0) ≡ pos 0
  pub level : IsLevel (kept_at later j).level
  pub some : (kept_at later j).level ≢ pos 0

-- the first level, and so many that are kept behind it
pub record AreKept (first : ℤ) (later : List LevelAt) (count : ℕ) : Type 0 where
  pub first_is : IsLevel first
  pub each : (j : ℕ) → j < count → IsKept first later j
