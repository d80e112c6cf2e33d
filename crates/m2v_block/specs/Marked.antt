-- Which levels are 0, as bits of a number.
use Rattle.std.specs.Prelude.{ℕ, ◌+◌, ◌≡◌, cond, List, slice_index_or, ℤ, pos}
use Rattle.std.specs.Int.{bit_at}
use Rattle.m2v_block.specs.Texts.{is_zero}

-- bit k tells of the level k places behind one: 1 where it isn't 0
abbrev pub AreMarked : List ℤ → ℕ → ℕ → Type 0
AreMarked levels at marks = (k : ℕ) → bit_at marks k ≡ cond (is_zero (slice_index_or levels (at + k) (pos 0))) 0 1
