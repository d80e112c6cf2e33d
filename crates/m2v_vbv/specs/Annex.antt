-- The buffer's account in the terms of Annex C, at constant bit rate. Amounts are in units of 1/1800 bit. A list of
-- removals stands for the pictures before one, in decoding order; so `Held start total (take n pictures)` is what is held
-- when picture n is removed.
use Rattle.std.specs.Prelude.{ℕ, ◌≡◌, ◌+◌, ◌-◌, ◌*◌, ◌≤◌, List, ◌∷◌, ◌++◌, sum_by, min}

-- the rate K in units of 400 bit/s, the buffer's size B in bits, the bits S up to and with the first picture start code,
-- and the delay T of the first picture in ticks of 1/90,000 s
pub record Start : Type 0 where
  pub k : ℕ
  pub buffer_bits : ℕ
  pub s : ℕ
  pub delay : ℕ

-- the removal of a picture: its bits, with the headers before it and the zero bytes after it, and the time to the next
-- removal in units of 1/720,000 s
pub record Removal : Type 0 where
  pub bits : ℕ
  pub units : ℕ

-- d(0) + d(1) + ..: the bits of these pictures
abbrev pub removed : List Removal → ℕ
removed rs = sum_by (λ (r : Removal). r.bits) rs

-- t(n) - t(0): the time from the first removal to the one that comes after these
abbrev pub time_of : List Removal → ℕ
time_of rs = sum_by (λ (r : Removal). r.units) rs

-- what has arrived then, in a stream without an end: 1800 S + 8 K T + K (t(n) - t(0))
abbrev pub arrived : Start → List Removal → ℕ
arrived start rs = 1800 * start.s + 8 * start.k * start.delay + start.k * time_of rs

-- what is held then, in a stream without an end: the sum before the cut at the whole length
abbrev pub held_endless : Start → List Removal → ℕ
held_endless start rs = arrived start rs - 1800 * removed rs

-- what is held then, in a stream of so many bits: nothing arrives after its end
abbrev pub Held : Start → ℕ → List Removal → ℕ
Held start total rs = min (arrived start rs) (1800 * total) - 1800 * removed rs

-- each picture was whole in the buffer when it was removed
abbrev pub NeverUnder : Start → List Removal → Type 0
NeverUnder start rs =
    (before : List Removal) (r : Removal) (later : List Removal) → rs ≡ before ++ r ∷ later
    → 1800 * r.bits ≤ held_endless start before

-- each picture is whole in the buffer when it is removed, and the buffer takes what is held then
abbrev pub Safe : Start → List Removal → Type 0
Safe start rs =
    (before : List Removal) (r : Removal) (later : List Removal) → rs ≡ before ++ r ∷ later
    → (1800 * r.bits ≤ Held start (removed rs) before) × (Held start (removed rs) before ≤ 1800 * start.buffer_bits)
