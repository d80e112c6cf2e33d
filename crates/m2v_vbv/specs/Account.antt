-- An account and its steps. Amounts are in units of 1/1800 bit, times in units of 1/720,000 s.
use Rattle.std.specs.Prelude.{ℕ, ◌+◌, ◌-◌, ◌*◌, ◌/◌, ◌≤◌, ◌<◌, nat_le, if◌then◌else◌, List, [], ◌∷◌, length}
use Rattle.m2v_vbv.specs.Annex.{Start, Removal, time_of, held_endless}

-- what contracts see of an account: its starting numbers, the number of removals, the time since the first one, and
-- the amount that is held
pub record State : Type 0 where
  pub start : Start
  pub removals : ℕ
  pub time : ℕ
  pub held : ℕ

-- when the first picture is removed: the bits up to its start code, and what arrived during its delay
abbrev pub opening : Start → State
opening start = record { start = start; removals = 0; time = 0; held = 1800 * start.s + 8 * start.k * start.delay }

-- a picture of so many bits is removed, and so many units later the next one is due
abbrev pub after : State → ℕ → ℕ → State
after a bits units = record {
  start = a.start;
  removals = a.removals + 1;
  time = a.time + units;
  held = a.held - 1800 * bits + a.start.k * units;
}

-- that removal leaves room for what arrives until the next one
abbrev pub LeavesRoom : State → ℕ → ℕ → Type 0
LeavesRoom a bits units = a.held + a.start.k * units ≤ 1800 * (a.start.buffer_bits + bits)

-- with these zero bits behind a picture the buffer is full but for less than a byte when the next picture is due, so that
-- with a byte less it would run over
abbrev pub IsTight : State → ℕ → ℕ → ℕ → Type 0
IsTight a bits zeros units =
    (1800 * (a.start.buffer_bits - 8) < (after a (bits + zeros) units).held)
    × (1800 * (a.start.buffer_bits + (bits + (zeros - 8))) < a.held + a.start.k * units)

-- the zero bits, in whole bytes, that are sent after a picture of so many bits: what is too much for the buffer when the
-- next picture is due, in units of 14400, a byte each, rounded up
unfoldable pub stuffing_of : State → ℕ → ℕ → ℕ
stuffing_of a bits units =
    8 * ((a.held + a.start.k * units - 1800 * (a.start.buffer_bits + bits) + 14399) / 14400)

-- what arrives from the place of a picture's start code to its removal: what arrived in all that time, less the bits
-- from the first picture start code to this one
abbrev pub arriving : State → ℕ → ℕ
arriving a pos = 8 * a.start.k * a.start.delay + a.start.k * a.time - 1800 * (pos - a.start.s)

-- a removal of more than is held is refused and changes nothing
unfoldable pub step : State → Removal → State
step a r = if nat_le (1800 * r.bits) a.held then after a r.bits r.units else a

-- the account after a list of removals
unfoldable pub run : State → List Removal → State
run a [] = a
run a (r ∷ rs) = run (step a r) rs

-- those of them that aren't refused
unfoldable pub taken : State → List Removal → List Removal
taken a [] = []
taken a (r ∷ rs) = if nat_le (1800 * r.bits) a.held then r ∷ taken (step a r) rs else taken (step a r) rs

-- the account that Annex C's sums give after these removals
unfoldable pub account_of : Start → List Removal → State
account_of start rs =
    record { start = start; removals = length rs; time = time_of rs; held = held_endless start rs }
