-- The account of a decoder's buffer that goes on behind a failure, at constant and at variable rate (Annex C). Amounts
-- are in units of 1/1800 bit, times in units of 1/720,000 s.
use Rattle.std.specs.Prelude.{ℕ, ◌+◌, ◌-◌, ◌*◌, ◌/◌, min, max, Bool, true, false, nat_lt, ◌||◌, if◌then◌else◌, List, [], ◌∷◌, map}
use Rattle.std.specs.Int.{div_ceil}
use Rattle.m2v_vbv.specs.Annex.{Start, Removal, removed}
use Rattle.m2v_vbv.specs.declared.removed.Removed.{Removed}

-- how bits come: the rate K in units of 400 bit/s, so that K arrives in a unit of time; the buffer's size in bits; the
-- step in which a decoder waits for a picture (a unit, or two fields where low_delay is 1: C.7); and whether the rate
-- varies, so that bits come only while there is room (C.3.2), or is constant, so that they always come (C.3.1)
pub record Inflow : Type 0 where
  pub k : ℕ
  pub buffer_bits : ℕ
  pub step : ℕ
  pub varies : Bool

-- a picture: its bits, with the headers before it and the zero bytes after it; those of them up to the end of its picture
-- start code; and the time from its removal to the next one
pub record Picture : Type 0 where
  pub bits : ℕ
  pub code_bits : ℕ
  pub units : ℕ

-- a buffer when the next picture is due: the pictures removed so far, the time since the first one was due, and what has
-- come and wasn't taken, in a stream without an end
pub record Buffer : Type 0 where
  pub inflow : Inflow
  pub removals : ℕ
  pub time : ℕ
  pub held : ℕ

-- what the buffer takes
abbrev pub size_of : Inflow → ℕ
size_of c = 1800 * c.buffer_bits

-- when the first picture is due, at constant rate: the bits up to its start code, and what came during its delay (C.3.1)
abbrev pub constant_start : Start → ℕ → Buffer
constant_start start step = record {
  inflow = record { k = start.k; buffer_bits = start.buffer_bits; step = step; varies = false };
  removals = 0;
  time = 0;
  held = 1800 * start.s + 8 * start.k * start.delay;
}

-- when the first picture is due, at variable rate: the buffer is full (C.3.2)
abbrev pub variable_start : ℕ → ℕ → ℕ → Buffer
variable_start k buffer_bits step = record {
  inflow = record { k = k; buffer_bits = buffer_bits; step = step; varies = true };
  removals = 0;
  time = 0;
  held = 1800 * buffer_bits;
}

-- ---- one removal, of a stream with so many bits that weren't taken before it (`rest`)

-- what is there when the picture is due, in a stream without an end: at variable rate no more came than there was room for
abbrev pub reach : Buffer → ℕ
reach b = if b.inflow.varies then min b.held (size_of b.inflow) else b.held

-- what is held when the picture is due: nothing comes after the stream's end
abbrev pub have_of : Buffer → ℕ → ℕ
have_of b rest = min (reach b) (1800 * rest)

-- the buffer runs over: what finds no room comes later
abbrev pub is_over : Buffer → ℕ → Bool
is_over b rest = nat_lt (size_of b.inflow) (have_of b rest)

abbrev pub kept_of : Buffer → ℕ → ℕ
kept_of b rest = if is_over b rest then size_of b.inflow else reach b

-- the picture isn't whole in the buffer when it is due: the decoder waits for it, and shows the one before again (C.7)
abbrev pub is_under : Buffer → ℕ → ℕ → Bool
is_under b bits rest = nat_lt (have_of b rest) (1800 * bits)

-- how long it waits: as many steps as bring what is missing
abbrev pub wait_for : Inflow → ℕ → ℕ
wait_for c missing = c.step * div_ceil missing (c.k * c.step)

abbrev pub wait_of : Buffer → ℕ → ℕ → ℕ
wait_of b bits rest = wait_for b.inflow (1800 * bits - have_of b rest)

-- what is there when it is removed: behind a wait no more than the buffer takes, or than the picture where that is larger
abbrev pub full_of : Buffer → ℕ → ℕ → ℕ
full_of b bits rest =
    if is_under b bits rest
    then min (kept_of b rest + b.inflow.k * wait_of b bits rest) (max (size_of b.inflow) (1800 * bits))
    else kept_of b rest

-- the delay (vbv_delay) that this removal implies, in ticks of 1/90,000 s, rounded down: the time from the end of its
-- start code to its removal
abbrev pub delay_of : Buffer → ℕ → ℕ → ℕ → ℕ
delay_of b bits code_bits rest = (full_of b bits rest - 1800 * code_bits) / (8 * b.inflow.k)

-- what is told of a removal
unfoldable pub told : Buffer → Picture → ℕ → Removed
told b p rest = record {
  time = b.time;
  have = have_of b rest;
  need = 1800 * p.bits;
  is_over = is_over b rest;
  is_under = is_under b p.bits rest;
  wait = wait_of b p.bits rest;
  delay = delay_of b p.bits p.code_bits rest;
}

-- the buffer when the next picture is due; a lack isn't carried on
unfoldable pub next : Buffer → Picture → ℕ → Buffer
next b p rest = record {
  inflow = b.inflow;
  removals = b.removals + 1;
  time = b.time + (wait_of b p.bits rest + p.units);
  held = (full_of b p.bits rest - 1800 * p.bits) + b.inflow.k * p.units;
}

-- ---- one removal after another

abbrev pub removal_of : Picture → Removal
removal_of p = record { bits = p.bits; units = p.units }

abbrev pub removals : List Picture → List Removal
removals ps = map removal_of ps

-- the bits of these pictures, and those that stand behind them
abbrev pub left : List Picture → ℕ → ℕ
left ps behind = removed (removals ps) + behind

-- the buffer behind these pictures, and what is told of each, where so many bits stand behind them all
unfoldable pub run : Buffer → List Picture → ℕ → Buffer
run b [] behind = b
run b (p ∷ ps) behind = run (next b p (left (p ∷ ps) behind)) ps behind

unfoldable pub tells : Buffer → List Picture → ℕ → List Removed
tells b [] behind = []
tells b (p ∷ ps) behind =
    let rest = left (p ∷ ps) behind in told b p rest ∷ tells (next b p rest) ps behind

abbrev pub fails : Removed → Bool
fails t = t.is_under || t.is_over
