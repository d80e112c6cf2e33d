-- Worked values of the account that goes on behind a failure. A bit comes in each unit of time, and the buffer takes 100.
use Rattle.std.specs.Prelude.{ℕ, ◌*◌, true, false, List, [], ◌∷◌}
use Rattle.m2v_vbv.specs.Buffer.{Buffer, Picture, constant_start, variable_start}
use Rattle.m2v_vbv.specs.declared.removed.Removed.{Removed}

-- 10 bits up to the first start code, and 40 units of delay
abbrev pub constant_buffer : ℕ → Buffer
constant_buffer step = constant_start (record { k = 1800; buffer_bits = 100; s = 10; delay = 5 }) step

abbrev pub variable_buffer : Buffer
variable_buffer = variable_start 1800 100 1

-- a picture of so many bits, 10 of them up to its start code, and so many units before the next one
abbrev pub picture : ℕ → ℕ → Picture
picture bits units = record { bits = bits; code_bits = 10; units = units }

-- what is told of a removal without a failure: when, how many bits are held, how many are taken, and the delay
abbrev pub fine : ℕ → ℕ → ℕ → ℕ → Removed
fine time have need delay = record {
  time = time;
  have = 1800 * have;
  need = 1800 * need;
  is_over = false;
  is_under = false;
  wait = 0;
  delay = delay;
}

-- the same with more than the buffer takes; and with less than is needed, and so long a wait
abbrev pub over : ℕ → ℕ → ℕ → ℕ → Removed
over time have need delay = record (fine time have need delay) { is_over = true }

abbrev pub under : ℕ → ℕ → ℕ → ℕ → ℕ → Removed
under time have need wait delay = record (fine time have need delay) { is_under = true; wait = wait }

-- a stream that never fails: the last picture takes all that is left, though more would have come by then
abbrev pub kept : List Picture
kept = picture 40 30 ∷ picture 30 30 ∷ picture 35 30 ∷ []

abbrev pub kept_told : List Removed
kept_told = fine 0 50 40 5 ∷ fine 30 40 30 3 ∷ fine 60 35 35 3 ∷ []

-- a picture that lacks 12 bits, and one behind it that is in time again
abbrev pub late : List Picture
late = picture 40 30 ∷ picture 52 30 ∷ picture 28 30 ∷ []

abbrev pub late_told : List Removed
late_told = fine 0 50 40 5 ∷ under 30 40 52 12 5 ∷ fine 72 28 28 2 ∷ []

-- the same where the decoder waits by 20 units: more is held then, and what comes in that time stays
abbrev pub waited_told : List Removed
waited_told = fine 0 50 40 5 ∷ under 30 40 52 20 6 ∷ fine 80 28 28 3 ∷ []

-- 10 bits too many come before the second picture, which find room behind it
abbrev pub filled : List Picture
filled = picture 40 100 ∷ picture 20 10 ∷ picture 90 30 ∷ []

abbrev pub filled_told : List Removed
filled_told = fine 0 50 40 5 ∷ over 100 110 20 11 ∷ fine 110 90 90 10 ∷ []

-- at variable rate they wait for room: the buffer is full at first, and again before the last picture
abbrev pub roomy : List Picture
roomy = picture 40 30 ∷ picture 20 60 ∷ picture 100 30 ∷ []

abbrev pub roomy_told : List Removed
roomy_told = fine 0 100 40 11 ∷ fine 30 90 20 10 ∷ fine 90 100 100 11 ∷ []

-- and a picture that the buffer doesn't take is late by what it lacks
abbrev pub large : List Picture
large = picture 40 60 ∷ picture 120 30 ∷ picture 20 30 ∷ []

abbrev pub large_told : List Removed
large_told = fine 0 100 40 11 ∷ under 60 100 120 20 13 ∷ fine 110 20 20 2 ∷ []
