-- Worked values of the account as it is told, of the stream that never fails (`kept` of `m2v_vbv.specs.BufferWorked`): when
-- its first picture is due 50 bits are held, so its removal is told once 50 bits are known.
use Rattle.std.specs.Prelude.{ℕ, List, [], ◌∷◌}
use Rattle.m2v_vbv.specs.BufferWorked.{constant_buffer, fine}
use Rattle.m2v_audit.specs.declared.account.Due.{Due}
use Rattle.m2v_audit.specs.Account.{Told, Account, opened, with_picture, with_more, Event, picture, more}

-- a picture of so many bits, 10 of them up to its start code
abbrev pub due : ℕ → ℕ → ℕ → Due
due number bit bits = record {
  number = number;
  bit = bit;
  bits = bits;
  code_bits = 10;
  units = 30;
  delay = 5;
}

-- the first picture comes in two parts, of the second one 9 bits
abbrev pub early : Account
early = with_picture (with_more (opened (constant_buffer 1) (due 0 0 10)) 30) (due 1 40 9)

abbrev pub first_told : Told
first_told = (due 0 0 40, fine 0 50 40 5)

-- all bits, and what is told
abbrev pub pieces : List Event
pieces = more 30 ∷ picture (due 1 40 9) ∷ more 1 ∷ more 20 ∷ picture (due 2 70 35) ∷ []

abbrev pub all_kept : List Told
all_kept = first_told ∷ (due 1 40 30, fine 30 40 30 3) ∷ (due 2 70 35, fine 60 35 35 3) ∷ []
