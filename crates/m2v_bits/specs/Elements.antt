-- The elements of which every syntax of bits is made, whatever its faults are.
use Rattle.std.specs.Prelude.{ℕ, Bool, nat_eq, List, length}
use Rattle.m2v_bits.specs.Syntax.{Syntax, done, here, ◌>>=◌}
use Rattle.m2v_bits.specs.Leaves.{bits_at}

-- a syntax of bits, whose faults are of the kinds K
abbrev pub BitSyntax : Type 0 → Type 0 → Type 1
BitSyntax K V = Syntax (List Bool) K V

-- how many bits are left: what tells the place of an element
abbrev pub left_at : {K : Type 0} → BitSyntax K ℕ
left_at = here length

-- a flag of one bit; `cut` where the text ends before it
unfoldable pub flag_at : {K : Type 0} → K → BitSyntax K Bool
flag_at cut = do
  bit ← bits_at cut 1
  done (nat_eq bit 1)
