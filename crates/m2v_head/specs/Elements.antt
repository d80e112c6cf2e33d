-- The elements of which headers are made, each as a syntax of bits. A fault stands at the element that it is about.
use Rattle.std.specs.Prelude.{ℕ, zero, suc, Bool, true, false, cond, not, nat_eq, List, [], ◌∷◌, length, map, slice_index, Option, Some, None}
use Rattle.std.specs.List.{range_with_len}
use Rattle.m2v_bits.specs.Syntax.{done, rule, choose, repeated, ◌>>=◌}
use Rattle.m2v_bits.specs.Leaves.{bits_at}
use Rattle.m2v_bits.specs.Elements.{BitSyntax, left_at}
use Rattle.m2v_bits.specs.Elements as elements
use Rattle.m2v_quant.specs.Scans.{zigzag}
use Rattle.m2v_head.specs.declared.fault.HeadFault.{HeadFault}
use Rattle.m2v_head.specs.declared.fault.HeadFault.TheVariants.{NoCode, Truncated, BadMarker, Forbidden}

-- the syntax of a header, or of a part of one
abbrev pub Header : Type 0 → Type 1
Header V = BitSyntax HeadFault V

-- a number of n bits
abbrev pub number_at : ℕ → Header ℕ
number_at n = bits_at Truncated n

-- a flag of one bit
abbrev pub flag_at : Header Bool
flag_at = elements.flag_at Truncated

-- marker_bit, which is 1 (clause 6.2)
unfoldable pub marker_at : Header (Unit {0})
marker_at = do
  at ← left_at
  bit ← number_at 1
  rule (nat_eq bit 1) BadMarker at

-- the id of an extension (table 6-2)
unfoldable pub id_at : ℕ → Header (Unit {0})
id_at own = do
  at ← left_at
  id ← number_at 4
  rule (nat_eq id own) NoCode at

-- a number of n bits that isn't 0; `field` is the element's number in its header
unfoldable pub some_at : ℕ → ℕ → Header ℕ
some_at field n = do
  at ← left_at
  v ← number_at n
  some ← rule (not (nat_eq v 0)) (Forbidden field) at
  done v

-- the eight bits of extra information behind a 1
unfoldable pub information_at : Header (Bool × Unit {0})
information_at = do
  information ← number_at 8
  done (true, tt)

-- a 1 and eight bits, or the 0 behind the last of them
unfoldable pub pair_at : Unit {0} → Header (Bool × Unit {0})
pair_at none = do
  more ← flag_at
  choose more information_at (done (false, tt))

-- extra information: pairs of a 1 and eight bits, and a 0 (clauses 6.2.3 and 6.2.4)
unfoldable pub pairs_at : Header (Unit {0})
pairs_at = repeated length Truncated pair_at tt

-- n numbers of a matrix, none of them 0 (clause 6.3.11)
unfoldable pub numbers_at : ℕ → ℕ → Header (List ℕ)
numbers_at field zero = done []
numbers_at field (suc n) = do
  first ← some_at field 8
  rest ← numbers_at field n
  done (first ∷ rest)

-- where p stands first in a list
unfoldable pub first_index : ℕ → List ℕ → ℕ
first_index p [] = 0
first_index p (q ∷ qs) = cond (nat_eq p q) 0 (suc (first_index p qs))

-- numbers in zigzag order, put in raster order (clause 7.3.1): at each raster place stands the number whose place in
-- the scan is that one
unfoldable pub raster : List ℕ → List ℕ
raster numbers = map (λ p. slice_index numbers (first_index p zigzag)) (range_with_len 0 64)

-- the 64 numbers of a matrix, which stand in zigzag order
unfoldable pub matrix_at : ℕ → Header (Option (List ℕ))
matrix_at field = do
  numbers ← numbers_at field 64
  done (Some (raster numbers))

-- the flag of a matrix, and the matrix where it is set; `field` is the flag's number in its header
unfoldable pub loaded_at : ℕ → Header (Option (List ℕ))
loaded_at field = do
  load ← flag_at
  choose load (matrix_at field) (done None)
