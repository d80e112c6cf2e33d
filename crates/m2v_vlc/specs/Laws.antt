-- What the law of the code tables says.
use Rattle.std.specs.Prelude.{◌≡◌, ℕ, Bool, List, ◌++◌, Some, slice_get}
use Rattle.m2v_bits.specs.Laws.{Decided}
use Rattle.m2v_vlc.specs.declared.values.CodeFault.TheVariants.{Truncated, NoCode}
use Rattle.m2v_vlc.specs.Codes.{Row, code, code_at}

-- A table of prefix codes, by the places of its rows.
pub record IsPrefixTable {V : Type 0} (t : List (Row V)) : Type 0 where
  -- each value has one row
  pub one_row : (i j : ℕ) (r s : Row V) → slice_get t i ≡ Some r → slice_get t j ≡ Some s → r.value ≡ s.value → i ≡ j
  -- no code begins another one, nor is it the same
  pub apart : (i j : ℕ) (r s : Row V) (rest : List Bool) → slice_get t i ≡ Some r → slice_get t j ≡ Some s → code s ≡ code r ++ rest → i ≡ j
  -- of each text one thing is read: the value of a code, or that the text ends inside one, or that none stands there
  pub decided : Decided (code_at Truncated NoCode t)
