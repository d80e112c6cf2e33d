-- Pairs and the end of a block, told by one look at so many bits.
use Rattle.std.specs.Prelude.{◌≡◌, ℕ, ◌≤◌, Bool, List, Ok, length, drop, ℤ, pos}
use Rattle.m2v_bits.specs.Bits.{number, ahead}
use Rattle.m2v_vlc.specs.declared.values.Coefficient.{Coefficient}
use Rattle.m2v_vlc.specs.declared.values.Coefficient.TheVariants.{End, Pair}
use Rattle.m2v_vlc.specs.declared.values.CodeFault.TheVariants.{Truncated, NoCode}
use Rattle.m2v_vlc.specs.Codes.{Row, code_at}
use Rattle.m2v_vlc.specs.Coefficients.{IsCoefficient}

-- a level, a run, and how many bits the code of the pair has
abbrev pub ShortPair : Type 0
ShortPair = ℤ × ℕ × ℕ

-- what w bits begin with is the code of a pair of the table: wherever they stand, and the code's bits are there, the pair is read
pub record Stands (w : ℕ) (t : List (Row Coefficient)) (look : ℕ) (p : ShortPair) : Type 0 where
  pub short : p.2 ≤ w
  pub range : IsCoefficient (Pair p.1 p.0)
  pub reads : (bs : List Bool) → look ≡ number (ahead w bs) → p.2 ≤ length bs
      → (code_at Truncated NoCode t).read bs ≡ Ok (Pair p.1 p.0, drop p.2 bs)

-- what w bits begin with is the code of the end of the block, in the same way
pub record Ends (w : ℕ) (t : List (Row Coefficient)) (look : ℕ) (p : ShortPair) : Type 0 where
  pub short : p.2 ≤ w
  pub reads : (bs : List Bool) → look ≡ number (ahead w bs) → p.2 ≤ length bs
      → (code_at Truncated NoCode t).read bs ≡ Ok (End, drop p.2 bs)

-- what stands for neither
abbrev pub nothing : ShortPair
nothing = (pos 0, 64, 0)
