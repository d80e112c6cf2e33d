-- A block of eight by eight is a list of 64 numbers, the top line first and each line from the left.
use Rattle.std.specs.Prelude.{ℕ, ◌+◌, ◌*◌, List, slice_index_or, ℤ, pos}

-- the number at place k
abbrev pub nth : List ℤ → ℕ → ℤ
nth xs k = slice_index_or xs k (pos 0)

-- the number in line y and column x of a block
abbrev pub at : List ℤ → ℕ → ℕ → ℤ
at b y x = nth b (8 * y + x)
