-- The default matrices (clause 6.3.11), in raster order.
use Rattle.std.specs.Prelude.{ℕ, Bool, true, false, List, [], ◌∷◌, replicate}

-- what stands where a stream loads no matrix for intra blocks
unfoldable pub intra_matrix : List ℕ
intra_matrix =
    8 ∷ 16 ∷ 19 ∷ 22 ∷ 26 ∷ 27 ∷ 29 ∷ 34 ∷
    16 ∷ 16 ∷ 22 ∷ 24 ∷ 27 ∷ 29 ∷ 34 ∷ 37 ∷
    19 ∷ 22 ∷ 26 ∷ 27 ∷ 29 ∷ 34 ∷ 34 ∷ 38 ∷
    22 ∷ 22 ∷ 26 ∷ 27 ∷ 29 ∷ 34 ∷ 37 ∷ 40 ∷
    22 ∷ 26 ∷ 27 ∷ 29 ∷ 32 ∷ 35 ∷ 40 ∷ 48 ∷
    26 ∷ 27 ∷ 29 ∷ 32 ∷ 35 ∷ 40 ∷ 48 ∷ 58 ∷
    26 ∷ 27 ∷ 29 ∷ 34 ∷ 38 ∷ 46 ∷ 56 ∷ 69 ∷
    27 ∷ 29 ∷ 35 ∷ 38 ∷ 46 ∷ 56 ∷ 69 ∷ 83 ∷ []

-- the default matrix of intra blocks, and that of others
unfoldable pub default_matrix : Bool → List ℕ
default_matrix true = intra_matrix
default_matrix false = replicate 64 16
