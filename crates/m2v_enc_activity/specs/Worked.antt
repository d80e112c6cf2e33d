-- Activities of macroblocks, each computed by hand.
use Rattle.std.specs.Prelude.{ℕ, ◌+◌, ◌*◌, ◌%◌, ◌&&◌, nat_eq, nat_lt, if◌then◌else◌, List, [], ◌∷◌, map}
use Rattle.m2v_pred.specs.m2v_plane.Samples.{plane_by}
use Rattle.m2v_enc_activity.specs.Activity.{activity}

-- a macroblock by line and column, those that it is compared with, and its activity
pub record Row : Type 0 where
  pub luma : ℕ → ℕ → ℕ
  pub others : List (ℕ → ℕ → ℕ)
  pub is : ℕ

abbrev pub samples : (ℕ → ℕ → ℕ) → List ℕ
samples at = plane_by 16 16 at

-- sums of two slopes
abbrev pub slope : ℕ → ℕ → ℕ → ℕ
slope more y c = (7 * c + 11 * y + more) % 256

abbrev pub rows : List Row
rows =
    record { luma = λ y c. 128; others = []; is = 256 }
    ∷ record { luma = λ y c. if nat_lt c 8 then 255 else 0; others = []; is = 32896 }
    ∷ record { luma = λ y c. if nat_eq ((c + y) % 2) 1 then 255 else 0; others = []; is = 32896 }
    ∷ record { luma = λ y c. y; others = []; is = 1280 }
    ∷ record { luma = λ y c. if nat_lt c 4 && nat_lt y 4 then 255 else 0; others = []; is = 7696 }
    ∷ record { luma = slope 0; others = []; is = 13018 }
    ∷ record { luma = slope 0; others = slope 5 ∷ []; is = 1782 }
    ∷ record { luma = slope 0; others = slope 5 ∷ slope 0 ∷ []; is = 256 }
    ∷ []

-- the activity of each row, and what it is to be
abbrev pub computed : List ℕ
computed = map (λ (r : Row). activity (samples r.luma) (map samples r.others)) rows

abbrev pub wanted : List ℕ
wanted = map (λ (r : Row). r.is) rows
