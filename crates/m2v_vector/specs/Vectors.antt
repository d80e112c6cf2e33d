-- Vector arithmetic (clauses 7.6.3.1 and 7.6.3.6). The unit is half a sample, and f is 2 ^ (f_code - 1).
use Rattle.std.specs.Prelude.{◌≡◌, ℕ, ◌+◌, ◌-◌, ◌*◌, ◌/◌, ◌%◌, ◌^◌, ◌<◌, ◌||◌, nat_eq, cond, if◌then◌else◌, ℤ, pos, negsuc, neg_ℤ, ◌+ℤ◌, ◌-ℤ◌, ◌*ℤ◌, ◌≤ℤ◌, ◌<ℤ◌, int_lt, int_le, unsigned_abs}
use Rattle.std.specs.Int.{int_shr}

-- f
abbrev pub scale : ℕ → ℕ
scale f_code = 2 ^ (f_code - 1)

-- a vector's component that fits: -16 f to 16 f - 1
abbrev pub IsVector : ℕ → ℤ → Type 0
IsVector f v = (neg_ℤ (pos (16 * f)) ≤ℤ v) × (v <ℤ pos (16 * f))

-- a difference that can be spelled: -16 f to 16 f
abbrev pub IsDifference : ℕ → ℤ → Type 0
IsDifference f d = (neg_ℤ (pos (16 * f)) ≤ℤ d) × (d ≤ℤ pos (16 * f))

-- a number of this size with the sign of z
unfoldable pub with_sign : ℤ → ℕ → ℤ
with_sign (pos _) size = pos size
with_sign (negsuc _) size = neg_ℤ (pos size)

-- the difference that a motion_code and its motion_residual mean
unfoldable pub difference : ℕ → ℤ → ℕ → ℤ
difference f code residual =
    if nat_eq f 1 || nat_eq (unsigned_abs code) 0 then code
    else with_sign code ((unsigned_abs code - 1) * f + residual + 1)

-- a motion_code, and a motion_residual of f_code - 1 bits, which is 0 where the code is 0
pub record IsSpelling (f : ℕ) (code : ℤ) (residual : ℕ) : Type 0 where
  pub low : neg_ℤ (pos 16) ≤ℤ code
  pub high : code ≤ℤ pos 16
  pub below : residual < f
  pub none : code ≡ pos 0 → residual ≡ 0

-- the motion_code of a difference, and its motion_residual
unfoldable pub code_of : ℕ → ℤ → ℤ
code_of f d = if nat_eq (unsigned_abs d) 0 then pos 0 else with_sign d ((unsigned_abs d - 1) / f + 1)

unfoldable pub residual_of : ℕ → ℤ → ℕ
residual_of f d = (unsigned_abs d - 1) % f

-- brought back into the range of vectors
unfoldable pub wrapped : ℕ → ℤ → ℤ
wrapped f v =
    if int_lt v (neg_ℤ (pos (16 * f))) then v +ℤ pos (32 * f)
    else if int_le (pos (16 * f)) v then v -ℤ pos (32 * f)
    else v

-- the component of a vector, by its predictor
unfoldable pub joined : ℕ → ℤ → ℤ → ℕ → ℤ
joined f predictor code residual = wrapped f (predictor +ℤ difference f code residual)

-- the difference that is written: of those that give the vector the one from -16 f to 16 f - 1
unfoldable pub between : ℕ → ℤ → ℤ → ℤ
between f predictor vector = wrapped f (vector -ℤ predictor)

-- a half, rounded down
abbrev pub half : ℤ → ℤ
half z = int_shr z 1

-- a component of the opposite vector of dual prime: the factor stands for the distance of the fields
unfoldable pub opposite : ℤ → ℤ → ℤ → ℤ → ℤ
opposite vector dm factor correction =
    half (vector *ℤ factor +ℤ cond (int_lt (pos 0) vector) (pos 1) (pos 0)) +ℤ (dm +ℤ correction)
