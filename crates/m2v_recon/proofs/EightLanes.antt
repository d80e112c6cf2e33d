-- What operations on eight lanes of 16 bits leave, in lists of whole numbers.
use Rattle.std.proofs.Common.{◌≡◌, ℕ, zero, suc, ◌^◌, ◌<◌, ◌≤◌, ◌∙◌, Bool, true, false, cond, List, [], ◌∷◌, All, length, map, get_or, replicate, arith, refl, ap, subst, sym, ℤ, pos, negsuc, ◌+ℤ◌, ◌≤ℤ◌, unsigned_abs}
use Rattle.std.specs.Int.{int_max}
use Rattle.std.proofs.lemmas.Int.{ints, clamps, to_z-of_z}
use Rattle.std.proofs.lemmas.List.Elements.{All-head, All-tail, All-weaker}
use Rattle.std.proofs.lemmas.List.{get_or-map}
use Rattle.std.proofs.lemmas.Simd.{get_or-zip2, length-zip2}
use lib.Lanes.{zip2, sel_l, top, Each1, Each2}
use borrow.Rule.Simd.Lanes.{act1, act2, Asks1}
use borrow.Table.Row.{s_int}
use mir.Syntax.{w8, w16, cast, lt, mask, signed, unsigned}
use mir.Val.{Fits, SFits, hbits, to_z, of_z}
use lib.Dec.{T}
use lib.Signed.{lt_z, non_neg}
use native.Mathlib.Nat.{suc_inj}
use Rattle.m2v_idct.specs.Ranges.{Within}
use Rattle.m2v_idct.proofs.AllLanes.{both_are, both_asked, fits_short}
use Rattle.m2v_idct.proofs.FourLanes.{zipped_within, sum_bound}
use Rattle.m2v_recon.specs.Macro.{clamped}

-- a number of 16 bits that is passed or computed stands in a goal as its bits, read again
pub fits : (n : ℕ) (z : ℤ) → n < 2 ^ 15 → Within n z → SFits w16 z
fits n (pos a) small h = record { sfits = omega (arith, ints, h.0, h.1) }
fits n (negsuc a) small h = record { sfits = omega (arith, ints, h.0, h.1) }

pub passed : (n : ℕ) (z : ℤ) → n < 2 ^ 15 → Within n z → to_z w16 (of_z w16 z) ≡ z
passed n z small h = to_z-of_z w16 z (fits n z small h)

-- and so do lanes that are passed
abbrev again : List ℤ → List ℤ
again xs = map (to_z w16) (map (of_z w16) xs)

pub all_passed : (n : ℕ) (xs : List ℤ) → n < 2 ^ 15 → All (Within n) xs → again xs ≡ xs
all_passed n [] small h = refl
all_passed n (x ∷ xs) small h = λ i. passed n x small (All-head (Within n) x xs h) i ∷ all_passed n xs small (All-tail (Within n) x xs h) i

pub passed_within : (n m : ℕ) (xs : List ℤ) → n < 2 ^ 15 → n ≤ m → All (Within n) xs → All (Within m) (again xs)
passed_within n m xs small le h =
    subst (All (Within m)) (sym (all_passed n xs small h)) (All-weaker (Within n) (Within m) (λ z w. (omega (arith, ints, le, w.0), omega (arith, ints, le, w.1))) xs h)

abbrev pub sum : ℤ → ℤ → ℤ
sum a b = a +ℤ b

bound : (a b : ℤ) → Within 255 a → Within 30000 b → Within 30255 (sum a b)
bound = sum_bound 255 30000 30255 (omega arith)

pub sums_fit : (xs ys : List ℤ) → All (Within 255) xs → All (Within 30000) ys
    → Each2 (λ (a b : ℕ). SFits w16 (sum (to_z w16 a) (to_z w16 b))) (map (of_z w16) xs) (map (of_z w16) ys)
sums_fit = both_asked w16 32767 fits_short 255 30000 30255 sum bound (omega arith) (omega arith) (omega arith)

pub sums_are : (xs ys : List ℤ) → All (Within 255) xs → All (Within 30000) ys
    → map (to_z w16) (zip2 (λ (a b : ℕ). of_z w16 (sum (to_z w16 a) (to_z w16 b))) (map (of_z w16) xs) (map (of_z w16) ys)) ≡ zip2 sum xs ys
sums_are = both_are w16 32767 fits_short 255 30000 30255 sum bound (omega arith) (omega arith) (omega arith)

pub sums_within : (xs ys : List ℤ) → All (Within 255) xs → All (Within 30000) ys → All (Within 30255) (zip2 sum xs ys)
sums_within = zipped_within 255 30000 30255 sum bound (omega arith) (omega arith) (omega arith)

-- ---- the nearest numbers from 0 to 255
abbrev less : ℕ → ℕ → ℕ
less = act2 (mask (lt signed)) (s_int w16) (s_int w16) (s_int w16)

abbrev high : ℕ → Bool
high = top (hbits w16)

abbrev narrowed : ℕ → ℕ
narrowed = act1 (cast signed unsigned w8) (s_int w16) (s_int w8)

abbrev lanes_raised : ℕ → List ℕ → List ℕ
lanes_raised n xs = sel_l (map high (zip2 less xs (replicate n 0))) (replicate n 0) xs

abbrev lanes_lowered : ℕ → List ℕ → List ℕ
lanes_lowered n xs = sel_l (map high (zip2 less xs (replicate n 255))) xs (replicate n 255)

-- one lane of either
abbrev raised : ℕ → ℕ
raised a = cond (high (less a 0)) 0 a

abbrev lowered : ℕ → ℕ
lowered a = cond (high (less a 255)) a 255

-- the number that it holds then
abbrev at_least : ℤ → ℤ
at_least z = int_max (pos 0) z

abbrev bounded : ℤ → ℤ
bounded z = cond (lt_z (at_least z) (pos 255)) (at_least z) (pos 255)

raised_is : (z : ℤ) → Within 30255 z → raised (of_z w16 z) ≡ of_z w16 (at_least z)
raised_is z h = rw (passed 30255 z (omega arith) h) (chosen (lt_z z (pos 0)))
  where
    chosen : (b : Bool) → cond (high (cond b 65535 0)) 0 (of_z w16 z) ≡ of_z w16 (cond b (pos 0) z)
    chosen true = refl
    chosen false = refl

lowered_is : (z : ℤ) → Within 30255 z → lowered (of_z w16 z) ≡ of_z w16 (cond (lt_z z (pos 255)) z (pos 255))
lowered_is z h = rw (passed 30255 z (omega arith) h) (chosen (lt_z z (pos 255)))
  where
    chosen : (b : Bool) → cond (high (cond b 65535 0)) (of_z w16 z) 255 ≡ of_z w16 (cond b z (pos 255))
    chosen true = refl
    chosen false = refl

at_least_within : (z : ℤ) → Within 30255 z → Within 30255 (at_least z)
at_least_within z h = (omega (arith, ints, clamps, h), omega (arith, ints, clamps, h))

bounded_is : (z : ℤ) → (pos 0 ≤ℤ bounded z) × (bounded z ≤ℤ pos 255) × (unsigned_abs (bounded z) ≡ clamped z)
bounded_is z = by (lt_z (at_least z) (pos 255)) refl
  where
    by : (t : Bool) → lt_z (at_least z) (pos 255) ≡ t
        → (pos 0 ≤ℤ cond t (at_least z) (pos 255)) × (cond t (at_least z) (pos 255) ≤ℤ pos 255) × (unsigned_abs (cond t (at_least z) (pos 255)) ≡ clamped z)
    by true e = (omega (arith, ints, clamps, e), omega (arith, ints, clamps, e), omega (arith, ints, clamps, e))
    by false e = (omega (arith, ints, clamps, e), omega (arith, ints, clamps, e), omega (arith, ints, clamps, e))

lanes_are : (n : ℕ) (xs : List ℤ) → length xs ≡ n → All (Within 30255) xs
    → lanes_lowered n (lanes_raised n (map (of_z w16) xs)) ≡ map (λ z. of_z w16 (bounded z)) xs
lanes_are n [] e h = refl
lanes_are zero (x ∷ xs) e h = absurd (omega arith)
lanes_are (suc n) (x ∷ xs) e h =
    let hx = All-head (Within 30255) x xs h in
    let first : lowered (raised (of_z w16 x)) ≡ of_z w16 (bounded x) = ap lowered (raised_is x hx) ∙ lowered_is (at_least x) (at_least_within x hx) in
    λ i. first i ∷ lanes_are n xs (suc_inj e) (All-tail (Within 30255) x xs h) i

-- a lane that is narrowed
bounded_passed : (z : ℤ) → to_z w16 (of_z w16 (bounded z)) ≡ bounded z
bounded_passed z = let b = bounded_is z in passed 255 (bounded z) (omega arith) (omega (arith, ints, b.0), omega (arith, ints, b.1))

narrows : (z : ℤ) → Asks1 (cast signed unsigned w8) (s_int w16) (of_z w16 (bounded z))
narrows z = let b = bounded_is z in rw (bounded_passed z) (by (bounded z) b.0 b.1)
  where
    by : (y : ℤ) → pos 0 ≤ℤ y → y ≤ℤ pos 255 → T (non_neg y) × Fits w8 (unsigned_abs y)
    by (pos n) low up = (tt, record { fits = omega (arith, ints, up) })
    by (negsuc n) low up = absurd (omega (arith, ints, low))

narrowed_is : (z : ℤ) → narrowed (of_z w16 (bounded z)) ≡ clamped z
narrowed_is z = let b = bounded_is z in ap unsigned_abs (bounded_passed z) ∙ b.2

all_narrow : (xs : List ℤ) → Each1 (Asks1 (cast signed unsigned w8) (s_int w16)) (map (λ z. of_z w16 (bounded z)) xs)
all_narrow [] = tt
all_narrow (x ∷ xs) = (narrows x, all_narrow xs)

all_narrowed : (xs : List ℤ) → map narrowed (map (λ z. of_z w16 (bounded z)) xs) ≡ map clamped xs
all_narrowed [] = refl
all_narrowed (x ∷ xs) = λ i. narrowed_is x i ∷ all_narrowed xs i

pub nearest_fit : (n : ℕ) (xs : List ℤ) → length xs ≡ n → All (Within 30255) xs
    → Each1 (Asks1 (cast signed unsigned w8) (s_int w16)) (lanes_lowered n (lanes_raised n (map (of_z w16) xs)))
nearest_fit n xs e h = subst (Each1 (Asks1 (cast signed unsigned w8) (s_int w16))) (sym (lanes_are n xs e h)) (all_narrow xs)

pub nearest_are : (n : ℕ) (xs : List ℤ) → length xs ≡ n → All (Within 30255) xs
    → map narrowed (lanes_lowered n (lanes_raised n (map (of_z w16) xs))) ≡ map clamped xs
nearest_are n xs e h = ap (map narrowed) (lanes_are n xs e h) ∙ all_narrowed xs

-- ---- a lane of what is put in the place of eight samples
pub alone_at : (result : List ℕ) (line : List ℤ) (j : ℕ) → length line ≡ 8 → All (Within 30000) line
    → result ≡ map clamped (again line) → j < 8 → get_or result j 0 ≡ clamped (get_or line j (pos 0))
alone_at result line j len within is below =
    ap (λ (xs : List ℕ). get_or xs j 0) (is ∙ ap (map clamped) (all_passed 30000 line (omega arith) within))
    ∙ get_or-map clamped line j (pos 0) 0 (omega (arith, len))

pub sum_at : (result : List ℕ) (samples line : List ℤ) (j : ℕ) → length samples ≡ 8 → length line ≡ 8
    → All (Within 255) samples → All (Within 30000) line → result ≡ map clamped (zip2 sum (again samples) (again line))
    → j < 8 → get_or result j 0 ≡ clamped (get_or samples j (pos 0) +ℤ get_or line j (pos 0))
sum_at result samples line j long len known within is below =
    let sums = zip2 sum samples line in
    let all : length sums ≡ 8 = length-zip2 sum samples line (long ∙ sym len) ∙ long in
    ap (λ (xs : List ℕ). get_or xs j 0) (is ∙ (λ i. map clamped (zip2 sum (all_passed 255 samples (omega arith) known i) (all_passed 30000 line (omega arith) within i))))
    ∙ get_or-map clamped sums j (pos 0) 0 (omega (arith, all))
    ∙ ap clamped (get_or-zip2 sum samples line j (pos 0) (pos 0) (pos 0) (omega (arith, long)) (omega (arith, len)))
