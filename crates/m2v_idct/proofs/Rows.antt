use Rattle.std.proofs.Common.{◌≡◌, ℕ, ◌+◌, ◌*◌, ◌<◌, ◌≤◌, ◌∙◌, sym, List, [], ◌∷◌, All, length, get_or, arith, ap, ℤ, pos, ◌+ℤ◌, ◌-ℤ◌, ◌*ℤ◌}
use Rattle.std.specs.Int.{int_shr}
use Rattle.std.proofs.lemmas.Int.{ints}
use Rattle.m2v_idct.specs.Block.{at}
use Rattle.m2v_idct.specs.Inverse.{w1, w2, w3, w5, w6, w7, after_rows, column, combine, row, scaled}
use Rattle.m2v_idct.specs.Ranges.{IsCoefficient, Within}
use Rattle.m2v_idct.proofs.Columns.{combine_within}
use Rattle.m2v_idct.proofs.Projections.{eight_same}
use Rattle.m2v_idct.proofs.Shifts.{shr8, shr8_is}

-- a row and a column know eight numbers
pub row_listed : (g : ℕ → ℤ) (xs : List ℤ) → xs ≡ g 0 ∷ g 1 ∷ g 2 ∷ g 3 ∷ g 4 ∷ g 5 ∷ g 6 ∷ g 7 ∷ []
    → row (λ k. get_or xs k (pos 0)) ≡ row g
unfolding row
row_listed g xs e = ap (λ zs. row (λ k. get_or zs k (pos 0))) e

pub column_listed : (g : ℕ → ℤ) (xs : List ℤ) → xs ≡ g 0 ∷ g 1 ∷ g 2 ∷ g 3 ∷ g 4 ∷ g 5 ∷ g 6 ∷ g 7 ∷ []
    → column (λ k. get_or xs k (pos 0)) ≡ column g
unfolding column
column_listed g xs e = ap (λ zs. column (λ k. get_or zs k (pos 0))) e

pub column_same : (g h : ℕ → ℤ) → ((k : ℕ) → k < 8 → g k ≡ h k) → column g ≡ column h
unfolding column
column_same g h e = ap (λ zs. column (λ k. get_or zs k (pos 0))) (eight_same g h e)

part_of_flat : (z s : ℤ) → s ≡ pos 2048 *ℤ z +ℤ pos 128 → int_shr s 8 ≡ pos 8 *ℤ z
part_of_flat z s e = sym (shr8_is s (pos 8 *ℤ z) (omega (arith, ints)) (omega (arith, ints)))

-- the results of a row in which only the first number isn't 0
flat : (z : ℤ) → row (λ k. get_or (z ∷ pos 0 ∷ pos 0 ∷ pos 0 ∷ pos 0 ∷ pos 0 ∷ pos 0 ∷ pos 0 ∷ []) k (pos 0))
    ≡ (pos 8 *ℤ z) ∷ (pos 8 *ℤ z) ∷ (pos 8 *ℤ z) ∷ (pos 8 *ℤ z) ∷ (pos 8 *ℤ z) ∷ (pos 8 *ℤ z) ∷ (pos 8 *ℤ z) ∷ (pos 8 *ℤ z) ∷ []
unfolding row combine scaled
flat z =
    let p = pos 2048 *ℤ (z +ℤ pos 0) +ℤ pos 128 in
    let m = pos 2048 *ℤ (z -ℤ pos 0) +ℤ pos 128 in
    let q0 = part_of_flat z (p +ℤ pos 0 +ℤ pos 0) (omega (arith, ints)) in
    let q1 = part_of_flat z (m +ℤ pos 0 +ℤ pos 0) (omega (arith, ints)) in
    let q2 = part_of_flat z (m -ℤ pos 0 +ℤ pos 0) (omega (arith, ints)) in
    let q3 = part_of_flat z (p -ℤ pos 0 +ℤ pos 0) (omega (arith, ints)) in
    let q4 = part_of_flat z (p -ℤ pos 0 -ℤ pos 0) (omega (arith, ints)) in
    let q5 = part_of_flat z (m -ℤ pos 0 -ℤ pos 0) (omega (arith, ints)) in
    let q6 = part_of_flat z (m +ℤ pos 0 -ℤ pos 0) (omega (arith, ints)) in
    let q7 = part_of_flat z (p +ℤ pos 0 -ℤ pos 0) (omega (arith, ints)) in
    (λ i. q0 i ∷ q1 i ∷ q2 i ∷ q3 i ∷ q4 i ∷ q5 i ∷ q6 i ∷ q7 i ∷ [])

pub row_flat : (g : ℕ → ℤ) → ((k : ℕ) → 1 ≤ k → k < 8 → g k ≡ pos 0) → (r : ℤ) → r ≡ pos 8 *ℤ g 0
    → r ∷ r ∷ r ∷ r ∷ r ∷ r ∷ r ∷ r ∷ [] ≡ row g
row_flat g h r e =
    let e1 = h 1 (omega arith) (omega arith) in let e2 = h 2 (omega arith) (omega arith) in
    let e3 = h 3 (omega arith) (omega arith) in let e4 = h 4 (omega arith) (omega arith) in
    let e5 = h 5 (omega arith) (omega arith) in let e6 = h 6 (omega arith) (omega arith) in
    let e7 = h 7 (omega arith) (omega arith) in
    ap (λ t. t ∷ t ∷ t ∷ t ∷ t ∷ t ∷ t ∷ t ∷ []) e ∙ sym (flat (g 0))
    ∙ row_listed g (g 0 ∷ pos 0 ∷ pos 0 ∷ pos 0 ∷ pos 0 ∷ pos 0 ∷ pos 0 ∷ pos 0 ∷ [])
    (sym (λ i. g 0 ∷ e1 i ∷ e2 i ∷ e3 i ∷ e4 i ∷ e5 i ∷ e6 i ∷ e7 i ∷ []))

-- bounds
drop_within : (z : ℤ) → Within 40600000 z → Within 160000 (int_shr z 8)
drop_within z h = let b = shr8 z in (omega (arith, ints, h, b), omega (arith, ints, h, b))

pub row_within : (b : ℕ → ℤ) → ((k : ℕ) → k < 8 → Within 2048 (b k)) → All (Within 160000) (row b)
unfolding row
row_within b h =
    let h0 = h 0 (omega arith) in let h1 = h 1 (omega arith) in let h2 = h 2 (omega arith) in let h3 = h 3 (omega arith) in
    let h4 = h 4 (omega arith) in let h5 = h 5 (omega arith) in let h6 = h 6 (omega arith) in let h7 = h 7 (omega arith) in
    combine_within 8400000 23800000 160000 8 (omega arith) (omega arith) drop_within
    (w1 *ℤ b 1 +ℤ w7 *ℤ b 7) (w7 *ℤ b 1 -ℤ w1 *ℤ b 7)
    (w3 *ℤ b 3 +ℤ w5 *ℤ b 5) (w3 *ℤ b 5 -ℤ w5 *ℤ b 3)
    (w2 *ℤ b 2 +ℤ w6 *ℤ b 6) (w6 *ℤ b 2 -ℤ w2 *ℤ b 6)
    (pos 2048 *ℤ (b 0 +ℤ b 4) +ℤ pos 128) (pos 2048 *ℤ (b 0 -ℤ b 4) +ℤ pos 128)
    (omega (arith, ints, h1, h7), omega (arith, ints, h1, h7)) (omega (arith, ints, h1, h7), omega (arith, ints, h1, h7))
    (omega (arith, ints, h3, h5), omega (arith, ints, h3, h5)) (omega (arith, ints, h3, h5), omega (arith, ints, h3, h5))
    (omega (arith, ints, h2, h6), omega (arith, ints, h2, h6)) (omega (arith, ints, h2, h6), omega (arith, ints, h2, h6))
    (omega (arith, ints, h0, h4), omega (arith, ints, h0, h4)) (omega (arith, ints, h0, h4), omega (arith, ints, h0, h4))

pub after_rows_within : (b : List ℤ) → length b ≡ 64 → All IsCoefficient b → (y x : ℕ) → y < 8 → x < 8
    → Within 160000 (after_rows b y x)
unfolding after_rows row combine
after_rows_within b len h y x ly lx =
    row_within (at b y) (λ k lk. let c = h (8 * y + k) (pos 0) (omega arith) in (omega (arith, ints, c), omega (arith, ints, c)))
    x (pos 0) lx
