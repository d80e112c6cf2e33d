-- Bounds of the results of a row or a column.
use Rattle.std.proofs.Common.{ℕ, ◌+◌, ◌*◌, ◌<◌, ◌≤◌, All, get_or, arith, ℤ, pos, ◌+ℤ◌, ◌-ℤ◌, ◌*ℤ◌}
use Rattle.std.specs.Int.{int_shr}
use Rattle.std.proofs.lemmas.Int.{ints}
use Rattle.std.proofs.lemmas.List.Elements.{All-from_recursion}
use Rattle.m2v_idct.specs.Inverse.{w1, w2, w3, w5, w6, w7, column, combine, eighth}
use Rattle.m2v_idct.specs.Ranges.{Within}
use Rattle.m2v_idct.proofs.Shifts.{eighth_within, scaled_within, shr14}

-- the results of terms up to t, of which two are scaled to be up to o
module _ (t o k n : ℕ) (odd : 181 * (4 * t) + 127 ≤ 256 * o) (more : 2 * t ≤ o) (drop : (z : ℤ) → Within (2 * t + o) z → Within k (int_shr z n)) where
  both : (s w : ℤ) → Within (2 * t) s → Within o w → Within k (int_shr (s +ℤ w) n) × Within k (int_shr (s -ℤ w) n)
  both s w hs hw = (
    drop (s +ℤ w) (omega (arith, ints, hs, hw), omega (arith, ints, hs, hw)),
    drop (s -ℤ w) (omega (arith, ints, hs, hw), omega (arith, ints, hs, hw)),
  )

  pub combine_within : (a1 a7 a5 a3 e2 e6 p m : ℤ) → Within t a1 → Within t a7 → Within t a5 → Within t a3
      → Within t e2 → Within t e6 → Within t p → Within t m → All (Within k) (combine a1 a7 a5 a3 e2 e6 p m n)
  unfolding combine
  combine_within a1 a7 a5 a3 e2 e6 p m h1 h7 h5 h3 g2 g6 hp hm =
      let hx = scaled_within (4 * t) o odd ((a1 -ℤ a5) +ℤ (a7 -ℤ a3)) (omega (arith, ints, h1, h5, h7, h3), omega (arith, ints, h1, h5, h7, h3)) in
      let hy = scaled_within (4 * t) o odd ((a1 -ℤ a5) -ℤ (a7 -ℤ a3)) (omega (arith, ints, h1, h5, h7, h3), omega (arith, ints, h1, h5, h7, h3)) in
      let r0 = both (p +ℤ e2) (a1 +ℤ a5) (omega (arith, ints, hp, g2), omega (arith, ints, hp, g2)) (omega (arith, ints, h1, h5, more), omega (arith, ints, h1, h5, more)) in
      let r1 = both (m +ℤ e6) _ (omega (arith, ints, hm, g6), omega (arith, ints, hm, g6)) hx in
      let r2 = both (m -ℤ e6) _ (omega (arith, ints, hm, g6), omega (arith, ints, hm, g6)) hy in
      let r3 = both (p -ℤ e2) (a7 +ℤ a3) (omega (arith, ints, hp, g2), omega (arith, ints, hp, g2)) (omega (arith, ints, h7, h3, more), omega (arith, ints, h7, h3, more)) in
      All-from_recursion (Within k) (combine a1 a7 a5 a3 e2 e6 p m n) (r0.0, (r1.0, (r2.0, (r3.0, (r3.1, (r2.1, (r1.1, (r0.1, tt))))))))

drop_within : (z : ℤ) → Within 399000000 z → Within 30000 (int_shr z 14)
drop_within z h = let b = shr14 z in (omega (arith, ints, h, b), omega (arith, ints, h, b))

an_eighth : (t : ℤ) → Within 650000000 t → Within 82000000 (eighth t)
unfolding eighth
an_eighth t h = eighth_within t h

pub column_within : (c : ℕ → ℤ) → ((k : ℕ) → k < 8 → Within 160000 (c k)) → (y : ℕ) → y < 8 → Within 30000 (get_or (column c) y (pos 0))
unfolding column combine
column_within c h y ly =
    let h0 = h 0 (omega arith) in let h1 = h 1 (omega arith) in let h2 = h 2 (omega arith) in let h3 = h 3 (omega arith) in
    let h4 = h 4 (omega arith) in let h5 = h 5 (omega arith) in let h6 = h 6 (omega arith) in let h7 = h 7 (omega arith) in
    combine_within 82000000 235000000 30000 14 (omega arith) (omega arith) drop_within
    (eighth (w1 *ℤ c 1 +ℤ w7 *ℤ c 7)) (eighth (w7 *ℤ c 1 -ℤ w1 *ℤ c 7))
    (eighth (w3 *ℤ c 3 +ℤ w5 *ℤ c 5)) (eighth (w3 *ℤ c 5 -ℤ w5 *ℤ c 3))
    (eighth (w2 *ℤ c 2 +ℤ w6 *ℤ c 6)) (eighth (w6 *ℤ c 2 -ℤ w2 *ℤ c 6))
    (pos 256 *ℤ (c 0 +ℤ c 4) +ℤ pos 8192) (pos 256 *ℤ (c 0 -ℤ c 4) +ℤ pos 8192)
    (an_eighth _ (omega (arith, ints, h1, h7), omega (arith, ints, h1, h7))) (an_eighth _ (omega (arith, ints, h1, h7), omega (arith, ints, h1, h7)))
    (an_eighth _ (omega (arith, ints, h3, h5), omega (arith, ints, h3, h5))) (an_eighth _ (omega (arith, ints, h3, h5), omega (arith, ints, h3, h5)))
    (an_eighth _ (omega (arith, ints, h2, h6), omega (arith, ints, h2, h6))) (an_eighth _ (omega (arith, ints, h2, h6), omega (arith, ints, h2, h6)))
    (omega (arith, ints, h0, h4), omega (arith, ints, h0, h4)) (omega (arith, ints, h0, h4), omega (arith, ints, h0, h4))
    y (pos 0) ly
