-- A row by lanes is the row of the definition.
use Rattle.std.proofs.Common.{◌≡◌, ℕ, ◌^◌, ◌<◌, ◌≤◌, ◌∙◌, List, [], ◌∷◌, All, length, map, get_or, arith, refl, ap, ℤ, pos, negsuc, neg_ℤ, ◌+ℤ◌, ◌-ℤ◌, ◌*ℤ◌}
use Rattle.std.specs.Int.{int_shr}
use Rattle.std.proofs.lemmas.Int.{ints}
use Rattle.std.proofs.lemmas.List.Elements.{All-same}
use Rattle.std.proofs.Math.IntN.{zero-*ℤ}
use lib.Lanes.{zip2}
use mir.Syntax.{w32}
use Rattle.m2v_idct.specs.Inverse.{combine, row, scaled, w1, w2, w3, w5, w6, w7}
use Rattle.m2v_idct.specs.Ranges.{Within}
use Rattle.m2v_idct.specs.RowSums.{both_ways, even_sums, four, middle_scaled, odd_sums}
use Rattle.m2v_idct.proofs.AllLanes.{fits_word, told_is, told_within, wider, word_told}
use Rattle.m2v_idct.proofs.FourLanes.{four_listed, four_within}
use Rattle.m2v_idct.proofs.Passed.{passed}
use Rattle.m2v_idct.proofs.Shifts.{scaled_within, shr8, shr8_is}

-- lanes that are passed or returned stand in a goal as their bits, read again
pub again : (n : ℕ) (xs : List ℤ) → n < 2 ^ 31 → All (Within n) xs → word_told xs ≡ xs
again n xs small h = told_is w32 2147483647 fits_word xs (wider n 2147483647 (omega arith) xs h)

pub again_within : (n m : ℕ) (xs : List ℤ) → n < 2 ^ 31 → n ≤ m → All (Within n) xs → All (Within m) (word_told xs)
again_within n m xs small le h = wider n m le (word_told xs) (told_within w32 2147483647 fits_word n xs (omega arith) h)

told_four : (x : List ℤ) (z : ℤ) → Within 2048 z → x ≡ four z → word_told x ≡ four z
told_four x z small e = ap word_told e ∙ (λ i. four (passed 2048 z (omega arith) small i))

pub four_told_within : (x : List ℤ) (z : ℤ) → Within 2048 z → x ≡ four z → All (Within 2048) (word_told x)
four_told_within x z small e = All-same (Within 2048) (word_told x) (four z) (told_four x z small e) (four_within 2048 z z z z small small small small)

pub product : (k x p : List ℤ) (z : ℤ) → Within 2048 z → x ≡ four z → p ≡ zip2 (λ (a b : ℤ). a *ℤ b) k (word_told x) → All (Within 8388608) p
    → word_told p ≡ zip2 (λ (a b : ℤ). a *ℤ b) k (four z)
product k x p z small e f h = again 8388608 p (omega arith) h ∙ f ∙ ap (zip2 (λ (a b : ℤ). a *ℤ b) k) (told_four x z small e)

pub added : (n : ℕ) (x y r u v : List ℤ) → n < 2 ^ 31 → word_told x ≡ u → word_told y ≡ v → r ≡ zip2 (λ (a b : ℤ). a +ℤ b) (word_told x) (word_told y) → All (Within n) r
    → word_told r ≡ zip2 (λ (a b : ℤ). a +ℤ b) u v
added n x y r u v small eu ev e h = again n r small h ∙ e ∙ (λ i. zip2 (λ (a b : ℤ). a +ℤ b) (eu i) (ev i))

pub added_told : (n : ℕ) (x r u k : List ℤ) → n < 2 ^ 31 → word_told x ≡ u → r ≡ zip2 (λ (a b : ℤ). a +ℤ b) (word_told x) k → All (Within n) r
    → word_told r ≡ zip2 (λ (a b : ℤ). a +ℤ b) u k
added_told n x r u k small eu e h = again n r small h ∙ e ∙ ap (λ t. zip2 (λ (a b : ℤ). a +ℤ b) t k) eu

pub subtracted : (n : ℕ) (x y r u v : List ℤ) → n < 2 ^ 31 → word_told x ≡ u → word_told y ≡ v → r ≡ zip2 (λ (a b : ℤ). a -ℤ b) (word_told x) (word_told y) → All (Within n) r
    → word_told r ≡ zip2 (λ (a b : ℤ). a -ℤ b) u v
subtracted n x y r u v small eu ev e h = again n r small h ∙ e ∙ (λ i. zip2 (λ (a b : ℤ). a -ℤ b) (eu i) (ev i))

pub shifted_down : (x r u : List ℤ) → word_told x ≡ u → r ≡ map (λ (a : ℤ). int_shr a 8) (word_told x) → All (Within 1000000000) r → word_told r ≡ map (λ (a : ℤ). int_shr a 8) u
shifted_down x r u eu e h = again 1000000000 r (omega arith) h ∙ e ∙ ap (map (λ (a : ℤ). int_shr a 8)) eu

-- the sums of the odd coefficients are small
pub odd_within : (b : ℕ → ℤ) → ((k : ℕ) → k < 8 → Within 2048 (b k)) → All (Within 22000000) (odd_sums b)
unfolding odd_sums
odd_within b h =
    let h1 = h 1 (omega arith) in let h3 = h 3 (omega arith) in let h5 = h 5 (omega arith) in let h7 = h 7 (omega arith) in
    four_within 22000000 _ _ _ _
    (omega (arith, ints, h1, h3, h5, h7), omega (arith, ints, h1, h3, h5, h7))
    (omega (arith, ints, h1, h3, h5, h7), omega (arith, ints, h1, h3, h5, h7))
    (omega (arith, ints, h1, h3, h5, h7), omega (arith, ints, h1, h3, h5, h7))
    (omega (arith, ints, h1, h3, h5, h7), omega (arith, ints, h1, h3, h5, h7))

pub odd_told : (r : List ℤ) (b : ℕ → ℤ) → ((k : ℕ) → k < 8 → Within 2048 (b k)) → r ≡ odd_sums b → word_told r ≡ odd_sums b
odd_told r b h e = again 22000000 r (omega arith) (All-same (Within 22000000) r (odd_sums b) e (odd_within b h)) ∙ e

pub odd_told_within : (r : List ℤ) (b : ℕ → ℤ) → ((k : ℕ) → k < 8 → Within 2048 (b k)) → r ≡ odd_sums b → All (Within 22000000) (word_told r)
odd_told_within r b h e = All-same (Within 22000000) (word_told r) (odd_sums b) (odd_told r b h e) (odd_within b h)

-- 181 / 256 of t by 256 - 75
scaled_by_less : (t : ℤ) → t +ℤ int_shr (negsuc 74 *ℤ t +ℤ pos 128) 8 ≡ scaled t
unfolding scaled
scaled_by_less t =
    let z = negsuc 74 *ℤ t +ℤ pos 128 in
    let b = shr8 z in
    shr8_is (pos 181 *ℤ t +ℤ pos 128) (t +ℤ int_shr z 8) (omega (arith, ints, b)) (omega (arith, ints, b))

still : (t : ℤ) → t +ℤ int_shr (pos 0 *ℤ t +ℤ pos 0) 8 ≡ t
still t = ap (λ z. t +ℤ int_shr (z +ℤ pos 0) 8) (zero-*ℤ t) ∙ omega (arith, ints)

abbrev lessened : List ℤ → List ℤ
lessened t =
    zip2 (λ (a b : ℤ). a +ℤ b) t
    (map (λ (a : ℤ). int_shr a 8) (zip2 (λ (a b : ℤ). a +ℤ b) (zip2 (λ (a b : ℤ). a *ℤ b) (pos 0 ∷ neg_ℤ (pos 75) ∷ neg_ℤ (pos 75) ∷ pos 0 ∷ []) t) (pos 0 ∷ pos 128 ∷ pos 128 ∷ pos 0 ∷ [])))

pub middle_is : (t : List ℤ) → length t ≡ 4 → lessened t ≡ middle_scaled t
middle_is t len =
    let s0 = still (get_or t 0 (pos 0)) in let s1 = scaled_by_less (get_or t 1 (pos 0)) in
    let s2 = scaled_by_less (get_or t 2 (pos 0)) in let s3 = still (get_or t 3 (pos 0)) in
    ap lessened (four_listed t len) ∙ (λ i. s0 i ∷ s1 i ∷ s2 i ∷ s3 i ∷ [])

pub scaled_middle : (t w u s r : List ℤ) → length t ≡ 4 → All (Within 22000000) t
    → w ≡ zip2 (λ (a b : ℤ). a *ℤ b) (pos 0 ∷ neg_ℤ (pos 75) ∷ neg_ℤ (pos 75) ∷ pos 0 ∷ []) (word_told t) → All (Within 1650000000) w
    → u ≡ zip2 (λ (a b : ℤ). a +ℤ b) (word_told w) (pos 0 ∷ pos 128 ∷ pos 128 ∷ pos 0 ∷ []) → All (Within 2000000000) u
    → s ≡ map (λ (a : ℤ). int_shr a 8) (word_told u) → All (Within 1000000000) s
    → r ≡ zip2 (λ (a b : ℤ). a +ℤ b) (word_told t) (word_told s) → All (Within 2000000000) r
    → word_told r ≡ middle_scaled t
scaled_middle t w u s r len small ew hw eu hu es hs er hr =
    let t_is = again 22000000 t (omega arith) small in
    let w_is = again 1650000000 w (omega arith) hw ∙ ew ∙ ap (zip2 (λ (a b : ℤ). a *ℤ b) (pos 0 ∷ neg_ℤ (pos 75) ∷ neg_ℤ (pos 75) ∷ pos 0 ∷ [])) t_is in
    let u_is = added_told 2000000000 w u _ (pos 0 ∷ pos 128 ∷ pos 128 ∷ pos 0 ∷ []) (omega arith) w_is eu hu in
    let s_is = shifted_down u s _ u_is es hs in
    added 2000000000 t s r t _ (omega arith) t_is s_is er hr ∙ middle_is t len

wide : (z : ℤ) → Within 22000000 z → Within 500000000 z
wide z h = (omega (arith, ints, h), omega (arith, ints, h))

pub middle_within : (t : List ℤ) → length t ≡ 4 → All (Within 22000000) t → All (Within 500000000) (middle_scaled t)
middle_within t len h =
    let h0 = h 0 (pos 0) (omega arith) in let h1 = h 1 (pos 0) (omega arith) in let h2 = h 2 (pos 0) (omega arith) in let h3 = h 3 (pos 0) (omega arith) in
    four_within 500000000 _ _ _ _ (wide _ h0) (scaled_within 22000000 500000000 (omega arith) _ h1) (scaled_within 22000000 500000000 (omega arith) _ h2) (wide _ h3)

-- the eight results
pub row_by_sums : (b : ℕ → ℤ)
    → both_ways (map (λ (a : ℤ). int_shr a 8) (zip2 (λ (a c : ℤ). a +ℤ c) (even_sums b) (middle_scaled (odd_sums b))))
    (map (λ (a : ℤ). int_shr a 8) (zip2 (λ (a c : ℤ). a -ℤ c) (even_sums b) (middle_scaled (odd_sums b))))
    ≡ row b
unfolding row combine even_sums odd_sums
row_by_sums b =
    let a1 = w1 *ℤ b 1 +ℤ w7 *ℤ b 7 in let a7 = w7 *ℤ b 1 -ℤ w1 *ℤ b 7 in
    let a5 = w3 *ℤ b 3 +ℤ w5 *ℤ b 5 in let a3 = w3 *ℤ b 5 -ℤ w5 *ℤ b 3 in
    let e2 = w2 *ℤ b 2 +ℤ w6 *ℤ b 6 in let e6 = w6 *ℤ b 2 -ℤ w2 *ℤ b 6 in
    let p = pos 2048 *ℤ (b 0 +ℤ b 4) +ℤ pos 128 in let m = pos 2048 *ℤ (b 0 -ℤ b 4) +ℤ pos 128 in
    let s0 : get_or (even_sums b) 0 (pos 0) ≡ p +ℤ e2 = omega (arith, ints) in
    let s1 : get_or (even_sums b) 1 (pos 0) ≡ m +ℤ e6 = omega (arith, ints) in
    let s2 : get_or (even_sums b) 2 (pos 0) ≡ m -ℤ e6 = omega (arith, ints) in
    let s3 : get_or (even_sums b) 3 (pos 0) ≡ p -ℤ e2 = omega (arith, ints) in
    let o0 : get_or (odd_sums b) 0 (pos 0) ≡ a1 +ℤ a5 = omega (arith, ints) in
    let t1 : get_or (odd_sums b) 1 (pos 0) ≡ (a1 -ℤ a5) +ℤ (a7 -ℤ a3) = omega (arith, ints) in
    let t2 : get_or (odd_sums b) 2 (pos 0) ≡ (a1 -ℤ a5) -ℤ (a7 -ℤ a3) = omega (arith, ints) in
    let o3 : get_or (odd_sums b) 3 (pos 0) ≡ a7 +ℤ a3 = omega (arith, ints) in
    (λ i. int_shr (s0 i +ℤ o0 i) 8 ∷ int_shr (s1 i +ℤ scaled (t1 i)) 8 ∷ int_shr (s2 i +ℤ scaled (t2 i)) 8 ∷ int_shr (s3 i +ℤ o3 i) 8
    ∷ int_shr (s3 i -ℤ o3 i) 8 ∷ int_shr (s2 i -ℤ scaled (t2 i)) 8 ∷ int_shr (s1 i -ℤ scaled (t1 i)) 8 ∷ int_shr (s0 i -ℤ o0 i) 8 ∷ [])

four_odd : (b : ℕ → ℤ) → length (odd_sums b) ≡ 4
unfolding odd_sums
four_odd b = refl

-- the odd sums, scaled
pub middle_odd : (r o : List ℤ) (b : ℕ → ℤ) → ((k : ℕ) → k < 8 → Within 2048 (b k)) → r ≡ odd_sums b → o ≡ middle_scaled (word_told r) → word_told o ≡ middle_scaled (odd_sums b)
middle_odd r o b small er eo =
    let e = eo ∙ ap middle_scaled (odd_told r b small er) in
    again 500000000 o (omega arith) (All-same (Within 500000000) o (middle_scaled (odd_sums b)) e (middle_within (odd_sums b) (four_odd b) (odd_within b small))) ∙ e

pub middle_odd_within : (r o : List ℤ) (b : ℕ → ℤ) → ((k : ℕ) → k < 8 → Within 2048 (b k)) → r ≡ odd_sums b → o ≡ middle_scaled (word_told r) → All (Within 1000000000) (word_told o)
middle_odd_within r o b small er eo =
    let e = eo ∙ ap middle_scaled (odd_told r b small er) in
    again_within 500000000 1000000000 o (omega arith) (omega arith) (All-same (Within 500000000) o (middle_scaled (odd_sums b)) e (middle_within (odd_sums b) (four_odd b) (odd_within b small)))
