-- Lines of a window.
use Rattle.std.proofs.Common.{◌≡◌, ℕ, zero, suc, ◌+◌, ◌-◌, ◌*◌, ◌≤◌, List, [], ◌++◌, length, take, drop, refl, ap, sym, ◌∙◌, arith, append_assoc, length-append, append-nil}
use Rattle.std.proofs.Math.Nat.{mul-le-mul_right}
use Rattle.std.proofs.lemmas.List.{length-take-le, length-drop, take_at, drop_at}
use Rattle.std.specs.List.{sum}
use Rattle.std.specs.Simd.Lanes.{zip2}
use Rattle.m2v_kernel.specs.Sums.{apart, sad, lines_at}
use Rattle.m2v_kernel.proofs.Steps.{sad_step, summed_all}

-- some lines and those behind them
lines_at-add : (m n : ℕ) (w : List ℕ) (p s : ℕ) → lines_at (m + n) w p s ≡ lines_at m w p s ++ lines_at n w (p + m * s) s
unfolding lines_at
lines_at-add zero n w p s =
    let number : 0 + n ≡ n = omega arith in
    let place : p ≡ p + 0 * s = omega arith in
    λ i. lines_at (number i) w (place i) s
lines_at-add (suc m) n w p s =
    let number : suc m + n ≡ suc (m + n) = omega arith in
    let place : p + s + m * s ≡ p + suc m * s = omega arith in
    let line = take 16 (drop p w) in
    ap (λ k. lines_at k w p s) number
    ∙ ap (λ t. line ++ t) (lines_at-add m n w (p + s) s)
    ∙ sym (append_assoc line (lines_at m w (p + s) s) (lines_at n w (p + s + m * s) s))
    ∙ ap (λ q. (line ++ lines_at m w (p + s) s) ++ lines_at n w q s) place

length-line : (w : List ℕ) (p : ℕ) → p + 16 ≤ length w → length (take 16 (drop p w)) ≡ 16
length-line w p fits = length-take-le 16 (drop p w) (omega (arith, length-drop p w))

pub length-lines_at : (n : ℕ) (w : List ℕ) (p s : ℕ) → p + (n - 1) * s + 16 ≤ length w → length (lines_at n w p s) ≡ 16 * n
unfolding lines_at
length-lines_at zero w p s fits = refl
length-lines_at (suc zero) w p s fits =
    omega (arith, length-append (take 16 (drop p w)) [], length-line w p (omega arith))
length-lines_at (suc (suc n)) w p s fits =
    let less : suc (suc n) - 1 ≡ suc n = omega arith in
    let product : suc n * s ≡ s + n * s = omega arith in
    let given : p + s + n * s + 16 ≤ length w = omega (arith, ap (λ k. k * s) less, product, fits) in
    let again : suc n - 1 ≡ n = omega arith in
    let rest = length-lines_at (suc n) w (p + s) s (omega (arith, ap (λ k. k * s) again, given)) in
    omega (arith, length-append (take 16 (drop p w)) (lines_at (suc n) w (p + s) s), length-line w p (omega arith), rest)

no_lines : (w : List ℕ) (p s : ℕ) → lines_at 0 w p s ≡ []
unfolding lines_at
no_lines w p s = refl

-- so many of the lines, from line k on
pub lines_part : (k m n : ℕ) (w : List ℕ) (p s : ℕ) → k + m ≤ n → p + (n - 1) * s + 16 ≤ length w
    → take (16 * m) (drop (16 * k) (lines_at n w p s)) ≡ lines_at m w (p + k * s) s
lines_part k zero n w p s le fits = sym (no_lines w (p + k * s) s)
lines_part k (suc m) n w p s le fits =
    let r = n - k - suc m in
    let split : n ≡ k + (suc m + r) = omega arith in
    let all = ap (λ j. lines_at j w p s) split ∙ lines_at-add k (suc m + r) w p s in
    let behind = lines_at-add (suc m) r w (p + k * s) s in
    let first_le = mul-le-mul_right s (le_before k n m le) in
    let second : k * s + m * s ≤ (n - 1) * s = products k m n s le in
    let one : length (lines_at k w p s) ≡ 16 * k = length-lines_at k w p s (omega (arith, first_le)) in
    let less : suc m - 1 ≡ m = omega arith in
    let two : length (lines_at (suc m) w (p + k * s) s) ≡ 16 * suc m =
    length-lines_at (suc m) w (p + k * s) s (omega (arith, ap (λ j. j * s) less, second)) in
    ap (λ t. take (16 * suc m) (drop (16 * k) t)) all
    ∙ ap (take (16 * suc m)) (drop_at (lines_at k w p s) (lines_at (suc m + r) w (p + k * s) s) (16 * k) one)
    ∙ ap (take (16 * suc m)) behind
    ∙ take_at (lines_at (suc m) w (p + k * s) s) (lines_at r w (p + k * s + suc m * s) s) (16 * suc m) two
  where
    le_before : (k n m : ℕ) → k + suc m ≤ n → k - 1 ≤ n - 1
    le_before k n m le = omega arith

    products : (k m n s : ℕ) → k + suc m ≤ n → k * s + m * s ≤ (n - 1) * s
    products k m n s le =
        let h : k + m ≤ n - 1 = omega arith in
        omega (arith, mul-le-mul_right s h)

pub one_line : (w : List ℕ) (p s : ℕ) → lines_at 1 w p s ≡ take 16 (drop p w)
unfolding lines_at
one_line w p s = append-nil (take 16 (drop p w))

-- line k
pub line_part : (k n : ℕ) (w : List ℕ) (p s : ℕ) → k + 1 ≤ n → p + (n - 1) * s + 16 ≤ length w
    → take 16 (drop (16 * k) (lines_at n w p s)) ≡ take 16 (drop (p + k * s) w)
line_part k n w p s le fits = lines_part k 1 n w p s le fits ∙ one_line w (p + k * s) s

-- the sum over four lines of 16
pub four_parts : (xs ys : List ℕ) (a b c d : ℕ) → length xs ≡ 64 → length ys ≡ 64
    → a ≡ sad (take 16 (drop 0 xs)) (take 16 (drop 0 ys)) → b ≡ sad (take 16 (drop 16 xs)) (take 16 (drop 16 ys))
    → c ≡ sad (take 16 (drop 32 xs)) (take 16 (drop 32 ys)) → d ≡ sad (take 16 (drop 48 xs)) (take 16 (drop 48 ys))
    → a + b + (c + d) ≡ sad xs ys
four_parts xs ys a b c d len other ea eb ec ed =
    let s1 : a ≡ sum (take 16 (zip2 apart xs ys)) = omega (arith, sad_step xs ys 0 16 0 a (omega arith) refl ea) in
    let s2 = sad_step xs ys 16 32 a b (omega arith) s1 eb in
    let s3 = sad_step xs ys 32 48 (a + b) c (omega arith) s2 ec in
    let s4 = sad_step xs ys 48 64 (a + b + c) d (omega arith) s3 ed in
    omega (arith, s4 ∙ summed_all xs ys 64 (len ∙ sym other) (omega arith))

-- the sum over the upper and the lower half
pub two_parts : (m : ℕ) (xs ys : List ℕ) (a b : ℕ) → length xs ≡ 16 * (m + m) → length ys ≡ 16 * (m + m)
    → a ≡ sad (take (16 * m) (drop 0 xs)) (take (16 * m) (drop 0 ys))
    → b ≡ sad (take (16 * m) (drop (16 * m) xs)) (take (16 * m) (drop (16 * m) ys))
    → a + b ≡ sad xs ys
two_parts m xs ys a b len other ea eb =
    let none : 16 * m - 0 ≡ 16 * m = omega arith in
    let rest : 16 * (m + m) - 16 * m ≡ 16 * m = omega arith in
    let one = sad_step xs ys 0 (16 * m) 0 a (omega arith) refl
    (ea ∙ ap (λ k. sad (take k (drop 0 xs)) (take k (drop 0 ys))) (sym none)) in
    let two = sad_step xs ys (16 * m) (16 * (m + m)) a b (omega arith) (omega (arith, one))
    (eb ∙ ap (λ k. sad (take k (drop (16 * m) xs)) (take k (drop (16 * m) ys))) (sym rest)) in
    two ∙ summed_all xs ys (16 * (m + m)) (len ∙ sym other) (omega (arith, len))

-- the sum over four lines of a window
pub sad_four : (xs w : List ℕ) (p s a b c d : ℕ) → length xs ≡ 64 → p + 3 * s + 16 ≤ length w
    → a ≡ sad (take 16 (drop 0 xs)) (take 16 (drop p w))
    → b ≡ sad (take 16 (drop 16 xs)) (take 16 (drop (p + s) w))
    → c ≡ sad (take 16 (drop 32 xs)) (take 16 (drop (p + 2 * s) w))
    → d ≡ sad (take 16 (drop 48 xs)) (take 16 (drop (p + 3 * s) w))
    → a + b + (c + d) ≡ sad xs (lines_at 4 w p s)
sad_four xs w p s a b c d len fits ea eb ec ed =
    let ys = lines_at 4 w p s in
    let line = λ (k : ℕ) (h : k + 1 ≤ 4). line_part k 4 w p s h fits in
    let place0 : p + 0 * s ≡ p = omega arith in
    let place1 : p + 1 * s ≡ p + s = omega arith in
    four_parts xs ys a b c d len (length-lines_at 4 w p s fits)
    (ea ∙ ap (λ q. sad (take 16 (drop 0 xs)) (take 16 (drop q w))) (sym place0) ∙ ap (sad (take 16 (drop 0 xs))) (sym (line 0 (omega arith))))
    (eb ∙ ap (λ q. sad (take 16 (drop 16 xs)) (take 16 (drop q w))) (sym place1) ∙ ap (sad (take 16 (drop 16 xs))) (sym (line 1 (omega arith))))
    (ec ∙ ap (sad (take 16 (drop 32 xs))) (sym (line 2 (omega arith))))
    (ed ∙ ap (sad (take 16 (drop 48 xs))) (sym (line 3 (omega arith))))

-- four lines more
pub sad_lines : (xs w own : List ℕ) (n k p s t r q : ℕ) → k + 4 ≤ n → p + (n - 1) * s + 16 ≤ length w
    → t ≡ sum (take (16 * k) (zip2 apart xs (lines_at n w p s))) → q ≡ p + k * s → own ≡ take 64 (drop (16 * k) xs)
    → r ≡ sad own (lines_at 4 w q s) → t + r ≡ sum (take (16 * (k + 4)) (zip2 apart xs (lines_at n w p s)))
sad_lines xs w own n k p s t r q le fits so place part is =
    let ys = lines_at n w p s in
    let count : 16 * (k + 4) - 16 * k ≡ 64 = omega arith in
    let lines = lines_part k 4 n w p s le fits in
    sad_step xs ys (16 * k) (16 * (k + 4)) t r (omega arith) so
    (is ∙ ap (λ o. sad o (lines_at 4 w q s)) part
    ∙ ap (λ o. sad (take 64 (drop (16 * k) xs)) (lines_at 4 w o s)) place
    ∙ ap (sad (take 64 (drop (16 * k) xs))) (sym lines)
    ∙ ap (λ m. sad (take m (drop (16 * k) xs)) (take m (drop (16 * k) ys))) (sym count))

-- the sum over all lines
pub sad_all : (xs w : List ℕ) (n k p s t : ℕ) → 1 ≤ n → length xs ≡ 16 * n → p + (n - 1) * s + 16 ≤ length w → n ≤ k
    → t ≡ sum (take (16 * k) (zip2 apart xs (lines_at n w p s))) → t ≡ sad xs (lines_at n w p s)
sad_all xs w n k p s t some len fits all so =
    let same : length xs ≡ length (lines_at n w p s) = len ∙ sym (length-lines_at n w p s fits) in
    so ∙ summed_all xs (lines_at n w p s) (16 * k) same (omega (arith, len))

-- the sum over twice as many lines
pub sad_two : (m : ℕ) (xs w : List ℕ) (p s q a b : ℕ) → length xs ≡ 16 * (m + m) → p + (m + m - 1) * s + 16 ≤ length w → q ≡ p + m * s
    → a ≡ sad (take (16 * m) (drop 0 xs)) (lines_at m w p s) → b ≡ sad (take (16 * m) (drop (16 * m) xs)) (lines_at m w q s)
    → a + b ≡ sad xs (lines_at (m + m) w p s)
sad_two m xs w p s q a b len fits place ea eb =
    let start : p + 0 * s ≡ p = omega arith in
    two_parts m xs (lines_at (m + m) w p s) a b len (length-lines_at (m + m) w p s fits)
    (ea ∙ ap (sad (take (16 * m) (drop 0 xs))) (sym (lines_part 0 m (m + m) w p s (omega arith) fits ∙ ap (λ k. lines_at m w k s) start)))
    (eb ∙ ap (sad (take (16 * m) (drop (16 * m) xs))) (sym (lines_part m m (m + m) w p s (omega arith) fits ∙ ap (λ k. lines_at m w k s) (sym place))))
