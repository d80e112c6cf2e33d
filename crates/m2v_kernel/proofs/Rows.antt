-- Sums of differences from lines of means.
use Rattle.std.proofs.Common.{◌≡◌, ℕ, ◌+◌, ◌-◌, ◌*◌, ◌≤◌, List, length, take, drop, ap, sym, ◌∙◌, arith}
use Rattle.std.specs.Simd.Lanes.{zip2}
use Rattle.std.proofs.lemmas.Simd.{length-zip2}
use Rattle.m2v_kernel.specs.Sums.{sad, mean, pair, quarter, lines_at, means_at, pairs_at, quarters_at}
use Rattle.m2v_kernel.proofs.Steps.{drop-zip2, take-zip2}
use Rattle.m2v_kernel.proofs.Windows.{length-lines_at, lines_part, one_line, four_parts, two_parts}

-- a part of what is made place by place
part-zip2 : (f : ℕ → ℕ → ℕ) (i n : ℕ) (xs ys : List ℕ) → take n (drop i (zip2 f xs ys)) ≡ zip2 f (take n (drop i xs)) (take n (drop i ys))
part-zip2 f i n xs ys = ap (take n) (drop-zip2 f i xs ys) ∙ take-zip2 f n (drop i xs) (drop i ys)

-- two rows of lines of which the second one stands `b` behind the first, place by place
module _ (f : ℕ → ℕ → ℕ) (w : List ℕ) (b s : ℕ) where
  length-both : (n p : ℕ) → p + b + (n - 1) * s + 16 ≤ length w → length (zip2 f (lines_at n w p s) (lines_at n w (p + b) s)) ≡ 16 * n
  length-both n p fits =
      let one = length-lines_at n w p s (omega (arith, fits)) in
      let two = length-lines_at n w (p + b) s fits in
      length-zip2 f (lines_at n w p s) (lines_at n w (p + b) s) (one ∙ sym two) ∙ one

  both_part : (k m n p : ℕ) → k + m ≤ n → p + b + (n - 1) * s + 16 ≤ length w
      → take (16 * m) (drop (16 * k) (zip2 f (lines_at n w p s) (lines_at n w (p + b) s))) ≡ zip2 f (lines_at m w (p + k * s) s) (lines_at m w (p + k * s + b) s)
  both_part k m n p le fits =
      let place : p + b + k * s ≡ p + k * s + b = omega arith in
      part-zip2 f (16 * k) (16 * m) (lines_at n w p s) (lines_at n w (p + b) s)
      ∙ (λ i. zip2 f (lines_part k m n w p s le (omega (arith, fits)) i) ((lines_part k m n w (p + b) s le fits ∙ ap (λ q. lines_at m w q s) place) i))

  both_one : (p : ℕ) → zip2 f (lines_at 1 w p s) (lines_at 1 w (p + b) s) ≡ zip2 f (take 16 (drop p w)) (take 16 (drop (p + b) w))
  both_one p = λ i. zip2 f (one_line w p s i) (one_line w (p + b) s i)

module _ (w : List ℕ) (b s : ℕ) where
  length-means : (n p : ℕ) → p + b + (n - 1) * s + 16 ≤ length w → length (means_at n w p b s) ≡ 16 * n
  unfolding means_at
  length-means n p fits = length-both mean w b s n p fits

  means_part : (k m n p : ℕ) → k + m ≤ n → p + b + (n - 1) * s + 16 ≤ length w
      → take (16 * m) (drop (16 * k) (means_at n w p b s)) ≡ means_at m w (p + k * s) b s
  unfolding means_at
  means_part k m n p le fits = both_part mean w b s k m n p le fits

  means_one : (p : ℕ) → means_at 1 w p b s ≡ zip2 mean (take 16 (drop p w)) (take 16 (drop (p + b) w))
  unfolding means_at
  means_one p = both_one mean w b s p

-- the sum over four lines of means
pub means_four : (xs w : List ℕ) (p h s a b c d : ℕ) → length xs ≡ 64 → p + h + 3 * s + 16 ≤ length w
    → a ≡ sad (take 16 (drop 0 xs)) (zip2 mean (take 16 (drop p w)) (take 16 (drop (p + h) w)))
    → b ≡ sad (take 16 (drop 16 xs)) (zip2 mean (take 16 (drop (p + s) w)) (take 16 (drop (p + s + h) w)))
    → c ≡ sad (take 16 (drop 32 xs)) (zip2 mean (take 16 (drop (p + 2 * s) w)) (take 16 (drop (p + 2 * s + h) w)))
    → d ≡ sad (take 16 (drop 48 xs)) (zip2 mean (take 16 (drop (p + 3 * s) w)) (take 16 (drop (p + 3 * s + h) w)))
    → a + b + (c + d) ≡ sad xs (means_at 4 w p h s)
means_four xs w p h s a b c d len fits ea eb ec ed =
    let ys = means_at 4 w p h s in
    let line = λ (k : ℕ) (le : k + 1 ≤ 4). means_part w h s k 1 4 p le fits ∙ means_one w h s (p + k * s) in
    let place0 : p + 0 * s ≡ p = omega arith in
    let place1 : p + 1 * s ≡ p + s = omega arith in
    let at : ℕ → List ℕ = λ q. zip2 mean (take 16 (drop q w)) (take 16 (drop (q + h) w)) in
    four_parts xs ys a b c d len (length-means w h s 4 p fits)
    (ea ∙ ap (λ q. sad (take 16 (drop 0 xs)) (at q)) (sym place0) ∙ ap (sad (take 16 (drop 0 xs))) (sym (line 0 (omega arith))))
    (eb ∙ ap (λ q. sad (take 16 (drop 16 xs)) (at q)) (sym place1) ∙ ap (sad (take 16 (drop 16 xs))) (sym (line 1 (omega arith))))
    (ec ∙ ap (sad (take 16 (drop 32 xs))) (sym (line 2 (omega arith))))
    (ed ∙ ap (sad (take 16 (drop 48 xs))) (sym (line 3 (omega arith))))

-- the sum over twice as many
pub means_two : (m : ℕ) (xs w : List ℕ) (p h s q a b : ℕ) → length xs ≡ 16 * (m + m) → p + h + (m + m - 1) * s + 16 ≤ length w → q ≡ p + m * s
    → a ≡ sad (take (16 * m) (drop 0 xs)) (means_at m w p h s) → b ≡ sad (take (16 * m) (drop (16 * m) xs)) (means_at m w q h s)
    → a + b ≡ sad xs (means_at (m + m) w p h s)
means_two m xs w p h s q a b len fits place ea eb =
    let start : p + 0 * s ≡ p = omega arith in
    two_parts m xs (means_at (m + m) w p h s) a b len (length-means w h s (m + m) p fits)
    (ea ∙ ap (sad (take (16 * m) (drop 0 xs))) (sym (means_part w h s 0 m (m + m) p (omega arith) fits ∙ ap (λ k. means_at m w k h s) start)))
    (eb ∙ ap (sad (take (16 * m) (drop (16 * m) xs))) (sym (means_part w h s m m (m + m) p (omega arith) fits ∙ ap (λ k. means_at m w k h s) (sym place))))

-- lines between four samples
module _ (w : List ℕ) (s : ℕ) where
  length-quarters : (n p : ℕ) → p + s + 1 + (n - 1) * s + 16 ≤ length w → length (quarters_at n w p s) ≡ 16 * n
  unfolding quarters_at
  length-quarters n p fits =
      let one = length-both pair w 1 s n p (omega (arith, fits)) in
      let two = length-both pair w 1 s n (p + s) fits in
      length-zip2 quarter (pairs_at n w p s) (pairs_at n w (p + s) s) (one ∙ sym two) ∙ one

  quarters_part : (k m n p : ℕ) → k + m ≤ n → p + s + 1 + (n - 1) * s + 16 ≤ length w
      → take (16 * m) (drop (16 * k) (quarters_at n w p s)) ≡ quarters_at m w (p + k * s) s
  unfolding quarters_at
  quarters_part k m n p le fits =
      let place : p + s + k * s ≡ p + k * s + s = omega arith in
      part-zip2 quarter (16 * k) (16 * m) (pairs_at n w p s) (pairs_at n w (p + s) s)
      ∙ (λ i. zip2 quarter (both_part pair w 1 s k m n p le (omega (arith, fits)) i) ((both_part pair w 1 s k m n (p + s) le fits ∙ ap (λ q. pairs_at m w q s) place) i))

  quarters_one : (p : ℕ) → quarters_at 1 w p s
      ≡ zip2 quarter (zip2 pair (take 16 (drop p w)) (take 16 (drop (p + 1) w))) (zip2 pair (take 16 (drop (p + s) w)) (take 16 (drop (p + s + 1) w)))
  unfolding quarters_at
  quarters_one p = λ i. zip2 quarter (both_one pair w 1 s p i) (both_one pair w 1 s (p + s) i)

abbrev quarter_line : List ℕ → ℕ → ℕ → List ℕ
quarter_line w s q = zip2 quarter (zip2 pair (take 16 (drop q w)) (take 16 (drop (q + 1) w))) (zip2 pair (take 16 (drop (q + s) w)) (take 16 (drop (q + s + 1) w)))

pub quarters_four : (xs w : List ℕ) (p s a b c d : ℕ) → length xs ≡ 64 → p + 4 * s + 17 ≤ length w
    → a ≡ sad (take 16 (drop 0 xs)) (quarter_line w s p)
    → b ≡ sad (take 16 (drop 16 xs)) (quarter_line w s (p + s))
    → c ≡ sad (take 16 (drop 32 xs)) (quarter_line w s (p + 2 * s))
    → d ≡ sad (take 16 (drop 48 xs)) (quarter_line w s (p + 3 * s))
    → a + b + (c + d) ≡ sad xs (quarters_at 4 w p s)
quarters_four xs w p s a b c d len fits ea eb ec ed =
    let ys = quarters_at 4 w p s in
    let room : p + s + 1 + (4 - 1) * s + 16 ≤ length w = omega (arith, fits) in
    let line = λ (k : ℕ) (le : k + 1 ≤ 4). quarters_part w s k 1 4 p le room ∙ quarters_one w s (p + k * s) in
    let place0 : p + 0 * s ≡ p = omega arith in
    let place1 : p + 1 * s ≡ p + s = omega arith in
    four_parts xs ys a b c d len (length-quarters w s 4 p room)
    (ea ∙ ap (λ q. sad (take 16 (drop 0 xs)) (quarter_line w s q)) (sym place0) ∙ ap (sad (take 16 (drop 0 xs))) (sym (line 0 (omega arith))))
    (eb ∙ ap (λ q. sad (take 16 (drop 16 xs)) (quarter_line w s q)) (sym place1) ∙ ap (sad (take 16 (drop 16 xs))) (sym (line 1 (omega arith))))
    (ec ∙ ap (sad (take 16 (drop 32 xs))) (sym (line 2 (omega arith))))
    (ed ∙ ap (sad (take 16 (drop 48 xs))) (sym (line 3 (omega arith))))

pub quarters_two : (m : ℕ) (xs w : List ℕ) (p s q a b : ℕ) → length xs ≡ 16 * (m + m) → p + s + 1 + (m + m - 1) * s + 16 ≤ length w → q ≡ p + m * s
    → a ≡ sad (take (16 * m) (drop 0 xs)) (quarters_at m w p s) → b ≡ sad (take (16 * m) (drop (16 * m) xs)) (quarters_at m w q s)
    → a + b ≡ sad xs (quarters_at (m + m) w p s)
quarters_two m xs w p s q a b len fits place ea eb =
    let start : p + 0 * s ≡ p = omega arith in
    two_parts m xs (quarters_at (m + m) w p s) a b len (length-quarters w s (m + m) p fits)
    (ea ∙ ap (sad (take (16 * m) (drop 0 xs))) (sym (quarters_part w s 0 m (m + m) p (omega arith) fits ∙ ap (λ k. quarters_at m w k s) start)))
    (eb ∙ ap (sad (take (16 * m) (drop (16 * m) xs))) (sym (quarters_part w s m m (m + m) p (omega arith) fits ∙ ap (λ k. quarters_at m w k s) (sym place))))
