use Rattle.std.proofs.Common.{ℕ, zero, suc, ◌*◌, ◌<◌, ◌≤◌, arith, T, ℤ, pos, negsuc, neg_ℤ, ◌+ℤ◌, ◌*ℤ◌, ◌≤ℤ◌}
use Rattle.std.specs.Int.Signed.{le_z, le_z_yes}
use Rattle.std.proofs.Math.Nat.{mul-le-mul_left}
use Rattle.std.proofs.lemmas.Int.{ints}
use Rattle.m2v_idct.specs.Forward.{cosine, projection}
use Rattle.m2v_idct.specs.Ranges.{IsDoubleSum, IsSample}
use Rattle.m2v_idct.specs.Sums.{sum_below}
use Rattle.m2v_idct.proofs.Projections.{eight_cases}

-- the greatest and the least product of c with a number from -low to high
top : ℕ → ℕ → ℤ → ℤ
top low high (pos a) = pos (a * high)
top low high (negsuc a) = pos (suc a * low)

bottom : ℕ → ℕ → ℤ → ℤ
bottom low high (pos a) = neg_ℤ (pos (a * low))
bottom low high (negsuc a) = neg_ℤ (pos (suc a * high))

times_between : (low high : ℕ) (c z : ℤ) → neg_ℤ (pos low) ≤ℤ z → z ≤ℤ pos high
    → (bottom low high c ≤ℤ (c *ℤ z)) × ((c *ℤ z) ≤ℤ top low high c)
unfolding top bottom
times_between low high (pos a) (pos b) l h =
    let lb : b ≤ high = omega (arith, ints, h) in
    let p = mul-le-mul_left a lb in
    (omega (arith, ints), omega (arith, ints, p))
times_between low high (pos a) (negsuc b) l h =
    let lb : suc b ≤ low = omega (arith, ints, l) in
    let p = mul-le-mul_left a lb in
    (omega (arith, ints, p), omega (arith, ints))
times_between low high (negsuc a) (pos b) l h =
    let lb : b ≤ high = omega (arith, ints, h) in
    let p = mul-le-mul_left (suc a) lb in
    (omega (arith, ints, p), omega (arith, ints))
times_between low high (negsuc a) (negsuc b) l h =
    let lb : suc b ≤ low = omega (arith, ints, l) in
    let p = mul-le-mul_left (suc a) lb in
    (omega (arith, ints), omega (arith, ints, p))

plus_between : (a b c d e f : ℤ) → a ≤ℤ b → b ≤ℤ c → d ≤ℤ e → e ≤ℤ f → ((a +ℤ d) ≤ℤ (b +ℤ e)) × ((b +ℤ e) ≤ℤ (c +ℤ f))
plus_between a b c d e f p q r s = (omega (arith, ints), omega (arith, ints))

sum_between : (n low high : ℕ) (c g : ℕ → ℤ) → ((k : ℕ) → k < n → (neg_ℤ (pos low) ≤ℤ g k) × (g k ≤ℤ pos high))
    → (sum_below n (λ k. bottom low high (c k)) ≤ℤ sum_below n (λ k. c k *ℤ g k))
    × (sum_below n (λ k. c k *ℤ g k) ≤ℤ sum_below n (λ k. top low high (c k)))
unfolding sum_below
sum_between zero low high c g h = (omega (arith, ints), omega (arith, ints))
sum_between (suc n) low high c g h =
    let r = sum_between n low high c g (λ k l. h k (omega arith)) in
    let one = h n (omega arith) in
    let t = times_between low high (c n) (g n) one.0 one.1 in
    plus_between (sum_below n (λ k. bottom low high (c k))) (sum_below n (λ k. c k *ℤ g k)) (sum_below n (λ k. top low high (c k)))
    (bottom low high (c n)) (c n *ℤ g n) (top low high (c n)) r.0 r.1 t.0 t.1

between : (a b c d e : ℤ) → a ≤ℤ b → b ≤ℤ c → c ≤ℤ d → d ≤ℤ e → (a ≤ℤ c) × (c ≤ℤ e)
between a b c d e p q r s = (omega (arith, ints), omega (arith, ints))

-- one is nowhere above the other, as computing tells
ordered : (f g : ℕ → ℤ) → T (le_z (f 0) (g 0)) → T (le_z (f 1) (g 1)) → T (le_z (f 2) (g 2)) → T (le_z (f 3) (g 3))
    → T (le_z (f 4) (g 4)) → T (le_z (f 5) (g 5)) → T (le_z (f 6) (g 6)) → T (le_z (f 7) (g 7)) → (u : ℕ) → u < 8 → f u ≤ℤ g u
ordered f g t0 t1 t2 t3 t4 t5 t6 t7 =
    eight_cases (λ u. f u ≤ℤ g u) (le_z_yes t0) (le_z_yes t1) (le_z_yes t2) (le_z_yes t3) (le_z_yes t4) (le_z_yes t5) (le_z_yes t6) (le_z_yes t7)

module _ (low high : ℕ) where
  abbrev least : ℕ → ℤ
  least u = sum_below 8 (λ k. bottom low high (cosine u k))

  abbrev most : ℕ → ℤ
  most u = sum_below 8 (λ k. top low high (cosine u k))

  projection_between : (a b : ℤ) → ((u : ℕ) → u < 8 → a ≤ℤ least u) → ((u : ℕ) → u < 8 → most u ≤ℤ b) → (u : ℕ) (g : ℕ → ℤ) → u < 8
      → ((k : ℕ) → k < 8 → (neg_ℤ (pos low) ≤ℤ g k) × (g k ≤ℤ pos high)) → (a ≤ℤ projection u g) × (projection u g ≤ℤ b)
  unfolding projection
  projection_between a b p q u g l h =
      let s = sum_between 8 low high (cosine u) g h in
      between a (least u) (sum_below 8 (λ k. cosine u k *ℤ g k)) (most u) b (p u l) s.0 s.1 (q u l)

-- the sum of eight samples, each times a cosine
pub single_between : (u : ℕ) (g : ℕ → ℤ) → u < 8 → ((k : ℕ) → k < 8 → IsSample (g k))
    → (neg_ℤ (pos 5931008) ≤ℤ projection u g) × (projection u g ≤ℤ pos 5919424)
unfolding sum_below cosine bottom top
single_between =
    projection_between 256 255 (neg_ℤ (pos 5931008)) (pos 5919424)
    (ordered (λ u. neg_ℤ (pos 5931008)) (least 256 255) tt tt tt tt tt tt tt tt)
    (ordered (most 256 255) (λ u. pos 5919424) tt tt tt tt tt tt tt tt)

-- the sum of eight such sums, each times a cosine
pub double_between : (u : ℕ) (g : ℕ → ℤ) → u < 8 → ((k : ℕ) → k < 8 → (neg_ℤ (pos 5931008) ≤ℤ g k) × (g k ≤ℤ pos 5919424))
    → IsDoubleSum (projection u g)
unfolding sum_below cosine bottom top
double_between =
    projection_between 5931008 5919424 (neg_ℤ (pos 137409593344)) (pos 137275404288)
    (ordered (λ u. neg_ℤ (pos 137409593344)) (least 5931008 5919424) tt tt tt tt tt tt tt tt)
    (ordered (most 5931008 5919424) (λ u. pos 137275404288) tt tt tt tt tt tt tt tt)
