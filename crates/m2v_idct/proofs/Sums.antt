use Rattle.std.proofs.Common.{◌≡◌, ℕ, zero, suc, ◌+◌, ◌*◌, ◌<◌, arith, add-zero, add-one, add-suc, mul-zero, refl, ap, ◌∙◌, sym, ℤ, pos, negsuc, neg_ℤ, ◌+ℤ◌, ◌-ℤ◌, ◌*ℤ◌}
use Rattle.std.proofs.Math.IntN.{*ℤ_comm, +ℤ_invr, zero-*ℤ, suc_ℤ-*ℤ, pred_ℤ-*ℤ}
use Rattle.std.proofs.lemmas.Int.{ints}
use Rattle.m2v_idct.specs.Sums.{sum_below}

pub plus_zero : (a : ℤ) → a ≡ a +ℤ pos 0
plus_zero a = omega (arith, ints)

pub times_zero : (c : ℤ) → pos 0 ≡ c *ℤ pos 0
times_zero c = omega (arith, ints)

pub plus_plus : (a b c : ℤ) → (a +ℤ b) +ℤ c ≡ a +ℤ (b +ℤ c)
plus_plus a b c = omega (arith, ints)

crossed : (a b c d : ℤ) → (a +ℤ b) +ℤ (c +ℤ d) ≡ (a +ℤ c) +ℤ (b +ℤ d)
crossed a b c d = omega (arith, ints)

crossed_less : (a b c d : ℤ) → (a -ℤ b) +ℤ (c -ℤ d) ≡ (a +ℤ c) -ℤ (b +ℤ d)
crossed_less a b c d = omega (arith, ints)

times_plus_up : (n : ℕ) (a b : ℤ) → pos n *ℤ a +ℤ pos n *ℤ b ≡ pos n *ℤ (a +ℤ b)
times_plus_up zero a b = rw (zero-*ℤ a, zero-*ℤ b, zero-*ℤ (a +ℤ b)) refl
times_plus_up (suc n) a b =
    rw (suc_ℤ-*ℤ (pos n) a, suc_ℤ-*ℤ (pos n) b, suc_ℤ-*ℤ (pos n) (a +ℤ b), ← times_plus_up n a b) (crossed (pos n *ℤ a) a (pos n *ℤ b) b)

times_plus_down : (n : ℕ) (a b : ℤ) → negsuc n *ℤ a +ℤ negsuc n *ℤ b ≡ negsuc n *ℤ (a +ℤ b)
times_plus_down zero a b = omega (arith, ints)
times_plus_down (suc n) a b =
    rw (pred_ℤ-*ℤ (negsuc n) a, pred_ℤ-*ℤ (negsuc n) b, pred_ℤ-*ℤ (negsuc n) (a +ℤ b), ← times_plus_down n a b) (crossed_less (negsuc n *ℤ a) a (negsuc n *ℤ b) b)

times_plus : (c a b : ℤ) → c *ℤ a +ℤ c *ℤ b ≡ c *ℤ (a +ℤ b)
times_plus (pos n) a b = times_plus_up n a b
times_plus (negsuc n) a b = times_plus_down n a b

pub sum_below-more : (n : ℕ) (g : ℕ → ℤ) → sum_below (n + 1) g ≡ sum_below n g +ℤ g n
unfolding sum_below
sum_below-more n g = rw add-one refl

pub sum_below-same : (n : ℕ) (g h : ℕ → ℤ) → ((k : ℕ) → k < n → g k ≡ h k) → sum_below n g ≡ sum_below n h
unfolding sum_below
sum_below-same zero g h e = refl
sum_below-same (suc n) g h e = (λ i. sum_below-same n g h (λ k l. e k (omega arith)) i +ℤ e n (omega arith) i)

-- the first n, and m more
pub sum_below-add : (n m : ℕ) (g : ℕ → ℤ) → sum_below (n + m) g ≡ sum_below n g +ℤ sum_below m (λ k. g (n + k))
unfolding sum_below
sum_below-add n zero g = rw add-zero (plus_zero (sum_below n g))
sum_below-add n (suc m) g = rw add-suc (ap (λ s. s +ℤ g (n + m)) (sum_below-add n m g) ∙ plus_plus (sum_below n g) (sum_below m (λ k. g (n + k))) (g (n + m)))

-- a common factor
pub sum_below-times : (n : ℕ) (c : ℤ) (g : ℕ → ℤ) → sum_below n (λ k. c *ℤ g k) ≡ c *ℤ sum_below n g
unfolding sum_below
sum_below-times zero c g = times_zero c
sum_below-times (suc n) c g = ap (λ s. s +ℤ c *ℤ g n) (sum_below-times n c g) ∙ times_plus c (sum_below n g) (g n)

-- n lines of m are n times m
pub sum_below-lines : (n m : ℕ) (g : ℕ → ℤ) → sum_below n (λ y. sum_below m (λ x. g (m * y + x))) ≡ sum_below (m * n) g
unfolding sum_below
sum_below-lines zero m g = rw mul-zero refl
sum_below-lines (suc n) m g =
    ap (λ s. s +ℤ sum_below m (λ x. g (m * n + x))) (sum_below-lines n m g) ∙ sym (sum_below-add (m * n) m g) ∙ (let e : m * n + m ≡ m * suc n = omega arith in ap (λ k. sum_below k g) e)

plus_times : (a b c : ℤ) → (a +ℤ b) *ℤ c ≡ a *ℤ c +ℤ b *ℤ c
plus_times a b c =
    *ℤ_comm (a +ℤ b) c ∙ sym (times_plus c a b) ∙ (λ i. *ℤ_comm c a i +ℤ *ℤ_comm c b i)

opposite : (p q : ℤ) → p +ℤ q ≡ pos 0 → q ≡ neg_ℤ p
opposite p q e = omega (arith, ints, e)

neg_times : (a b : ℤ) → neg_ℤ a *ℤ b ≡ neg_ℤ (a *ℤ b)
neg_times a b =
    opposite (a *ℤ b) (neg_ℤ a *ℤ b) (sym (plus_times a (neg_ℤ a) b) ∙ ap (λ z. z *ℤ b) (+ℤ_invr a) ∙ zero-*ℤ b)

times_times_up : (n : ℕ) (b c : ℤ) → pos n *ℤ b *ℤ c ≡ pos n *ℤ (b *ℤ c)
times_times_up zero b c = ap (λ z. z *ℤ c) (zero-*ℤ b) ∙ zero-*ℤ c ∙ sym (zero-*ℤ (b *ℤ c))
times_times_up (suc n) b c =
    ap (λ z. z *ℤ c) (suc_ℤ-*ℤ (pos n) b) ∙ plus_times (pos n *ℤ b) b c
    ∙ ap (λ z. z +ℤ b *ℤ c) (times_times_up n b c) ∙ sym (suc_ℤ-*ℤ (pos n) (b *ℤ c))

pub times_times : (a b c : ℤ) → a *ℤ b *ℤ c ≡ a *ℤ (b *ℤ c)
times_times (pos n) b c = times_times_up n b c
times_times (negsuc n) b c =
    ap (λ z. z *ℤ c) (neg_times (pos (suc n)) b) ∙ neg_times (pos (suc n) *ℤ b) c
    ∙ ap neg_ℤ (times_times_up (suc n) b c) ∙ sym (neg_times (pos (suc n)) (b *ℤ c))
