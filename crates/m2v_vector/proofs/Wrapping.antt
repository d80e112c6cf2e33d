-- Components brought back into their range.
use Rattle.std.proofs.Common.{◌≡◌, ℕ, ◌*◌, ◌<◌, true, false, cond, ℤ, pos, neg_ℤ, ◌+ℤ◌, ◌-ℤ◌, ◌*ℤ◌, ◌<ℤ◌, ◌≤ℤ◌, ◌⊎◌, inl, inr, arith, refl, ap, sym, subst, ◌∙◌}
use Rattle.std.specs.Prelude.{int_lt, int_le}
use Rattle.std.proofs.lemmas.Int.{ints, by_lt_z}
use Rattle.std.proofs.lemmas.Bool.{cond-true}
use Rattle.m2v_vector.specs.Vectors.{IsVector, IsDifference, wrapped, joined, between, difference, half, opposite}

lt_true : (a b : ℤ) → a <ℤ b → int_lt a b ≡ true
lt_true a b h = grind (arith, ints)

lt_false : (a b : ℤ) → b ≤ℤ a → int_lt a b ≡ false
lt_false a b h = grind (arith, ints)

le_true : (a b : ℤ) → a ≤ℤ b → int_le a b ≡ true
le_true a b h = grind (arith, ints)

le_false : (a b : ℤ) → b <ℤ a → int_le a b ≡ false
le_false a b h = grind (arith, ints)

pub wrap_low : (f : ℕ) (v : ℤ) → v <ℤ neg_ℤ (pos (16 * f)) → wrapped f v ≡ v +ℤ pos (32 * f)
unfolding wrapped
wrap_low f v h = cond-true _ _ _ (lt_true v (neg_ℤ (pos (16 * f))) h)

pub wrap_high : (f : ℕ) (v : ℤ) → pos (16 * f) ≤ℤ v → wrapped f v ≡ v -ℤ pos (32 * f)
unfolding wrapped
wrap_high f v h =
    let low : neg_ℤ (pos (16 * f)) ≤ℤ v = omega (arith, ints, h) in
    rw (lt_false v (neg_ℤ (pos (16 * f))) low, le_true (pos (16 * f)) v h) refl

pub wrap_none : (f : ℕ) (v : ℤ) → neg_ℤ (pos (16 * f)) ≤ℤ v → v <ℤ pos (16 * f) → wrapped f v ≡ v
unfolding wrapped
wrap_none f v l h = rw (lt_false v (neg_ℤ (pos (16 * f))) l, le_false (pos (16 * f)) v h) refl

-- what wrapping adds
pub wrap_cases : (f : ℕ) (v : ℤ) → (wrapped f v ≡ v +ℤ pos (32 * f)) ⊎ (wrapped f v ≡ v -ℤ pos (32 * f)) ⊎ (wrapped f v ≡ v)
wrap_cases f v =
    by_lt_z v (neg_ℤ (pos (16 * f))) (λ low. inl (wrap_low f v low))
    (λ ge. by_lt_z v (pos (16 * f)) (λ lt. inr (inr (wrap_none f v ge lt))) (λ high. inr (inl (wrap_high f v high))))

pub step_back : (f : ℕ) (p v : ℤ) → 0 < f → IsVector f p → IsVector f v → wrapped f (p +ℤ wrapped f (v -ℤ p)) ≡ v
step_back f p v some hp hv =
    by_lt_z (v -ℤ p) (neg_ℤ (pos (16 * f)))
    (λ low. ap (λ (d : ℤ). wrapped f (p +ℤ d)) (wrap_low f (v -ℤ p) low) ∙ wrap_high f _ (omega (arith, ints, hp.0, hp.1, hv.0, hv.1)) ∙ omega (arith, ints))
    (λ ge. by_lt_z (v -ℤ p) (pos (16 * f))
    (λ lt. ap (λ (d : ℤ). wrapped f (p +ℤ d)) (wrap_none f (v -ℤ p) ge lt) ∙ wrap_none f _ (omega (arith, ints, hv.0)) (omega (arith, ints, hv.1)) ∙ omega (arith, ints))
    (λ high. ap (λ (d : ℤ). wrapped f (p +ℤ d)) (wrap_high f (v -ℤ p) high) ∙ wrap_low f _ (omega (arith, ints, hp.0, hp.1, hv.0, hv.1)) ∙ omega (arith, ints)))

pub round_trip : (f : ℕ) (p v code : ℤ) (residual : ℕ) → 0 < f → IsVector f p → IsVector f v → difference f code residual ≡ between f p v → joined f p code residual ≡ v
unfolding joined between
round_trip f p v code residual some hp hv e = ap (λ (d : ℤ). wrapped f (p +ℤ d)) e ∙ step_back f p v some hp hv

-- two differences that lead to one vector
pub same_or_edges : (f : ℕ) (p d e : ℤ) → 0 < f → IsDifference f d → IsDifference f e → wrapped f (p +ℤ d) ≡ wrapped f (p +ℤ e)
    → (d ≡ e) ⊎ ((d ≡ pos (16 * f)) × (e ≡ neg_ℤ (pos (16 * f)))) ⊎ ((d ≡ neg_ℤ (pos (16 * f))) × (e ≡ pos (16 * f)))
same_or_edges f p d e some hd he same = from (wrap_cases f (p +ℤ d)) (wrap_cases f (p +ℤ e))
  where
    Cases : ℤ → Type 0
    Cases v = (wrapped f v ≡ v +ℤ pos (32 * f)) ⊎ (wrapped f v ≡ v -ℤ pos (32 * f)) ⊎ (wrapped f v ≡ v)

    from : Cases (p +ℤ d) → Cases (p +ℤ e) → (d ≡ e) ⊎ ((d ≡ pos (16 * f)) × (e ≡ neg_ℤ (pos (16 * f)))) ⊎ ((d ≡ neg_ℤ (pos (16 * f))) × (e ≡ pos (16 * f)))
    from (inl a) (inl b) = inl (omega (arith, ints, a, b, same))
    from (inl a) (inr (inl b)) = absurd (omega (arith, ints, a, b, same, hd.0, hd.1, he.0, he.1))
    from (inl a) (inr (inr b)) = inr (inr (omega (arith, ints, a, b, same, hd.0, he.1), omega (arith, ints, a, b, same, hd.0, he.1)))
    from (inr (inl a)) (inl b) = absurd (omega (arith, ints, a, b, same, hd.0, hd.1, he.0, he.1))
    from (inr (inl a)) (inr (inl b)) = inl (omega (arith, ints, a, b, same))
    from (inr (inl a)) (inr (inr b)) = inr (inl (omega (arith, ints, a, b, same, hd.1, he.0), omega (arith, ints, a, b, same, hd.1, he.0)))
    from (inr (inr a)) (inl b) = inr (inl (omega (arith, ints, a, b, same, hd.1, he.0), omega (arith, ints, a, b, same, hd.1, he.0)))
    from (inr (inr a)) (inr (inl b)) = inr (inr (omega (arith, ints, a, b, same, hd.0, he.1), omega (arith, ints, a, b, same, hd.0, he.1)))
    from (inr (inr a)) (inr (inr b)) = inl (omega (arith, ints, a, b, same))

-- ---- what the code computes

pub between_is : (f g : ℕ) (p v x r : ℤ) → r ≡ wrapped g x → g ≡ f → x ≡ v -ℤ p → r ≡ between f p v
unfolding between
between_is f g p v x r e same is = e ∙ (λ i. wrapped (same i) (is i))

pub joined_is : (f g residual : ℕ) (p code read x d r : ℤ) → r ≡ wrapped g x → g ≡ f → x ≡ p +ℤ d → d ≡ difference g read residual → read ≡ code → r ≡ joined f p code residual
unfolding joined
joined_is f g residual p code read x d r e same is of from = e ∙ (λ i. wrapped (same i) (is i)) ∙ (λ i. wrapped f (p +ℤ of i)) ∙ (λ i. wrapped f (p +ℤ difference (same i) (from i) residual))

pub opposite_is : (v dm m k x h y a s r : ℤ) → h ≡ half x → x ≡ y +ℤ a → y ≡ v *ℤ m → a ≡ cond (int_lt (pos 0) v) (pos 1) (pos 0) → s ≡ dm +ℤ k → r ≡ h +ℤ s → r ≡ opposite v dm m k
unfolding opposite
opposite_is v dm m k x h y a s r of sum product above added is = is ∙ (λ i. of i +ℤ added i) ∙ (λ i. half (sum i) +ℤ (dm +ℤ k)) ∙ (λ i. half (product i +ℤ above i) +ℤ (dm +ℤ k))

-- the difference that is written lies in the range of vectors
pub between_within : (f : ℕ) (p v : ℤ) → IsVector f p → IsVector f v → IsVector f (between f p v)
unfolding between
between_within f p v hp hv =
    by_lt_z (v -ℤ p) (neg_ℤ (pos (16 * f)))
    (λ low. subst (λ (z : ℤ). IsVector f z) (sym (wrap_low f (v -ℤ p) low)) (omega (arith, ints, hp.0, hp.1, hv.0, hv.1), omega (arith, ints, low)))
    (λ ge. by_lt_z (v -ℤ p) (pos (16 * f))
    (λ lt. subst (λ (z : ℤ). IsVector f z) (sym (wrap_none f (v -ℤ p) ge lt)) (ge, lt))
    (λ high. subst (λ (z : ℤ). IsVector f z) (sym (wrap_high f (v -ℤ p) high)) (omega (arith, ints, high), omega (arith, ints, hp.0, hp.1, hv.0, hv.1))))
