use Rattle.std.proofs.Common.{◌≡◌, ℕ, ◌<◌, List, [], ◌∷◌, below_more, arith, ap, refl, get_or, ℤ, ◌*ℤ◌}
use Rattle.m2v_idct.specs.Block.{nth}
use Rattle.m2v_idct.specs.Forward.{cosine, projection}
use Rattle.m2v_idct.specs.ForwardLanes.{eight}
use Rattle.m2v_idct.specs.Sums.{sum_below}
use Rattle.m2v_idct.proofs.Sums.{sum_below-same}

pub eight_cases : (P : ℕ → Type 0) → P 0 → P 1 → P 2 → P 3 → P 4 → P 5 → P 6 → P 7 → (u : ℕ) → u < 8 → P u
eight_cases P p0 p1 p2 p3 p4 p5 p6 p7 =
    below_more P 7 (below_more P 6 (below_more P 5 (below_more P 4 (below_more P 3 (below_more P 2 (below_more P 1 (below_more P 0
    (λ k l. absurd (omega arith)) p0) p1) p2) p3) p4) p5) p6) p7

-- a line of eight, place by place
pub eight_at : {A : Type 0} (d : A) (g : ℕ → A) (k : ℕ) → k < 8 → g k ≡ get_or (g 0 ∷ g 1 ∷ g 2 ∷ g 3 ∷ g 4 ∷ g 5 ∷ g 6 ∷ g 7 ∷ []) k d
eight_at d g = eight_cases (λ k. g k ≡ get_or (g 0 ∷ g 1 ∷ g 2 ∷ g 3 ∷ g 4 ∷ g 5 ∷ g 6 ∷ g 7 ∷ []) k d) refl refl refl refl refl refl refl refl

pub eight_same : (g h : ℕ → ℤ) → ((k : ℕ) → k < 8 → g k ≡ h k) → eight g ≡ eight h
eight_same g h e =
    let e0 = e 0 (omega arith) in let e1 = e 1 (omega arith) in let e2 = e 2 (omega arith) in let e3 = e 3 (omega arith) in
    let e4 = e 4 (omega arith) in let e5 = e 5 (omega arith) in let e6 = e 6 (omega arith) in let e7 = e 7 (omega arith) in
    (λ i. e0 i ∷ e1 i ∷ e2 i ∷ e3 i ∷ e4 i ∷ e5 i ∷ e6 i ∷ e7 i ∷ [])

pub projection_same : (u : ℕ) (g h : ℕ → ℤ) → ((k : ℕ) → k < 8 → g k ≡ h k) → projection u g ≡ projection u h
unfolding projection
projection_same u g h e = sum_below-same 8 (λ k. cosine u k *ℤ g k) (λ k. cosine u k *ℤ h k) (λ k l. ap (λ z. cosine u k *ℤ z) (e k l))

-- a projection knows eight numbers
pub projection_listed : (u : ℕ) (g : ℕ → ℤ) (xs : List ℤ) → xs ≡ g 0 ∷ g 1 ∷ g 2 ∷ g 3 ∷ g 4 ∷ g 5 ∷ g 6 ∷ g 7 ∷ []
    → projection u (nth xs) ≡ projection u g
unfolding projection sum_below
projection_listed u g xs e = ap (λ zs. projection u (nth zs)) e
