-- Lists that are made element by element, or part by part, and put behind others.
use Rattle.std.proofs.Common.{◌≡◌, ℕ, ◌+◌, List, [], ◌∷◌, ◌++◌, map, ap, sym, ◌∙◌, arith, subst, length, take, drop, ◌-◌}
use Rattle.std.specs.List.{range_with_len, flat_map}
use Rattle.std.proofs.lemmas.List.{append_assoc, append-nil, map-append, length-append, take_all}
use Rattle.std.proofs.lemmas.List.Concat.{flat_map-append}
use Rattle.std.proofs.Math.Seq.{drop-append_seam}
use Rattle.m2v_order.proofs.Orders.{range_append}

one_more : (k : ℕ) → range_with_len 0 (k + 1) ≡ range_with_len 0 k ++ k ∷ []
one_more k = let here : 0 + k ≡ k = omega arith in range_append 0 k 1 ∙ ap (λ (n : ℕ). range_with_len 0 k ++ n ∷ []) here

pub map_more : (f : ℕ → ℕ) (k : ℕ) → map f (range_with_len 0 (k + 1)) ≡ map f (range_with_len 0 k) ++ f k ∷ []
map_more f k = ap (map f) (one_more k) ∙ map-append f (range_with_len 0 k) (k ∷ [])

pub flat_more : (f : ℕ → List ℕ) (k : ℕ) → flat_map f (range_with_len 0 (k + 1)) ≡ flat_map f (range_with_len 0 k) ++ f k
flat_more f k = ap (flat_map f) (one_more k)
    ∙ flat_map-append f (range_with_len 0 k) (k ∷ []) ∙ ap (λ (xs : List ℕ). flat_map f (range_with_len 0 k) ++ xs) (append-nil (f k))

-- what stands behind others, and a part more
pub behind_more : (before done next part all out : List ℕ) → done ≡ before ++ part → out ≡ done ++ next → all ≡ part ++ next → out ≡ before ++ all
behind_more before done next part all out here more whole =
    more ∙ ap (λ (xs : List ℕ). xs ++ next) here ∙ append_assoc before part next ∙ ap (λ (xs : List ℕ). before ++ xs) (sym whole)

-- what stands behind others is the rest from there
pub behind_is : (all before part : List ℕ) (n from : ℕ) → all ≡ before ++ part → n ≡ length all → from ≡ length before → take (n - from) (drop from all) ≡ part
behind_is all before part n from is whole here =
    let len : n - from ≡ length part = omega (arith, whole, here, ap length is, length-append before part) in
    subst (λ (xs : List ℕ). take (n - from) (drop from xs) ≡ part) (sym is)
    (subst (λ (k : ℕ). take (n - k) (drop k (before ++ part)) ≡ part) (sym here)
    (ap (take (n - length before)) (drop-append_seam before part)
    ∙ ap (λ (k : ℕ). take k part) (subst (λ (k : ℕ). n - k ≡ length part) here len) ∙ take_all (length part) part (omega arith)))
