-- Sums and means, place by place.
use Rattle.std.proofs.Math.Seq.{take-add}
use Rattle.std.proofs.Common.{◌≡◌, ℕ, zero, suc, drop, ◌+◌, ◌-◌, ◌<◌, ◌≤◌, List, [], ◌∷◌, ◌++◌, length, set, get_or, take, arith, refl, ap, ◌∙◌, sym}
use Rattle.std.specs.List.{sum}
use Rattle.std.specs.Simd.Lanes.{zip2}
use Rattle.std.proofs.lemmas.List.Sums.{sum_by_push, sum_by-append, sum_by-take-le}
use Rattle.std.proofs.lemmas.List.{take_more, take_more_set, take_all}
use Rattle.std.proofs.lemmas.Simd.{get_or-zip2, length-zip2}
use Rattle.m2v_kernel.specs.Sums.{apart}

-- one place more of what is made place by place
pub take_more_zip2 : (f : ℕ → ℕ → ℕ) (xs ys : List ℕ) (i : ℕ) → length xs ≡ length ys → i < length xs
    → take (i + 1) (zip2 f xs ys) ≡ take i (zip2 f xs ys) ++ f (get_or xs i 0) (get_or ys i 0) ∷ []
take_more_zip2 f xs ys i same lt =
    let n = length-zip2 f xs ys same in
    let h : i < length (zip2 f xs ys) = omega arith in
    let ly : i < length ys = omega arith in
    take_more (zip2 f xs ys) i 0 h ∙ ap (λ z. take i (zip2 f xs ys) ++ z ∷ []) (get_or-zip2 f xs ys i 0 0 0 lt ly)

pub sad_more : (xs ys : List ℕ) (i : ℕ) → length xs ≡ length ys → i < length xs
    → sum (take (i + 1) (zip2 apart xs ys)) ≡ sum (take i (zip2 apart xs ys)) + apart (get_or xs i 0) (get_or ys i 0)
sad_more xs ys i same lt =
    ap sum (take_more_zip2 apart xs ys i same lt) ∙ sum_by_push (λ x. x) (take i (zip2 apart xs ys)) (apart (get_or xs i 0) (get_or ys i 0))

-- a store of one place more
pub stored_more : (f : ℕ → ℕ → ℕ) (xs ys out : List ℕ) (i v : ℕ) → length xs ≡ length ys → length xs ≡ length out → i < length out
    → take i out ≡ take i (zip2 f xs ys) → v ≡ f (get_or xs i 0) (get_or ys i 0)
    → take (i + 1) (set out i v) ≡ take (i + 1) (zip2 f xs ys)
stored_more f xs ys out i v same room lt so is =
    let lx : i < length xs = omega arith in
    take_more_set out i v lt ∙ ap (λ t. t ++ v ∷ []) so ∙ ap (λ z. take i (zip2 f xs ys) ++ z ∷ []) is ∙ sym (take_more_zip2 f xs ys i same lx)

-- all places are stored
pub stored_all : (f : ℕ → ℕ → ℕ) (xs ys out : List ℕ) (i : ℕ) → length xs ≡ length ys → length xs ≡ length out → length out ≤ i
    → take i out ≡ take i (zip2 f xs ys) → out ≡ zip2 f xs ys
stored_all f xs ys out i same room le so =
    let n = length-zip2 f xs ys same in
    let h : length (zip2 f xs ys) ≤ i = omega arith in
    sym (take_all i out le) ∙ so ∙ take_all i (zip2 f xs ys) h

pub summed_all : (xs ys : List ℕ) (i : ℕ) → length xs ≡ length ys → length xs ≤ i
    → sum (take i (zip2 apart xs ys)) ≡ sum (zip2 apart xs ys)
summed_all xs ys i same le =
    let n = length-zip2 apart xs ys same in
    let h : length (zip2 apart xs ys) ≤ i = omega arith in
    ap sum (take_all i (zip2 apart xs ys) h)

zip2-nil : (f : ℕ → ℕ → ℕ) (xs : List ℕ) → [] ≡ zip2 f xs []
zip2-nil f [] = refl
zip2-nil f (x ∷ xs) = refl

pub drop-zip2 : (f : ℕ → ℕ → ℕ) (n : ℕ) (xs ys : List ℕ) → drop n (zip2 f xs ys) ≡ zip2 f (drop n xs) (drop n ys)
drop-zip2 f zero xs ys = refl
drop-zip2 f (suc n) [] ys = refl
drop-zip2 f (suc n) (x ∷ xs) [] = zip2-nil f (drop n xs)
drop-zip2 f (suc n) (x ∷ xs) (y ∷ ys) = drop-zip2 f n xs ys

pub take-zip2 : (f : ℕ → ℕ → ℕ) (n : ℕ) (xs ys : List ℕ) → take n (zip2 f xs ys) ≡ zip2 f (take n xs) (take n ys)
take-zip2 f zero xs ys = refl
take-zip2 f (suc n) [] ys = refl
take-zip2 f (suc n) (x ∷ xs) [] = refl
take-zip2 f (suc n) (x ∷ xs) (y ∷ ys) = ap (λ t. f x y ∷ t) (take-zip2 f n xs ys)

-- n places more at once
pub sad_further : (xs ys : List ℕ) (i n : ℕ)
    → sum (take (i + n) (zip2 apart xs ys)) ≡ sum (take i (zip2 apart xs ys)) + sum (zip2 apart (take n (drop i xs)) (take n (drop i ys)))
sad_further xs ys i n =
    let z = zip2 apart xs ys in
    ap sum (take-add i n z) ∙ sum_by-append (λ x. x) (take i z) (take n (drop i z))
    ∙ ap (λ t. sum (take i z) + sum (take n t)) (drop-zip2 apart i xs ys)
    ∙ ap (λ t. sum (take i z) + sum t) (take-zip2 apart n (drop i xs) (drop i ys))

pub sad_step : (xs ys : List ℕ) (i e t r : ℕ) → i ≤ e → t ≡ sum (take i (zip2 apart xs ys))
    → r ≡ sum (zip2 apart (take (e - i) (drop i xs)) (take (e - i) (drop i ys))) → t + r ≡ sum (take e (zip2 apart xs ys))
sad_step xs ys i e t r le so is =
    let w : e ≡ i + (e - i) = omega arith in
    rw (so, is) (sym (sad_further xs ys i (e - i)) ∙ ap (λ k. sum (take k (zip2 apart xs ys))) (sym w))

-- a part is at most the whole
pub part_le_sad : (xs ys : List ℕ) (i : ℕ) → sum (take i (zip2 apart xs ys)) ≤ sum (zip2 apart xs ys)
part_le_sad xs ys i = sum_by-take-le (λ x. x) (zip2 apart xs ys) i
