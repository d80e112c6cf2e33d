use Rattle.std.proofs.Common.{◌≡◌, ◌≢◌, ℕ, ◌+◌, ◌*◌, ◌/◌, ◌%◌, ◌<◌, ◌∙◌, List, All, length, map, get_or, set, arith, ap, sym, subst, get_or-set_other, get_or-set_same, below_more, ℤ, pos}
use Rattle.std.specs.List.{range_with_len}
use Rattle.std.proofs.lemmas.List.{ext_get_or}
use Rattle.std.proofs.lemmas.List.Elements.{All-from_get_or}
use Rattle.std.proofs.lemmas.List.FromFn.{get_or-map-range_with_len, length-map-range_with_len}

-- one more place is written
pub write_more : (xs : List ℤ) (place : ℕ → ℕ) (g : ℕ → ℤ) (n : ℕ) (v : ℤ) → place n < length xs
    → ((k : ℕ) → k < n → place k ≢ place n) → ((k : ℕ) → k < n → get_or xs (place k) (pos 0) ≡ g k) → v ≡ g n
    → (k : ℕ) → k < n + 1 → get_or (set xs (place n) v) (place k) (pos 0) ≡ g k
write_more xs place g n v inside apart h e =
    below_more (λ k. get_or (set xs (place n) v) (place k) (pos 0) ≡ g k) n
    (λ k l. let ne : place k ≢ place n = apart k l in rw get_or-set_other (h k l))
    (rw get_or-set_same e)

-- every place of a block has a line and a column
pub each_place : (P : ℤ → Type 0) (xs : List ℤ) → length xs ≡ 64
    → ((y x : ℕ) → y < 8 → x < 8 → P (get_or xs (8 * y + x) (pos 0))) → (i : ℕ) → i < 64 → P (get_or xs i (pos 0))
each_place P xs len h i l =
    let e : 8 * (i / 8) + i % 8 ≡ i = omega arith in
    subst (λ k. P (get_or xs k (pos 0))) e (h (i / 8) (i % 8) (omega arith) (omega arith))

pub all_places : (P : ℤ → Type 0) (xs : List ℤ) → length xs ≡ 64
    → ((y x : ℕ) → y < 8 → x < 8 → P (get_or xs (8 * y + x) (pos 0))) → All P xs
all_places P xs len h = All-from_get_or P xs (pos 0) (λ i l. each_place P xs len h i (omega arith))

pub block_is : (xs : List ℤ) (g : ℕ → ℕ → ℤ) → length xs ≡ 64
    → ((y x : ℕ) → y < 8 → x < 8 → get_or xs (8 * y + x) (pos 0) ≡ g y x)
    → xs ≡ map (λ k. g (k / 8) (k % 8)) (range_with_len 0 64)
block_is xs g len h =
    ext_get_or (pos 0) xs (map (λ k. g (k / 8) (k % 8)) (range_with_len 0 64))
    (len ∙ sym (length-map-range_with_len (λ k. g (k / 8) (k % 8)) 0 64))
    (λ i l.
    let e : 8 * (i / 8) + i % 8 ≡ i = omega arith in
    ap (λ k. get_or xs k (pos 0)) (sym e) ∙ h (i / 8) (i % 8) (omega arith) (omega arith)
    ∙ sym (get_or-map-range_with_len (λ k. g (k / 8) (k % 8)) 0 64 i i (pos 0) (omega arith) (omega arith)))

-- the number in line y and column x of a block that is given place by place
pub place_is : (g : ℕ → ℕ → ℤ) (y x : ℕ) → y < 8 → x < 8 → get_or (map (λ k. g (k / 8) (k % 8)) (range_with_len 0 64)) (8 * y + x) (pos 0) ≡ g y x
place_is g y x ly lx =
    let ey : (8 * y + x) / 8 ≡ y = omega arith in
    let ex : (8 * y + x) % 8 ≡ x = omega arith in
    get_or-map-range_with_len (λ k. g (k / 8) (k % 8)) 0 64 (8 * y + x) (8 * y + x) (pos 0) (omega arith) (omega arith)
    ∙ (λ i. g (ey i) (ex i))
