-- Rows and columns that are transformed where they stand.
use Rattle.std.proofs.Common.{◌≡◌, ℕ, zero, suc, ◌+◌, ◌-◌, ◌*◌, ◌/◌, ◌%◌, ◌<◌, ◌≤◌, inl, inr, ◌∙◌, sym, List, [], ◌∷◌, All, get_or, length, take, drop, arith, ap, subst, ℤ, pos, ◌*ℤ◌}
use Rattle.std.proofs.lemmas.List.{ext_get_or, get_or-drop, get_or-replicate, get_or-take, length-drop, length-take-le}
use Rattle.std.proofs.lemmas.List.Elements.{All-from_get_or}
use Rattle.std.specs.Int.{bit_at}
use Rattle.std.specs.Int.Bits.{bit_and, bit_or}
use Rattle.std.proofs.lemmas.Bool.{cases_lt}
use Rattle.std.proofs.lemmas.Nat.Bits.{bit_at_above, bit_at_ones}
use Rattle.m2v_idct.specs.Ranges.{IsInRows}
use Rattle.std.proofs.lemmas.Nat.{and_le_l, le_or_l, le_or_r}
use Rattle.m2v_idct.specs.Block.{at}
use Rattle.m2v_idct.specs.Inverse.{after_rows, row}
use Rattle.m2v_idct.proofs.Projections.{eight_at, eight_same}
use Rattle.m2v_idct.proofs.Rows.{row_flat}

-- eight numbers by their places
pub listed_at : (g : ℕ → ℤ) (k : ℕ) → k < 8 → get_or (g 0 ∷ g 1 ∷ g 2 ∷ g 3 ∷ g 4 ∷ g 5 ∷ g 6 ∷ g 7 ∷ []) k (pos 0) ≡ g k
listed_at g k lt = sym (eight_at (pos 0) g k lt)

pub all_listed : (P : ℤ → Type 0) (g : ℕ → ℤ) (xs : List ℤ) → xs ≡ g 0 ∷ g 1 ∷ g 2 ∷ g 3 ∷ g 4 ∷ g 5 ∷ g 6 ∷ g 7 ∷ []
    → ((k : ℕ) → k < 8 → P (g k)) → All P xs
all_listed P g xs e h =
    subst (All P) (sym e)
    (All-from_get_or P (g 0 ∷ g 1 ∷ g 2 ∷ g 3 ∷ g 4 ∷ g 5 ∷ g 6 ∷ g 7 ∷ []) (pos 0) (λ i l. subst P (sym (listed_at g i l)) (h i l)))

pub row_same : (g h : ℕ → ℤ) → ((k : ℕ) → k < 8 → g k ≡ h k) → row g ≡ row h
unfolding row
row_same g h e = ap (λ zs. row (λ k. get_or zs k (pos 0))) (eight_same g h e)

-- a row by another block's
pub after_same : (b d : List ℤ) (y : ℕ) → ((k : ℕ) → k < 8 → at b y k ≡ at d y k) → (k : ℕ) → after_rows b y k ≡ after_rows d y k
unfolding after_rows
after_same b d y e k = ap (λ zs. get_or zs k (pos 0)) (row_same (at b y) (at d y) e)

-- a row of zeros leaves zeros
pub zero_row : (b : List ℤ) (y : ℕ) → ((k : ℕ) → k < 8 → at b y k ≡ pos 0) → (k : ℕ) → k < 8 → at b y k ≡ after_rows b y k
unfolding after_rows
zero_row b y none k lt =
    let first : pos 0 ≡ pos 8 *ℤ at b y 0 = sym (ap (λ z. pos 8 *ℤ z) (none 0 (omega arith))) in
    none k lt ∙ sym (get_or-replicate 8 k (pos 0) (pos 0) lt) ∙ ap (λ zs. get_or zs k (pos 0)) (row_flat (at b y) (λ j _ l. none j l) (pos 0) first)

-- where all rows are told, nothing is said of any
marked : (y : ℕ) → y < 8 → bit_at 255 y ≡ 1
marked y lt = bit_at_ones 8 y lt

pub all_rows : (b : List ℤ) → IsInRows 255 b
all_rows b k lt none = absurd (omega (arith, none, marked (k / 8) (omega arith)))

-- no row between the first and the last is told
pub middle_rows : (rows : ℕ) → rows / 2 % 64 ≡ 0 → (y : ℕ) → 1 ≤ y → y < 7 → bit_at rows y ≡ 0
middle_rows rows e zero low high = absurd (omega arith)
middle_rows rows e (suc zero) low high = omega (arith, e)
middle_rows rows e (suc (suc zero)) low high = omega (arith, e)
middle_rows rows e (suc (suc (suc zero))) low high = omega (arith, e)
middle_rows rows e (suc (suc (suc (suc zero)))) low high = omega (arith, e)
middle_rows rows e (suc (suc (suc (suc (suc zero))))) low high = omega (arith, e)
middle_rows rows e (suc (suc (suc (suc (suc (suc zero)))))) low high = omega (arith, e)
middle_rows rows e (suc (suc (suc (suc (suc (suc (suc y))))))) low high = absurd (omega arith)

-- all between the first and the last are 0
pub between : (rows : ℕ) (b : List ℤ) → IsInRows rows b → ((y : ℕ) → 1 ≤ y → y < 7 → bit_at rows y ≡ 0)
    → ((j : ℕ) → j < 7 → (get_or b (1 + j) (pos 0) ≡ pos 0) × (get_or b (56 + j) (pos 0) ≡ pos 0))
    → (k : ℕ) → 1 ≤ k → k < 63 → get_or b k (pos 0) ≡ pos 0
between rows b in_rows none ends k low high = elim (cases_lt k 8) [
  | inl first ↦ let e : 1 + (k - 1) ≡ k = omega arith in subst (λ (i : ℕ). get_or b i (pos 0) ≡ pos 0) e (ends (k - 1) (omega arith)).0
  | inr behind ↦
      elim (cases_lt k 56) [
        | inl before ↦ in_rows k (omega arith) (none (k / 8) (omega arith) (omega arith))
        | inr last ↦ let e : 56 + (k - 56) ≡ k = omega arith in subst (λ (i : ℕ). get_or b i (pos 0) ≡ pos 0) e (ends (k - 56) (omega arith)).1
      ]
]

-- eight bits of a number
pub low_bit : (n y : ℕ) → y < 8 → bit_at (n % 256) y ≡ bit_at n y
low_bit n zero lt = omega arith
low_bit n (suc zero) lt = omega arith
low_bit n (suc (suc zero)) lt = omega arith
low_bit n (suc (suc (suc zero))) lt = omega arith
low_bit n (suc (suc (suc (suc zero)))) lt = omega arith
low_bit n (suc (suc (suc (suc (suc zero))))) lt = omega arith
low_bit n (suc (suc (suc (suc (suc (suc zero)))))) lt = omega arith
low_bit n (suc (suc (suc (suc (suc (suc (suc zero))))))) lt = omega arith
low_bit n (suc (suc (suc (suc (suc (suc (suc (suc y)))))))) lt = absurd (omega arith)

pub low_only : (n i : ℕ) → n < 256 → bit_at n i ≡ 1 → i < 8
low_only n i below one = elim (cases_lt i 8) [
  | inl lt ↦ lt
  | inr ge ↦ absurd (omega (arith, one, bit_at_above n 8 i below ge))
]

-- a number with one bit less
pub cleared_less : (n mask y : ℕ) → bit_at n y ≡ 1 → bit_at (bit_and n mask) y ≡ 0 → bit_and n mask < n
cleared_less n mask y one none =
    let most = and_le_l n mask in
    elim (cases_lt (bit_and n mask) n) [
      | inl less ↦ less
      | inr ge ↦ let same : bit_and n mask ≡ n = omega (arith, most, ge) in absurd (omega (arith, sym (ap (λ (m : ℕ). bit_at m y) same) ∙ none, one))
    ]

-- a line of a block, taken out whole
pub row_of : (b : List ℤ) (y : ℕ) → length b ≡ 64 → y < 8
    → take (8 * y + 8 - 8 * y) (drop (8 * y) b) ≡ at b y 0 ∷ at b y 1 ∷ at b y 2 ∷ at b y 3 ∷ at b y 4 ∷ at b y 5 ∷ at b y 6 ∷ at b y 7 ∷ []
row_of b y len ly =
    let eight : 8 * y + 8 - 8 * y ≡ 8 = omega arith in
    let long : length (take 8 (drop (8 * y) b)) ≡ 8 = length-take-le 8 (drop (8 * y) b) (omega (arith, length-drop (8 * y) b, len, ly)) in
    ap (λ (n : ℕ). take n (drop (8 * y) b)) eight
    ∙ ext_get_or (pos 0) (take 8 (drop (8 * y) b)) (at b y 0 ∷ at b y 1 ∷ at b y 2 ∷ at b y 3 ∷ at b y 4 ∷ at b y 5 ∷ at b y 6 ∷ at b y 7 ∷ []) long
    (λ k l. get_or-take 8 (drop (8 * y) b) k (pos 0) (omega (arith, l, long)) ∙ get_or-drop (8 * y) b k (pos 0) ∙ sym (listed_at (at b y) k (omega (arith, l, long))))

-- no bit is set in a number joined with another
pub joined_zero : (a b : ℕ) → bit_or a b ≡ 0 → (a ≡ 0) × (b ≡ 0)
joined_zero a b e = (omega (arith, e, le_or_l a b), omega (arith, e, le_or_r a b))
