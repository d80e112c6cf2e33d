-- A block with a mean alone, or with the 1 of mismatch control besides, has 64 times the same result.
use Rattle.std.proofs.Common.{◌≡◌, ℕ, ◌+◌, ◌*◌, ◌<◌, ◌≤◌, ◌∙◌, sym, refl, List, [], ◌∷◌, All, length, get_or, replicate, arith, ap, subst, ℤ, pos, negsuc, ◌+ℤ◌, ◌-ℤ◌, ◌*ℤ◌, ◌≤ℤ◌, inl, inr}
use Rattle.std.specs.Prelude.{◌⊎◌}
use Rattle.std.specs.Int.{int_shr}
use Rattle.std.proofs.lemmas.Int.{ints}
use Rattle.std.proofs.lemmas.Bool.{cases_lt}
use Rattle.std.proofs.lemmas.List.{get_or-replicate}
use Rattle.std.proofs.lemmas.List.Elements.{All-from_recursion}
use Rattle.m2v_idct.specs.Block.{at}
use Rattle.m2v_idct.specs.Inverse.{w1, w7, after_rows, clip, column, combine, eighth, inverse_at, inverse_of, row, scaled}
use Rattle.m2v_idct.specs.Ranges.{Within}
use Rattle.m2v_idct.proofs.Shifts.{scaled_within, shr3, shr14}
use Rattle.m2v_idct.proofs.Rows.{column_same, row_flat}
use Rattle.m2v_idct.proofs.Blocks.{block_is}
use Rattle.m2v_idct.proofs.InPlace.{row_same, listed_at}

shr14_is : (z r : ℤ) → (pos 16384 *ℤ r) ≤ℤ z → z ≤ℤ (pos 16384 *ℤ r +ℤ pos 16383) → int_shr z 14 ≡ r
shr14_is z r low high = let b = shr14 z in omega (arith, ints, b)

-- c is a fourth away from where the rounding of its eighth changes
abbrev pub IsFar : ℤ → ℤ → Type 0
IsFar c q = ((pos 8 *ℤ q +ℤ pos 2) ≤ℤ (c +ℤ pos 4)) × ((c +ℤ pos 4) ≤ℤ (pos 8 *ℤ q +ℤ pos 6))

rounds : (c q d z : ℤ) → IsFar c q → Within 4095 d → z ≡ pos 2048 *ℤ c +ℤ pos 8192 +ℤ d → int_shr z 14 ≡ q
rounds c q d z far small e = shr14_is z q (omega (arith, ints, far.0, small.0)) (omega (arith, ints, far.1, small.1))

-- an odd term of a column in which only the last number is small
small_one : (v : ℤ) → Within 11 v → Within 778 (eighth (w1 *ℤ pos 0 +ℤ w7 *ℤ v))
unfolding eighth
small_one v h = let b = shr3 (w1 *ℤ pos 0 +ℤ w7 *ℤ v +ℤ pos 4) in (omega (arith, ints, h, b), omega (arith, ints, h, b))

small_seven : (v : ℤ) → Within 11 v → Within 3907 (eighth (w7 *ℤ pos 0 -ℤ w1 *ℤ v))
unfolding eighth
small_seven v h = let b = shr3 (w7 *ℤ pos 0 -ℤ w1 *ℤ v +ℤ pos 4) in (omega (arith, ints, h, b), omega (arith, ints, h, b))

scaled_small : (t : ℤ) → Within 4700 t → Within 4095 (scaled t)
scaled_small = scaled_within 4700 4095 (omega arith)

minus_small : (d : ℤ) → Within 4095 d → Within 4095 (pos 0 -ℤ d)
minus_small d h = (omega (arith, ints, h.0, h.1), omega (arith, ints, h.0, h.1))

-- the eight results of two terms and a mean
combined : (c q a1 a7 : ℤ) → IsFar c q → Within 778 a1 → Within 3907 a7
    → combine a1 a7 (pos 0) (pos 0) (pos 0) (pos 0) (pos 256 *ℤ (pos 8 *ℤ c +ℤ pos 0) +ℤ pos 8192) (pos 256 *ℤ (pos 8 *ℤ c -ℤ pos 0) +ℤ pos 8192) 14
    ≡ q ∷ q ∷ q ∷ q ∷ q ∷ q ∷ q ∷ q ∷ []
unfolding combine
combined c q a1 a7 far h1 h7 =
    let p = pos 256 *ℤ (pos 8 *ℤ c +ℤ pos 0) +ℤ pos 8192 in
    let m = pos 256 *ℤ (pos 8 *ℤ c -ℤ pos 0) +ℤ pos 8192 in
    let x = scaled ((a1 -ℤ pos 0) +ℤ (a7 -ℤ pos 0)) in
    let y = scaled ((a1 -ℤ pos 0) -ℤ (a7 -ℤ pos 0)) in
    let hx = scaled_small ((a1 -ℤ pos 0) +ℤ (a7 -ℤ pos 0)) (omega (arith, ints, h1.0, h1.1, h7.0, h7.1), omega (arith, ints, h1.0, h1.1, h7.0, h7.1)) in
    let hy = scaled_small ((a1 -ℤ pos 0) -ℤ (a7 -ℤ pos 0)) (omega (arith, ints, h1.0, h1.1, h7.0, h7.1), omega (arith, ints, h1.0, h1.1, h7.0, h7.1)) in
    let s1 : Within 4095 a1 = (omega (arith, ints, h1.0, h1.1), omega (arith, ints, h1.0, h1.1)) in
    let s7 : Within 4095 a7 = (omega (arith, ints, h7.0, h7.1), omega (arith, ints, h7.0, h7.1)) in
    let r0 = rounds c q a1 (p +ℤ pos 0 +ℤ (a1 +ℤ pos 0)) far s1 (omega (arith, ints)) in
    let r1 = rounds c q x (m +ℤ pos 0 +ℤ x) far hx (omega (arith, ints)) in
    let r2 = rounds c q y (m -ℤ pos 0 +ℤ y) far hy (omega (arith, ints)) in
    let r3 = rounds c q a7 (p -ℤ pos 0 +ℤ (a7 +ℤ pos 0)) far s7 (omega (arith, ints)) in
    let r4 = rounds c q (pos 0 -ℤ a7) (p -ℤ pos 0 -ℤ (a7 +ℤ pos 0)) far (minus_small a7 s7) (omega (arith, ints)) in
    let r5 = rounds c q (pos 0 -ℤ y) (m -ℤ pos 0 -ℤ y) far (minus_small y hy) (omega (arith, ints)) in
    let r6 = rounds c q (pos 0 -ℤ x) (m +ℤ pos 0 -ℤ x) far (minus_small x hx) (omega (arith, ints)) in
    let r7 = rounds c q (pos 0 -ℤ a1) (p +ℤ pos 0 -ℤ (a1 +ℤ pos 0)) far (minus_small a1 s1) (omega (arith, ints)) in
    (λ i. r0 i ∷ r1 i ∷ r2 i ∷ r3 i ∷ r4 i ∷ r5 i ∷ r6 i ∷ r7 i ∷ [])

mean_column : (c q v : ℤ) → IsFar c q → Within 11 v
    → column (λ k. get_or ((pos 8 *ℤ c) ∷ pos 0 ∷ pos 0 ∷ pos 0 ∷ pos 0 ∷ pos 0 ∷ pos 0 ∷ v ∷ []) k (pos 0)) ≡ q ∷ q ∷ q ∷ q ∷ q ∷ q ∷ q ∷ q ∷ []
unfolding column eighth
mean_column c q v far small =
    combined c q (eighth (w1 *ℤ pos 0 +ℤ w7 *ℤ v)) (eighth (w7 *ℤ pos 0 -ℤ w1 *ℤ v)) far (small_one v small) (small_seven v small)

-- the row of mismatch control
last_row : row (λ k. get_or (pos 0 ∷ pos 0 ∷ pos 0 ∷ pos 0 ∷ pos 0 ∷ pos 0 ∷ pos 0 ∷ pos 1 ∷ []) k (pos 0))
    ≡ pos 2 ∷ negsuc 5 ∷ pos 9 ∷ negsuc 10 ∷ pos 11 ∷ negsuc 8 ∷ pos 6 ∷ negsuc 1 ∷ []
unfolding row combine scaled
last_row = refl

last_small : All (Within 11) (pos 2 ∷ negsuc 5 ∷ pos 9 ∷ negsuc 10 ∷ pos 11 ∷ negsuc 8 ∷ pos 6 ∷ negsuc 1 ∷ [])
last_small = All-from_recursion (Within 11) (pos 2 ∷ negsuc 5 ∷ pos 9 ∷ negsuc 10 ∷ pos 11 ∷ negsuc 8 ∷ pos 6 ∷ negsuc 1 ∷ []) (
  (omega (arith, ints), omega (arith, ints)),
  (
    (omega (arith, ints), omega (arith, ints)),
    (
      (omega (arith, ints), omega (arith, ints)),
      (
        (omega (arith, ints), omega (arith, ints)),
        (
          (omega (arith, ints), omega (arith, ints)),
          (
            (omega (arith, ints), omega (arith, ints)),
            (
              (omega (arith, ints), omega (arith, ints)),
              ((omega (arith, ints), omega (arith, ints)), tt),
            ),
          ),
        ),
      ),
    ),
  ),
)

-- a row of which only the first number may be other than 0
first_alone : (g : ℕ → ℤ) → ((k : ℕ) → 1 ≤ k → k < 8 → g k ≡ pos 0) → (x : ℕ) → x < 8 → get_or (row g) x (pos 0) ≡ pos 8 *ℤ g 0
first_alone g h x lt =
    ap (λ zs. get_or zs x (pos 0)) (sym (row_flat g h (pos 8 *ℤ g 0) refl)) ∙ get_or-replicate 8 x (pos 8 *ℤ g 0) (pos 0) lt

row_zero : (g : ℕ → ℤ) → ((k : ℕ) → k < 8 → g k ≡ pos 0) → (x : ℕ) → x < 8 → get_or (row g) x (pos 0) ≡ pos 0
row_zero g h x lt = first_alone g (λ k _ l. h k l) x lt ∙ ap (λ z. pos 8 *ℤ z) (h 0 (omega arith))

-- a row of zeros but for a 1 at its end
pub row_last : (g : ℕ → ℤ) → ((k : ℕ) → k < 7 → g k ≡ pos 0) → g 7 ≡ pos 1 → row g ≡ pos 2 ∷ negsuc 5 ∷ pos 9 ∷ negsuc 10 ∷ pos 11 ∷ negsuc 8 ∷ pos 6 ∷ negsuc 1 ∷ []
row_last g h one =
    let e0 = h 0 (omega arith) in let e1 = h 1 (omega arith) in let e2 = h 2 (omega arith) in let e3 = h 3 (omega arith) in
    let e4 = h 4 (omega arith) in let e5 = h 5 (omega arith) in let e6 = h 6 (omega arith) in
    listed g ∙ ap (λ zs. row (λ k. get_or zs k (pos 0))) (λ i. e0 i ∷ e1 i ∷ e2 i ∷ e3 i ∷ e4 i ∷ e5 i ∷ e6 i ∷ one i ∷ []) ∙ last_row
  where
    listed : (f : ℕ → ℤ) → row f ≡ row (λ k. get_or (f 0 ∷ f 1 ∷ f 2 ∷ f 3 ∷ f 4 ∷ f 5 ∷ f 6 ∷ f 7 ∷ []) k (pos 0))
    listed f = row_same f (λ k. get_or (f 0 ∷ f 1 ∷ f 2 ∷ f 3 ∷ f 4 ∷ f 5 ∷ f 6 ∷ f 7 ∷ []) k (pos 0)) (λ k l. sym (listed_at f k l))

last_within : (g : ℕ → ℤ) → ((k : ℕ) → k < 7 → g k ≡ pos 0) → (g 7 ≡ pos 0) ⊎ (g 7 ≡ pos 1) → (x : ℕ) → x < 8 → Within 11 (get_or (row g) x (pos 0))
last_within g h (inl none) x lt =
    subst (Within 11) (sym (row_zero g (λ k l. elim (cases_lt k 7) [ inl less ↦ h k less | inr more ↦ let e : k ≡ 7 = omega arith in ap g e ∙ none ]) x lt))
    (omega (arith, ints), omega (arith, ints))
last_within g h (inr one) x lt = subst (λ zs. Within 11 (get_or zs x (pos 0))) (sym (row_last g h one)) (last_small x (pos 0) lt)

pub mean_everywhere : (b : List ℤ) (q : ℤ) → ((k : ℕ) → 1 ≤ k → k < 63 → get_or b k (pos 0) ≡ pos 0)
    → (get_or b 63 (pos 0) ≡ pos 0) ⊎ (get_or b 63 (pos 0) ≡ pos 1) → IsFar (get_or b 0 (pos 0)) q
    → (y x : ℕ) → y < 8 → x < 8 → inverse_at b y x ≡ clip q
unfolding inverse_at after_rows
mean_everywhere b q none last far y x ly lx =
    let c = get_or b 0 (pos 0) in
    let v = get_or (row (at b 7)) x (pos 0) in
    let top : get_or (row (at b 0)) x (pos 0) ≡ pos 8 *ℤ c = first_alone (at b 0) (λ k lk l. let e : 0 + k ≡ k = omega arith in ap (λ j. get_or b j (pos 0)) e ∙ none k lk (omega arith)) x lx in
    let zero_at : (n : ℕ) → 1 ≤ n → n < 7 → get_or (row (at b n)) x (pos 0) ≡ pos 0 =
    λ n low high. row_zero (at b n) (λ k l. none (8 * n + k) (omega arith) (omega arith)) x lx in
    let small : Within 11 v = last_within (at b 7) (λ k l. none (56 + k) (omega arith) (omega arith)) last x lx in
    let e1 = zero_at 1 (omega arith) (omega arith) in let e2 = zero_at 2 (omega arith) (omega arith) in let e3 = zero_at 3 (omega arith) (omega arith) in
    let e4 = zero_at 4 (omega arith) (omega arith) in let e5 = zero_at 5 (omega arith) (omega arith) in let e6 = zero_at 6 (omega arith) (omega arith) in
    let f = λ (k : ℕ). get_or (row (at b k)) x (pos 0) in
    let whole : column f ≡ q ∷ q ∷ q ∷ q ∷ q ∷ q ∷ q ∷ q ∷ [] =
    column_same f (λ k. get_or (f 0 ∷ f 1 ∷ f 2 ∷ f 3 ∷ f 4 ∷ f 5 ∷ f 6 ∷ f 7 ∷ []) k (pos 0)) (λ k l. sym (listed_at f k l))
    ∙ ap (λ zs. column (λ k. get_or zs k (pos 0))) (λ i. top i ∷ e1 i ∷ e2 i ∷ e3 i ∷ e4 i ∷ e5 i ∷ e6 i ∷ v ∷ [])
    ∙ mean_column c q v far small in
    ap (λ zs. clip (get_or zs y (pos 0))) whole ∙ ap clip (get_or-replicate 8 y q (pos 0) ly)

pub mean_block : (b out : List ℤ) (r : ℤ) → length out ≡ 64 → out ≡ replicate 64 r → ((y x : ℕ) → y < 8 → x < 8 → r ≡ inverse_at b y x) → out ≡ inverse_of b
unfolding inverse_of
mean_block b out r len filled are =
    block_is out (inverse_at b) len
    (λ y x ly lx. ap (λ zs. get_or zs (8 * y + x) (pos 0)) filled ∙ get_or-replicate 64 (8 * y + x) r (pos 0) (omega arith) ∙ are y x ly lx)
