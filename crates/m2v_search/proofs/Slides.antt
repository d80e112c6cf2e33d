-- Sums of eight lines, from one line of the window to the next, and sums over parts by them.
use Rattle.std.proofs.Common.{◌≡◌, ℕ, zero, suc, refl, replicate, ◌+◌, ◌*◌, ◌<◌, ◌≤◌, List, length, get_or, set, ap, subst, sym, ◌∙◌, arith, inl, inr}
use Rattle.std.proofs.lemmas.Bool.{cases_lt}
use Rattle.std.proofs.lemmas.List.{get_or-set_same, get_or-set_other}
use Rattle.m2v_kernel.specs.Sums.{apart}
use Rattle.m2v_search.specs.declared.parts.Parts.{Parts}
use Rattle.m2v_search.specs.Bounds.{twice, column_sum, four_sum, part_sum, pair_far, half_far, wide_far, AreSums, AreWideSums, AreSumsFor}

pub column_least : (f : ℕ → ℕ) (a : ℕ) → f a ≤ column_sum 48 f a
unfolding column_sum
column_least f a = omega arith

-- a line is taken away, and one eight lines below is added
pub column_slides : (f : ℕ → ℕ) (a : ℕ) → column_sum 48 f (a + 48) + f a ≡ column_sum 48 f a + f (a + 384)
unfolding column_sum
column_slides f a =
    let at : (i k : ℕ) → i ≡ k → f i ≡ f k = λ i k e. ap f e in
    omega (
      arith,
      at (a + 48 + 48) (a + 2 * 48) (omega arith),
      at (a + 48 + 48 + 4 * 48) (a + 2 * 48 + 4 * 48) (omega arith),
      at (a + 48 + 48 + 2 * 48) (a + 4 * 48) (omega arith),
      at (a + 48 + 48 + 2 * 48 + 4 * 48) (a + 384) (omega arith),
    )

module _ (f : ℕ → ℕ) (few : (i : ℕ) → f i ≤ 255) where
  pub column_most : (a : ℕ) → column_sum 48 f a ≤ 2040
  unfolding column_sum
  column_most a = omega (
    arith,
    few a,
    few (a + 48),
    few (a + 2 * 48),
    few (a + 48 + 2 * 48),
    few (a + 4 * 48),
    few (a + 48 + 4 * 48),
    few (a + 2 * 48 + 4 * 48),
    few (a + 48 + 2 * 48 + 4 * 48),
  )

  pub part_most : (a : ℕ) → part_sum 48 f a ≤ 8160
  unfolding part_sum four_sum
  part_most a = omega (arith, column_most a, column_most (a + 1), column_most (a + 2), column_most (a + 1 + 2))

-- four numbers that are known
pub four_known : (xs : List ℕ) (g : ℕ → ℕ) (from at : ℕ) → ((k : ℕ) → at ≤ k → k < at + 4 → get_or xs k 0 ≡ g (from + k))
    → four_sum (λ i. get_or xs i 0) at ≡ four_sum g (from + at)
unfolding four_sum
four_known xs g from at is =
    let one : (j k : ℕ) → at ≤ j → j < at + 4 → from + j ≡ k → get_or xs j 0 ≡ g k = λ j k le lt e. is j le lt ∙ ap g e in
    let e0 = one at (from + at) (omega arith) (omega arith) (omega arith) in
    let e1 = one (at + 1) (from + at + 1) (omega arith) (omega arith) (omega arith) in
    let e2 = one (at + 2) (from + at + 2) (omega arith) (omega arith) (omega arith) in
    let e3 = one (at + 1 + 2) (from + at + 1 + 2) (omega arith) (omega arith) (omega arith) in
    λ t. (e0 t + e2 t) + (e1 t + e3 t)

-- how far sums lie, of a line whose sums are known
pair_known : (l r : ℕ) (xs : List ℕ) (sums : ℕ → ℕ) (place k : ℕ) → get_or xs k 0 ≡ sums place → get_or xs (k + 4) 0 ≡ sums (place + 4)
    → pair_far l r (λ i. get_or xs i 0) k ≡ pair_far l r sums place
unfolding pair_far
pair_known l r xs sums place k here there = λ t. apart l (here t) + apart r (there t)

pub half_known : (p : Parts) (xs : List ℕ) (sums : ℕ → ℕ) (from k : ℕ) → k < 32 → ((j : ℕ) → j < 44 → get_or xs j 0 ≡ sums (from + j))
    → half_far p (λ i. get_or xs i 0) k ≡ half_far p sums (from + k)
unfolding half_far
half_known p xs sums from k few is =
    let at : (j n : ℕ) → j < 44 → from + j ≡ n → get_or xs j 0 ≡ sums n = λ j n lt e. is j lt ∙ ap sums e in
    λ t. pair_known p.first p.second xs sums (from + k) k (at k (from + k) (omega arith) (omega arith)) (at (k + 4) (from + k + 4) (omega arith) (omega arith)) t
    + pair_known p.third p.fourth xs sums (from + k + 8) (k + 8) (at (k + 8) (from + k + 8) (omega arith) (omega arith)) (at (k + 8 + 4) (from + k + 8 + 4) (omega arith) (omega arith)) t

-- one line more of sums, of which there are so many in each line
line_put : (few : ℕ) → few ≤ 48 → (f : ℕ → ℕ) (first line : ℕ) (old new : List ℕ)
    → ((y x : ℕ) → first ≤ y → y < line → x < few → get_or old (48 * y + x) 0 ≡ f (48 * y + x))
    → ((k : ℕ) → k < few → get_or new (48 * line + k) 0 ≡ f (48 * line + k))
    → ((i : ℕ) → i < 48 * line → get_or new i 0 ≡ get_or old i 0)
    → (y x : ℕ) → first ≤ y → y < line + 1 → x < few → get_or new (48 * y + x) 0 ≡ f (48 * y + x)
line_put few most f first line old new is here before y x le lt small = elim (cases_lt y line) [
  | inl less ↦ before (48 * y + x) (omega arith) ∙ is y x le less small
  | inr more ↦
      let same : y ≡ line = omega arith in
      ap (λ n. get_or new (48 * n + x) 0) same ∙ here x small ∙ ap (λ n. f (48 * n + x)) (sym same)
]

pub sums_more : (f : ℕ → ℕ) (first line : ℕ) (old new : List ℕ)
    → AreSums f first line (λ i. get_or old i 0)
    → ((k : ℕ) → k < 44 → get_or new (48 * line + k) 0 ≡ part_sum 48 f (48 * line + k))
    → ((i : ℕ) → i < 48 * line → get_or new i 0 ≡ get_or old i 0)
    → AreSums f first (line + 1) (λ i. get_or new i 0)
sums_more f first line old new is here before = record { value = line_put 44 (omega arith) (part_sum 48 f) first line old new is.value here before }

pub wide_more : (f : ℕ → ℕ) (first line : ℕ) (old new : List ℕ)
    → AreWideSums f first line (λ i. get_or old i 0)
    → ((k : ℕ) → k < 40 → get_or new (48 * line + k) 0 ≡ twice 4 (part_sum 48 f) (48 * line + k))
    → ((i : ℕ) → i < 48 * line → get_or new i 0 ≡ get_or old i 0)
    → AreWideSums f first (line + 1) (λ i. get_or new i 0)
wide_more f first line old new is here before = record { value = line_put 40 (omega arith) (twice 4 (part_sum 48 f)) first line old new is.value here before }

pub no_wide_sums : (f : ℕ → ℕ) (first : ℕ) (sums : ℕ → ℕ) → AreWideSums f first first sums
no_wide_sums f first sums = record { value = λ y x le lt few. absurd (omega arith) }

-- sums over two parts side by side lie no farther apart than the parts do
wide_least : (a b c d : ℕ) → apart (a + b) (c + d) ≤ apart a c + apart b d
wide_least a b c d = omega arith

pub wide_known : (p : Parts) (xs : List ℕ) (sums : ℕ → ℕ) (from k : ℕ) → k < 32 → ((j : ℕ) → j < 40 → get_or xs j 0 ≡ twice 4 sums (from + j))
    → wide_far p (λ i. get_or xs i 0) k ≤ half_far p sums (from + k)
unfolding wide_far half_far pair_far
wide_known p xs sums from k few is =
    let at : (m n : ℕ) → m ≡ n → sums m ≡ sums n = λ m n e. ap sums e in
    omega (
      arith,
      is k (omega arith),
      is (k + 8) (omega arith),
      at (from + (k + 8)) (from + k + 8) (omega arith),
      at (from + (k + 8) + 4) (from + k + 8 + 4) (omega arith),
      wide_least p.first p.second (sums (from + k)) (sums (from + k + 4)),
      wide_least p.third p.fourth (sums (from + k + 8)) (sums (from + k + 8 + 4)),
    )

pub no_sums : (f : ℕ → ℕ) (first : ℕ) (sums : ℕ → ℕ) → AreSums f first first sums
no_sums f first sums = record { value = λ y x le lt few. absurd (omega arith) }

-- some of these lines
pub some_sums : (count : ℕ) (f : ℕ → ℕ) (first end a b : ℕ) (sums : ℕ → ℕ) → AreSumsFor count f first end sums → first ≤ a → b ≤ end
    → AreSumsFor count f a b sums
some_sums count f first end a b sums is low high = record {
  narrow = λ e. record { value = λ y x le lt few. (is.narrow e).value y x (omega arith) (omega arith) few };
  wide = λ e. record { value = λ y x le lt few. (is.wide e).value y x (omega arith) (omega arith) few };
}

-- one number more is put
pub put_next : (P : ℕ → ℕ → Type 0) (xs : List ℕ) (n v : ℕ) → n < length xs → ((k : ℕ) → k < n → P k (get_or xs k 0)) → P n v
    → (k : ℕ) → k < n + 1 → P k (get_or (set xs n v) k 0)
put_next P xs n v inside h here k lt = elim (cases_lt k n) [
  | inl less ↦ subst (P k) (sym (get_or-set_other xs n k v 0 (λ e. omega arith))) (h k less)
  | inr more ↦
      let same : n ≡ k = omega arith in
      subst (λ j. P j (get_or (set xs n v) j 0)) same (subst (P n) (sym (get_or-set_same xs n v 0 inside)) here)
]

-- numbers that are all 0
abbrev blank : ℕ → List ℕ
blank n = replicate n 0

pub zeros : (n k : ℕ) → get_or (blank n) k 0 ≡ 0
zeros zero k = refl
zeros (suc n) zero = refl
zeros (suc n) (suc k) = zeros n k
