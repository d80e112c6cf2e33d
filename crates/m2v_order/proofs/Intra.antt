-- Where I frames stand, and the types of frames.
use Rattle.std.proofs.Common.{◌≡◌, ℕ, zero, suc, ◌+◌, ◌-◌, ◌*◌, ◌/◌, ◌%◌, ◌<◌, ◌≤◌, Bool, true, false, cond, refl, sym, ap, ◌∙◌, arith}
use Rattle.std.specs.Prelude.{◌==◌, ◌||◌}
use Rattle.std.proofs.lemmas.Bool.Decides.{nat_tests}
use Rattle.std.proofs.lemmas.Bool.{eqb-true}
use Rattle.std.proofs.lemmas.Nat.{mod_below, div-mul-add, mod-mul-add, mul-mod}
use Rattle.std.proofs.Math.Nat.{mod-add-div', mul-mod_left, div-eq_of_lt}
use Rattle.m2v_set.specs.declared.settings.Settings.{Settings}
use Rattle.m2v_order.specs.Coding.{is_intra, is_anchor, kind_of}
use Rattle.m2v_order.specs.Groups.{intra_from}

test_zero : (n : ℕ) → n ≡ 0 → (n == 0) ≡ true
test_zero n e = rw e refl

pub test_other : (n m : ℕ) → (n ≡ m → ⊥) → (n == m) ≡ false
test_other n m ne = grind (arith, nat_tests)

by_order : (m j : ℕ) → (j ≡ m → ⊥) → (j < m → ⊥) → (m < j → ⊥) → ⊥
by_order m j same below above = omega (arith, same, below, above)

test_same : (n : ℕ) → (n == n) ≡ true
test_same n = grind (arith, nat_tests)

or_true : (t : Bool) → (t || true) ≡ true
or_true true = refl
or_true false = refl

-- the first multiple of g at i or above
abbrev up : ℕ → ℕ → ℕ
up g i = (i + (g - 1)) / g * g

up_low : (g i : ℕ) → 1 ≤ g → i ≤ up g i
up_low g i pos =
    let e = mod-add-div' (i + (g - 1)) g in
    let l = mod_below (i + (g - 1)) g (omega arith) in
    omega (arith, e, l)

up_high : (g i : ℕ) → 1 ≤ g → up g i < i + g
up_high g i pos =
    let e = mod-add-div' (i + (g - 1)) g in omega (arith, e)

-- behind a multiple, up to the next one
up_next : (g k i : ℕ) → 1 ≤ g → k * g < i → i ≤ k * g + g → up g i ≡ k * g + g
up_next g k i pos low high =
    let sum : i + (g - 1) ≡ (k + 1) * g + (i - k * g - 1) = omega arith in
    let e : (i + (g - 1)) / g ≡ k + 1 = ap (λ n. n / g) sum ∙ div-mul-add (k + 1) g (i - k * g - 1) (omega arith) in
    rw e (omega arith)

-- between two multiples stands none
mod_between : (g k i : ℕ) → k * g < i → i < k * g + g → (i % g ≡ 0 → ⊥)
mod_between g k i low high zero_mod =
    let sum : i ≡ k * g + (i - k * g) = omega arith in
    let e : i % g ≡ i - k * g = ap (λ n. n % g) sum ∙ mod-mul-add k g (i - k * g) (omega arith) in
    omega (arith, e, zero_mod)

mod_before : (g k i : ℕ) → i < k * g → k * g < i + g → (i % g ≡ 0 → ⊥)
mod_before g zero i low high zero_mod = omega arith
mod_before g (suc k) i low high zero_mod = mod_between g k i (omega arith) (omega arith) zero_mod

mod_multiple : (g t k : ℕ) → g % t ≡ 0 → k * g % t ≡ 0
mod_multiple g t k e =
    let none : k % t * 0 ≡ 0 * t = omega arith in
    mul-mod k g t ∙ (ap (λ n. (k % t * n) % t) e ∙ (ap (λ n. n % t) none ∙ mul-mod_left 0 t))

-- what groups and steps keep to
pub record IsGrouped (s : Settings) : Type 0 where
  pub group : 1 ≤ s.group
  pub step : 1 ≤ s.step
  pub whole : s.group % s.step ≡ 0

pub intra_low : (s : Settings) (i : ℕ) → IsGrouped s → i ≤ intra_from s i
unfolding intra_from
intra_low s i ok = up_low s.group i ok.group

pub intra_high : (s : Settings) (i : ℕ) → IsGrouped s → intra_from s i < i + s.group
unfolding intra_from
intra_high s i ok = up_high s.group i ok.group

pub intra_next : (s : Settings) (i b : ℕ) → IsGrouped s → intra_from s i < b → b ≤ intra_from s i + s.group
    → intra_from s b ≡ intra_from s i + s.group
unfolding intra_from
intra_next s i b ok low high = up_next s.group ((i + (s.group - 1)) / s.group) b ok.group low high

pub intra_first : (s : Settings) → IsGrouped s → intra_from s 0 ≡ 0
unfolding intra_from
intra_first s ok =
    let e : (0 + (s.group - 1)) / s.group ≡ 0 = div-eq_of_lt (let l : 0 + (s.group - 1) < s.group = omega (arith, ok.group) in l) in
    rw e (omega arith)

-- the frame is I, and none between it and the next multiples is
pub intra_is : (s : Settings) (i : ℕ) → is_intra s (intra_from s i) ≡ true
unfolding is_intra intra_from
intra_is s i = test_zero (intra_from s i % s.group) (mul-mod_left ((i + (s.group - 1)) / s.group) s.group)

pub intra_only : (s : Settings) (i j : ℕ) → IsGrouped s → i ≤ j → j < intra_from s i + s.group → (j ≡ intra_from s i → ⊥) → is_intra s j ≡ false
unfolding is_intra intra_from
intra_only s i j ok low high other =
    let g = s.group in
    let k = (i + (g - 1)) / g in
    let below = up_high g i ok.group in
    test_other (j % g) 0 (λ e. by_order (k * g) j other (λ l. mod_before g k j l (omega (arith, below)) e) (λ l. mod_between g k j l high e))

-- an I frame is an anchor
pub intra_anchor : (s : Settings) (count i : ℕ) → IsGrouped s → is_intra s i ≡ true → is_anchor s count i ≡ true
unfolding is_intra is_anchor
intra_anchor s count i ok is =
    let g = s.group in
    let zero_mod : i % g ≡ 0 = eqb-true (i % g) 0 is in
    let sum = mod-add-div' i g in
    let product : i ≡ i / g * g = omega (arith, sum, zero_mod) in
    let e : i % s.step ≡ 0 = ap (λ n. n % s.step) product ∙ mod_multiple g s.step (i / g) ok.whole in
    rw (test_zero (i % s.step) e) refl

step_down : (t x : ℕ) → 1 ≤ t → t ≤ x → x % t ≡ 0 → (x - t) % t ≡ 0
step_down t x pos le e = by (x / t) refl
  where
    by : (m : ℕ) → x / t ≡ m → (x - t) % t ≡ 0
    by zero d =
        let none : x / t * t ≡ 0 * t = ap (λ n. n * t) d in
        let sum = mod-add-div' x t in absurd (omega (arith, sum, e, none))
    by (suc m) d =
        let some : x / t * t ≡ suc m * t = ap (λ n. n * t) d in
        let sum = mod-add-div' x t in
        let down : x - t ≡ m * t = omega (arith, sum, e, some) in
        ap (λ n. n % t) down ∙ mul-mod_left m t

-- the frame a step before an I frame is an anchor
pub step_anchor : (s : Settings) (count i : ℕ) → IsGrouped s → s.step ≤ intra_from s i → is_anchor s count (intra_from s i - s.step) ≡ true
unfolding is_anchor intra_from
step_anchor s count i ok le =
    let g = s.group in
    let k = (i + (g - 1)) / g in
    let e : k * g % s.step ≡ 0 = mod_multiple g s.step k ok.whole in
    let down = step_down s.step (k * g) ok.step le e in
    rw (test_zero ((k * g - s.step) % s.step) down) refl

-- a frame is of one of three types
pub kind_is : (s : Settings) (count i : ℕ) → (1 ≤ kind_of s count i) × (kind_of s count i ≤ 3)
kind_is s count i = by_two (is_intra s i) (is_anchor s count i)
  where
    by_two : (a b : Bool) → (1 ≤ cond {A = ℕ} a 1 (cond {A = ℕ} b 2 3)) × (cond {A = ℕ} a 1 (cond {A = ℕ} b 2 3) ≤ 3)
    by_two true b = (omega arith, omega arith)
    by_two false true = (omega arith, omega arith)
    by_two false false = (omega arith, omega arith)

-- the last frame is an anchor
pub last_anchor_is : (s : Settings) (i : ℕ) → is_anchor s (i + 1) i ≡ true
unfolding is_anchor
last_anchor_is s i =
    rw (test_same (i + 1)) (or_true (i % s.step == 0))

-- a frame before the last one is an anchor whatever is the last one
pub same_anchor : (s : Settings) (a b i : ℕ) → i + 1 < a → i + 1 < b → is_anchor s a i ≡ is_anchor s b i
unfolding is_anchor
same_anchor s a b i low high =
    rw (test_other (i + 1) a (λ e. omega arith), test_other (i + 1) b (λ e. omega arith)) refl

pub same_kind : (s : Settings) (a b i : ℕ) → i + 1 < a → i + 1 < b → kind_of s a i ≡ kind_of s b i
same_kind s a b i low high = rw (same_anchor s a b i low high) refl

pub kind_intra : (s : Settings) (count i : ℕ) → is_intra s i ≡ true → kind_of s count i ≡ 1
kind_intra s count i is = rw is refl

two_kinds : (b : Bool) → cond {A = ℕ} b 2 3 ≡ 1 → ⊥
two_kinds true e = omega arith
two_kinds false e = omega arith

pub kind_other : (s : Settings) (count i : ℕ) → is_intra s i ≡ false → kind_of s count i ≡ 1 → ⊥
kind_other s count i is e = two_kinds (is_anchor s count i) (rw is at e)

anchor_step : (b : Bool) → (cond {A = ℕ} b 1 2 == 3) ≡ false
anchor_step true = refl
anchor_step false = refl

pub kind_anchor : (s : Settings) (count i : ℕ) → is_anchor s count i ≡ true → (kind_of s count i == 3) ≡ false
kind_anchor s count i is = rw is (anchor_step (is_intra s i))

pub kind_b : (s : Settings) (count i : ℕ) → IsGrouped s → is_anchor s count i ≡ false → (kind_of s count i == 3) ≡ true
kind_b s count i ok is = b_step (is_intra s i) refl
  where
    b_step : (b : Bool) → is_intra s i ≡ b → (kind_of s count i == 3) ≡ true
    b_step true e = absurd (let t : true ≡ false = sym (intra_anchor s count i ok e) ∙ is in cc)
    b_step false e = rw (e, is) refl
