-- What lanes leave of coefficients, of their sizes and of limits.
use Rattle.std.proofs.Common.{◌≡◌, ℕ, zero, suc, ◌-◌, ◌*◌, ◌/◌, ◌%◌, ◌^◌, ◌<◌, ◌≤◌, ◌∙◌, Bool, true, false, not, cond, List, [], ◌∷◌, All, length, map, get_or, take, replicate, arith, refl, ap, sym, ℤ, pos, negsuc, ◌≤ℤ◌, inl, inr}
use Rattle.std.specs.Prelude.{nat_eq, nat_lt, unsigned_abs, IsTrue}
use Rattle.std.proofs.lemmas.Bool.{cases_eq, eqb-true, lt-ltb, le-ltb, ne_eqb, true≢false}
use Rattle.std.proofs.lemmas.Int.{ints, to_z-of_z, to_z_pos}
use Rattle.std.specs.Int.{bit_at}
use Rattle.std.proofs.Math.Nat.{mul-le-mul}
use Rattle.std.proofs.lemmas.List.{ext_get_or, get_or-map, get_or-replicate, length-map, take_all}
use Rattle.std.proofs.lemmas.List.Elements.{All-from_get_or, All-get_or, All-head, All-tail}
use Rattle.std.proofs.lemmas.Simd.{bit_mask_l, bitmask_splat, none_from_empty_mask, get_or-zip2, length-zip2, mask_l-mod}
use lib.Lanes.{zip2, sel_l, mask_l, top, Each1}
use lib.Signed.{lt_z}
use borrow.Rule.Simd.Lanes.{act1, act2, Asks1}
use borrow.Table.Row.{s_int}
use mir.Facts.{to_z-neg}
use mir.Syntax.{w8, w16, w32, cast, ne, lt, mask, shr, signed, unsigned, wrap_mul, wrap_sub}
use mir.Val.{SFits, to_z, of_z}
use native.Mathlib.Nat.{suc_inj}
use Rattle.m2v_quant.specs.declared.kind.BlockKind.{BlockKind}
use Rattle.m2v_quant.specs.Kinds.{IsKind, IsTransformed}
use Rattle.m2v_quant.specs.Marks.{AreMarked, limit_of, limits_of}
use Rattle.m2v_quant.proofs.Zeros.{level_told, mark_above}

-- ---- coefficients in 16 bits

wide : (z : ℤ) → IsTransformed z → SFits w32 z
wide (pos a) h = record { sfits = omega (arith, ints, h.0, h.1) }
wide (negsuc a) h = record { sfits = omega (arith, ints, h.0, h.1) }

short : (z : ℤ) → IsTransformed z → SFits w16 z
short (pos a) h = record { sfits = omega (arith, ints, h.0, h.1) }
short (negsuc a) h = record { sfits = omega (arith, ints, h.0, h.1) }

abbrev less : ℕ → ℕ → ℕ
less = act2 (mask (lt signed)) (s_int w32) (s_int w32) (s_int w32)

abbrev narrow : ℕ → ℕ
narrow = act1 (cast signed signed w16) (s_int w32) (s_int w16)

-- the limits -32768 and 32767
abbrev lanes_raised : ℕ → List ℕ → List ℕ
lanes_raised n xs = sel_l (map (top 31) (zip2 less xs (replicate n 4294934528))) (replicate n 4294934528) xs

abbrev lanes_lowered : ℕ → List ℕ → List ℕ
lanes_lowered n xs = sel_l (map (top 31) (zip2 less xs (replicate n 32767))) xs (replicate n 32767)

abbrev raised : ℕ → ℕ
raised a = cond (top 31 (less a 4294934528)) 4294934528 a

abbrev lowered : ℕ → ℕ
lowered a = cond (top 31 (less a 32767)) a 32767

not_low : (z : ℤ) → IsTransformed z → lt_z z (negsuc 32767) ≡ false
not_low (pos a) h = refl
not_low (negsuc a) h = le-ltb 32767 a (omega (arith, ints, h.0))

not_high : (z : ℤ) → IsTransformed z → lt_z z (pos 32767) ≡ true
not_high (pos a) h = lt-ltb a 32767 (omega (arith, ints, h.1))
not_high (negsuc a) h = refl

raised_stays : (z : ℤ) → IsTransformed z → raised (of_z w32 z) ≡ of_z w32 z
raised_stays z h = rw (to_z-of_z w32 z (wide z h), not_low z h) refl

lowered_stays : (z : ℤ) → IsTransformed z → lowered (of_z w32 z) ≡ of_z w32 z
lowered_stays z h = rw (to_z-of_z w32 z (wide z h), not_high z h) refl

lanes_stay : (n : ℕ) (xs : List ℤ) → length xs ≡ n → All IsTransformed xs → lanes_lowered n (lanes_raised n (map (of_z w32) xs)) ≡ map (of_z w32) xs
lanes_stay n [] e h = refl
lanes_stay zero (x ∷ xs) e h = absurd (omega arith)
lanes_stay (suc n) (x ∷ xs) e h =
    let hx = All-head IsTransformed x xs h in
    λ i. (ap lowered (raised_stays x hx) ∙ lowered_stays x hx) i ∷ lanes_stay n xs (suc_inj e) (All-tail IsTransformed x xs h) i

fit_asked : (z : ℤ) → IsTransformed z → Asks1 (cast signed signed w16) (s_int w32) (of_z w32 z)
fit_asked z h = rw (to_z-of_z w32 z (wide z h)) (short z h)

all_asked : (xs : List ℤ) → All IsTransformed xs → Each1 (Asks1 (cast signed signed w16) (s_int w32)) (map (of_z w32) xs)
all_asked [] h = tt
all_asked (x ∷ xs) h = (fit_asked x (All-head IsTransformed x xs h), all_asked xs (All-tail IsTransformed x xs h))

narrowed_is : (z : ℤ) → IsTransformed z → to_z w16 (narrow (of_z w32 z)) ≡ z
narrowed_is z h = rw (to_z-of_z w32 z (wide z h)) (to_z-of_z w16 z (short z h))

all_narrowed : (xs : List ℤ) → All IsTransformed xs → map (to_z w16) (map narrow (map (of_z w32) xs)) ≡ xs
all_narrowed [] h = refl
all_narrowed (x ∷ xs) h = λ i. narrowed_is x (All-head IsTransformed x xs h) i ∷ all_narrowed xs (All-tail IsTransformed x xs h) i

pub narrow_asks : (xs : List ℤ) → length xs ≡ 64 → All IsTransformed xs
    → Each1 (Asks1 (cast signed signed w16) (s_int w32)) (lanes_lowered 64 (lanes_raised 64 (map (of_z w32) (take 64 xs))))
narrow_asks xs e h =
    let whole : take 64 xs ≡ xs = take_all 64 xs (omega arith) in
    rw (whole, lanes_stay 64 xs e h) (all_asked xs h)

pub narrows : (xs : List ℤ) → length xs ≡ 64 → All IsTransformed xs
    → map (to_z w16) (map narrow (lanes_lowered 64 (lanes_raised 64 (map (of_z w32) (take 64 xs))))) ≡ xs
narrows xs e h =
    let whole : take 64 xs ≡ xs = take_all 64 xs (omega arith) in
    rw (whole, lanes_stay 64 xs e h) (all_narrowed xs h)

-- ---- sizes above limits

abbrev pub below : ℕ → ℕ → ℕ
below = act2 (mask (lt signed)) (s_int w16) (s_int w16) (s_int w16)

abbrev pub minus : ℕ → ℕ → ℕ
minus = act2 wrap_sub (s_int w16) (s_int w16) (s_int w16)

-- the lanes that `abs` leaves, and one of them
abbrev pub sizes : ℕ → List ℕ → List ℕ
sizes n xs = sel_l (map (top 15) (zip2 below xs (zip2 minus (replicate n 0) xs))) (zip2 minus (replicate n 0) xs) xs

abbrev size_of : ℕ → ℕ
size_of d = cond (top 15 (below d (minus 0 d))) (minus 0 d) d

upward : (d : ℕ) → d < 2 ^ 15 → size_of d ≡ d
upward zero h = refl
upward (suc k) h =
    let turned : minus 0 (suc k) ≡ 2 ^ 16 - suc k = omega arith in
    let here : to_z w16 (suc k) ≡ pos (suc k) = to_z_pos w16 (suc k) (omega arith) in
    let there : to_z w16 (2 ^ 16 - suc k) ≡ negsuc k = to_z-neg w16 k (omega arith) in
    rw (turned, here, there) refl

downward : (k : ℕ) → suc k < 2 ^ 15 → size_of (2 ^ 16 - suc k) ≡ suc k
downward k h =
    let turned : minus 0 (2 ^ 16 - suc k) ≡ suc k = omega arith in
    let here : to_z w16 (suc k) ≡ pos (suc k) = to_z_pos w16 (suc k) (omega arith) in
    let there : to_z w16 (2 ^ 16 - suc k) ≡ negsuc k = to_z-neg w16 k (omega arith) in
    rw (turned, here, there) refl

size_is : (z : ℤ) → IsTransformed z → size_of (of_z w16 z) ≡ unsigned_abs z
size_is (pos a) h = upward a (omega (arith, ints, h.1))
size_is (negsuc a) h = downward a (omega (arith, ints, h.0))

abbrev IsLimit : ℤ → Type 0
IsLimit z = (pos 0 ≤ℤ z) × (z ≤ℤ pos 32767)

test : (a b : ℕ) → a < 2 ^ 15 → b < 2 ^ 15 → top 15 (below a b) ≡ nat_lt a b
test a b la lb = rw (to_z_pos w16 a la, to_z_pos w16 b lb) (chosen (nat_lt a b))
  where
    chosen : (t : Bool) → top 15 (cond t 65535 0) ≡ t
    chosen true = refl
    chosen false = refl

limit_test : (l : ℤ) (b : ℕ) → IsLimit l → b < 2 ^ 15 → top 15 (below (of_z w16 l) b) ≡ nat_lt (unsigned_abs l) b
limit_test (pos a) b h lb = test a b (omega (arith, ints, h.1)) lb
limit_test (negsuc a) b h lb = absurd (omega (arith, ints, h.0))

abbrev is_above : ℤ → ℤ → Bool
is_above l z = nat_lt (unsigned_abs l) (unsigned_abs z)

above_is : (l z : ℤ) → IsLimit l → IsTransformed z → top 15 (below (of_z w16 l) (size_of (of_z w16 z))) ≡ is_above l z
above_is l z hl hz = ap (λ n. top 15 (below (of_z w16 l) n)) (size_is z hz) ∙ limit_test l (unsigned_abs z) hl (omega (arith, ints, hz))

all_above : (n : ℕ) (ls xs : List ℤ) → length ls ≡ n → length xs ≡ n → All IsLimit ls → All IsTransformed xs
    → map (top 15) (zip2 below (map (of_z w16) ls) (sizes n (map (of_z w16) xs))) ≡ zip2 is_above ls xs
all_above n [] xs el ex hl hx = refl
all_above zero (l ∷ ls) xs el ex hl hx = absurd (omega arith)
all_above (suc n) (l ∷ ls) [] el ex hl hx = absurd (omega arith)
all_above (suc n) (l ∷ ls) (x ∷ xs) el ex hl hx =
    λ i. above_is l x (All-head IsLimit l ls hl) (All-head IsTransformed x xs hx) i
    ∷ all_above n ls xs (suc_inj el) (suc_inj ex) (All-tail IsLimit l ls hl) (All-tail IsTransformed x xs hx) i

abbrev bit_of : Bool → ℕ
bit_of b = cond b 1 0

above_at : (ls xs : List ℤ) → length ls ≡ 64 → length xs ≡ 64 → All IsLimit ls → All IsTransformed xs → (p : ℕ) → p < 64
    → bit_at (mask_l (map (top 15) (zip2 below (map (of_z w16) ls) (sizes 64 (map (of_z w16) xs)))) % 2 ^ 64) p ≡ mark_above (unsigned_abs (get_or ls p (pos 0))) (unsigned_abs (get_or xs p (pos 0)))
above_at ls xs el ex hl hx p lp =
    let bits = zip2 is_above ls xs in
    let long : length bits ≡ 64 = length-zip2 is_above ls xs (el ∙ sym ex) ∙ el in
    ap (λ (m : ℕ). bit_at m p) (ap (λ (ms : List Bool). mask_l ms % 2 ^ 64) (all_above 64 ls xs el ex hl hx) ∙ mask_l-mod bits 64 (omega (arith, long)))
    ∙ bit_mask_l bits p
    ∙ ap bit_of (get_or-zip2 is_above ls xs p (pos 0) (pos 0) false (omega (arith, el, lp)) (omega (arith, ex, lp)))

-- the limits of a kind
pub step_within : (kind : BlockKind) (p : ℕ) → IsKind kind → p < length kind.matrix → (1 ≤ get_or kind.matrix p 0 * kind.scale) × (get_or kind.matrix p 0 * kind.scale ≤ 28560)
step_within kind p h lp =
    let weight = All-get_or (λ x. (1 ≤ x) × (x < 2 ^ 8)) kind.matrix p 0 lp h.matrix in
    let most : get_or kind.matrix p 0 ≤ 255 = omega (arith, weight.1) in
    (omega (arith, mul-le-mul weight.0 h.least), omega (arith, mul-le-mul most h.most))

limit_at : (kind : BlockKind) (p : ℕ) (d : ℤ) → p < length kind.matrix → get_or (limits_of kind) p d ≡ pos (limit_of kind.intra (get_or kind.matrix p 0 * kind.scale))
limit_at kind p d lp = get_or-map (λ m. pos (limit_of kind.intra (m * kind.scale))) kind.matrix p 0 d lp

small : (intra : Bool) (step : ℕ) → step ≤ 28560 → limit_of intra step ≤ 32767
small true step h = omega (arith, h)
small false step h = omega (arith, h)

limits_long : (kind : BlockKind) → length (limits_of kind) ≡ length kind.matrix
limits_long kind = length-map kind.matrix (λ m. pos (limit_of kind.intra (m * kind.scale)))

limits_small : (kind : BlockKind) → IsKind kind → All IsLimit (limits_of kind)
limits_small kind h = All-from_get_or IsLimit (limits_of kind) (pos 0)
    (λ p lp.
    let inside : p < length kind.matrix = omega (arith, lp, limits_long kind) in
    rw (limit_at kind p (pos 0) inside) (omega (arith, ints), omega (arith, ints, small kind.intra _ (step_within kind p h inside).1)))

pub marked : (f : List ℤ) (kind : BlockKind) (xs ls : List ℤ) → length f ≡ 64 → length kind.matrix ≡ 64 → IsKind kind → All IsTransformed f → xs ≡ f → ls ≡ limits_of kind
    → AreMarked 0 f kind (mask_l (map (top 15) (zip2 below (map (of_z w16) ls) (sizes 64 (map (of_z w16) xs)))) % 2 ^ 64)
marked f kind xs ls ef em h hf same are = λ p from lp.
    let inside : p < length kind.matrix = omega (arith, em, lp) in
    let step = get_or kind.matrix p 0 * kind.scale in
    let z = get_or f p (pos 0) in
    rw (same, are)
    (above_at (limits_of kind) f (limits_long kind ∙ em) ef (limits_small kind h) hf p lp
    ∙ ap (λ l. mark_above (unsigned_abs l) (unsigned_abs z)) (limit_at kind p (pos 0) inside)
    ∙ level_told kind.intra step z (step_within kind p h inside).0)

-- ---- limits of a matrix

abbrev widened : ℕ → ℕ
widened = act1 (cast unsigned signed w16) (s_int w8) (s_int w16)

abbrev times : ℕ → ℕ → ℕ
times = act2 wrap_mul (s_int w16) (s_int w16) (s_int w16)

abbrev cut : ℕ → ℕ → ℕ
cut = act2 (shr signed) (s_int w16) (s_int w16) (s_int w16)

abbrev shift : Bool → ℕ
shift intra = of_z w16 (cond intra (pos 5) (pos 4))

cut_is : (intra : Bool) (a : ℕ) → a < 2 ^ 15 → to_z w16 (cut a (shift intra)) ≡ pos (a / cond intra 32 16)
cut_is true a small_ = rw (to_z_pos w16 a small_) (to_z_pos w16 (a / 32) (omega (arith, small_)))
cut_is false a small_ = rw (to_z_pos w16 a small_) (to_z_pos w16 (a / 16) (omega (arith, small_)))

limit_lane : (intra : Bool) (m s : ℕ) → 1 ≤ m * s → m * s ≤ 28560 → to_z w16 (cut (minus (times (widened m) s) 1) (shift intra)) ≡ pos (limit_of intra (m * s))
limit_lane intra m s low up =
    let step : minus (times (widened m) s) 1 ≡ m * s - 1 = omega (arith, low, up) in
    ap (λ n. to_z w16 (cut n (shift intra))) step ∙ cut_is intra (m * s - 1) (omega (arith, up))

abbrev lanes_limited : ℕ → Bool → ℕ → List ℕ → List ℤ
lanes_limited n intra s ms = map (to_z w16) (zip2 cut (zip2 minus (zip2 times (map widened ms) (replicate n s)) (replicate n 1)) (replicate n (shift intra)))

all_limited : (n : ℕ) (intra : Bool) (s : ℕ) (ms : List ℕ) → length ms ≡ n → ((p : ℕ) → p < length ms → (1 ≤ get_or ms p 0 * s) × (get_or ms p 0 * s ≤ 28560))
    → lanes_limited n intra s ms ≡ map (λ m. pos (limit_of intra (m * s))) ms
all_limited n intra s [] e h = refl
all_limited zero intra s (m ∷ ms) e h = absurd (omega arith)
all_limited (suc n) intra s (m ∷ ms) e h =
    let first = h 0 (omega arith) in
    λ i. limit_lane intra m s first.0 first.1 i ∷ all_limited n intra s ms (suc_inj e) (λ p lp. h (suc p) (omega (arith, lp))) i

pub limited : (kind : BlockKind) (intra : Bool) (z : ℤ) → length kind.matrix ≡ 64 → IsKind kind → kind.intra ≡ intra → z ≡ cond intra (pos 5) (pos 4)
    → map (to_z w16) (zip2 cut (zip2 minus (zip2 times (map widened (take 64 kind.matrix)) (replicate 64 kind.scale)) (replicate 64 1)) (replicate 64 (of_z w16 z))) ≡ limits_of kind
limited kind intra z e h same is =
    let whole : take 64 kind.matrix ≡ kind.matrix = take_all 64 kind.matrix (omega (arith, e)) in
    rw (whole, is, same) (all_limited 64 intra kind.scale kind.matrix e (λ p lp. step_within kind p h lp))

-- lanes that are handed on stand in a goal as their bits, read again
passed : (z : ℤ) → IsLimit z → to_z w16 (of_z w16 z) ≡ z
passed (pos a) h = to_z_pos w16 a (omega (arith, ints, h.1))
passed (negsuc a) h = absurd (omega (arith, ints, h.0))

all_passed : (ls : List ℤ) → All IsLimit ls → map (to_z w16) (map (of_z w16) ls) ≡ ls
all_passed [] h = refl
all_passed (l ∷ ls) h = λ i. passed l (All-head IsLimit l ls h) i ∷ all_passed ls (All-tail IsLimit l ls h) i

pub limits_passed : (kind : BlockKind) (ls : List ℤ) → IsKind kind → ls ≡ limits_of kind → map (to_z w16) (map (of_z w16) ls) ≡ limits_of kind
limits_passed kind ls h are = rw are (all_passed (limits_of kind) (limits_small kind h))

-- ---- a matrix that is 16 everywhere

pub flat_limited : (kind : BlockKind) → length kind.matrix ≡ 64 → IsKind kind → kind.intra ≡ false → ((p : ℕ) → p < 64 → get_or kind.matrix p 0 ≡ 16)
    → map (to_z w16) (replicate 64 (kind.scale - 1)) ≡ limits_of kind
flat_limited kind e h other flat =
    ext_get_or (pos 0) (map (to_z w16) (replicate 64 (kind.scale - 1))) (limits_of kind) (refl ∙ sym (limits_long kind ∙ e))
    (λ p lp.
    let inside : p < length kind.matrix = omega (arith, e, lp) in
    let step : limit_of false (16 * kind.scale) ≡ kind.scale - 1 = omega (arith, h.least) in
    get_or-map (to_z w16) (replicate 64 (kind.scale - 1)) p 0 (pos 0) lp
    ∙ ap (to_z w16) (get_or-replicate 64 p (kind.scale - 1) 0 lp)
    ∙ to_z_pos w16 (kind.scale - 1) (omega (arith, h.most))
    ∙ ap pos (sym step)
    ∙ sym (limit_at kind p (pos 0) inside ∙ (λ i. pos (limit_of (other i) (flat p lp i * kind.scale)))))

abbrev differs : ℕ → ℕ → ℕ
differs = act2 (mask ne) (s_int w8) (s_int w8) (s_int w8)

equal : (a b : ℕ) → not (nat_eq a b) ≡ false → a ≡ b
equal a b e = elim (cases_eq a b) [ inl is ↦ is | inr ne_ ↦ absurd (true≢false (sym (ap not (ne_eqb a b ne_)) ∙ e)) ]

twice : (b : Bool) → not (not b) ≡ true → b ≡ true
twice true e = refl
twice false e = absurd (true≢false (sym e))

pub all_sixteen : (ms : List ℕ) → length ms ≡ 64 → IsTrue (not (not (nat_eq (mask_l (map (top 7) (zip2 differs (take 64 ms) (replicate 64 16))) % 2 ^ 64) 0))) → (p : ℕ) → p < 64 → get_or ms p 0 ≡ 16
all_sixteen ms e none p lp =
    let whole : take 64 ms ≡ ms = take_all 64 ms (omega (arith, e)) in
    let told = bitmask_splat w8 (λ (a b : ℕ). not (nat_eq a b)) (take 64 ms) 64 16 (ap length whole ∙ e) (omega arith) in
    equal (get_or ms p 0) 16 (none_from_empty_mask (λ (m : ℕ). not (nat_eq m 16)) ms 0 64 0 (omega (arith, e)) (sym told ∙ eqb-true _ 0 (twice _ none)) p (omega arith) (omega (arith, lp)))
