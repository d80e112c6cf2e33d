-- Laws of bits and numbers.
use Rattle.std.proofs.Common.{◌≡◌, ℕ, zero, suc, ◌+◌, ◌*◌, ◌/◌, ◌%◌, ◌^◌, ◌<◌, ◌≤◌, take, drop, Bool, true, false, cond, eqb, get_or, List, [], ◌∷◌, ◌++◌, length, refl, sym, ap, ◌∙◌, arith, add-one, zero-add}
use Rattle.std.proofs.lemmas.List.{length-append}
use Rattle.std.proofs.lemmas.Bool.{false_from_ne_true}
use Rattle.std.proofs.lemmas.Nat.{shr-shr, mod-pow-add, mod_low, pow-add, pow_pos}
use Rattle.std.proofs.Math.Nat.{mod-eq_of_lt, mod-mod}
use Rattle.m2v_bits.specs.Bits.{bits_of, number, bits, packed, all_zero, first_one, ahead}

pub length-bits_of : (n v : ℕ) → length (bits_of n v) ≡ n
unfolding bits_of
length-bits_of zero v = refl
length-bits_of (suc n) v = ap suc (length-bits_of n v)

-- the high bits, then the low bits
pub bits_of-add : (k m v : ℕ) → bits_of (k + m) v ≡ bits_of k (v / 2 ^ m) ++ bits_of m v
unfolding bits_of
bits_of-add zero m v = rw zero-add refl
bits_of-add (suc k) m v =
    let e : suc k + m ≡ suc (m + k) = omega arith in
    let t : m + k ≡ k + m = omega arith in
    rw (e, shr-shr v m k) (ap (λ (bs : List Bool). (eqb (v / 2 ^ (m + k) % 2) 1) ∷ bs) (rw t (bits_of-add k m v)))

doubles : (n : ℕ) → 2 ^ suc n ≡ 2 ^ n + 2 ^ n
doubles n = omega (arith, pow-add 2 n 1, add-one n)

pub number_below : (bs : List Bool) → number bs < 2 ^ length bs
unfolding number
number_below [] = omega arith
number_below (true ∷ bs) = let d : 2 ^ length (true ∷ bs) ≡ 2 ^ length bs + 2 ^ length bs = doubles (length bs) in omega (arith, number_below bs)
number_below (false ∷ bs) = let d : 2 ^ length (false ∷ bs) ≡ 2 ^ length bs + 2 ^ length bs = doubles (length bs) in omega (arith, number_below bs)

pub number-append : (a b : List Bool) → number (a ++ b) ≡ number a * 2 ^ length b + number b
unfolding number
number-append [] b = omega arith
number-append (true ∷ a) b =
    let p : 2 ^ length (a ++ b) ≡ 2 ^ length a * 2 ^ length b = rw (length-append a b) (pow-add 2 (length a) (length b)) in
    omega (arith, number-append a b)
number-append (false ∷ a) b = omega (arith, number-append a b)

-- texts of one length that spell one number are one
pub same_bits : (a b : List Bool) → length a ≡ length b → number a ≡ number b → a ≡ b
unfolding number
same_bits [] [] l e = refl
same_bits [] (y ∷ b) l e = absurd cc
same_bits (x ∷ a) [] l e = absurd cc
same_bits (true ∷ a) (true ∷ b) l e =
    let k : length a ≡ length b = cc in
    let p : 2 ^ length a ≡ 2 ^ length b = ap (λ (n : ℕ). 2 ^ n) k in
    ap (λ (bs : List Bool). true ∷ bs) (same_bits a b k (omega arith))
same_bits (false ∷ a) (false ∷ b) l e =
    let k : length a ≡ length b = cc in
    ap (λ (bs : List Bool). false ∷ bs) (same_bits a b k (omega arith))
same_bits (true ∷ a) (false ∷ b) l e =
    let k : length a ≡ length b = cc in
    let p : 2 ^ length a ≡ 2 ^ length b = ap (λ (n : ℕ). 2 ^ n) k in
    absurd (omega (arith, number_below b))
same_bits (false ∷ a) (true ∷ b) l e =
    let k : length a ≡ length b = cc in
    let p : 2 ^ length a ≡ 2 ^ length b = ap (λ (n : ℕ). 2 ^ n) k in
    absurd (omega (arith, number_below a))

weight : (y w : ℕ) → y < 2 → cond (eqb y 1) w 0 ≡ y * w
weight zero w h = omega arith
weight (suc zero) w h = omega arith
weight (suc (suc y)) w h = absurd (omega arith)

pub number-bits_of : (n v : ℕ) → number (bits_of n v) ≡ v % 2 ^ n
unfolding bits_of number
number-bits_of zero v = omega arith
number-bits_of (suc n) v =
    let e : 1 + n ≡ suc n = omega arith in
    let m : v % 2 ^ (suc n) ≡ (v / 2 ^ n % 2 ^ 1) * 2 ^ n + v % 2 ^ n = rw e at (mod-pow-add v 1 n) in
    rw (weight (v / 2 ^ n % 2) (2 ^ length (bits_of n v)) (omega arith), length-bits_of n v, number-bits_of n v) (sym m)

pub bits_of-number : (bs : List Bool) → bits_of (length bs) (number bs) ≡ bs
bits_of-number bs = same_bits (bits_of (length bs) (number bs)) bs (length-bits_of (length bs) (number bs)) (number-bits_of (length bs) (number bs) ∙ mod-eq_of_lt (number_below bs))

-- only the low bits count
pub bits_of-mod : (n v : ℕ) → bits_of n (v % 2 ^ n) ≡ bits_of n v
bits_of-mod n v = same_bits (bits_of n (v % 2 ^ n)) (bits_of n v) (length-bits_of n _ ∙ sym (length-bits_of n v)) (number-bits_of n (v % 2 ^ n) ∙ mod-mod v (2 ^ n) ∙ sym (number-bits_of n v))

pub bits_of-low : (n a b : ℕ) → b < 2 ^ n → bits_of n (a * 2 ^ n + b) ≡ bits_of n b
bits_of-low n a b h = sym (bits_of-mod n (a * 2 ^ n + b)) ∙ ap (bits_of n) (mod_low a n b h)

-- n zeros in front don't count where one doesn't
front : {A : Type 0} (f : List Bool → A) → ((bs : List Bool) → f (false ∷ bs) ≡ f bs) → (n : ℕ) (bs : List Bool) → n ≤ length bs → number (take n bs) ≡ 0 → f bs ≡ f (drop n bs)
unfolding number
front f one zero bs le e = refl
front f one (suc n) [] le e = absurd (omega arith)
front f one (suc n) (true ∷ bs) le e = absurd (omega (arith, pow_pos (length (take n bs))))
front f one (suc n) (false ∷ bs) le e = let z : number (take n bs) ≡ 0 = omega arith in one bs ∙ front f one n bs (omega arith) z

pub zero_front : (n : ℕ) (bs : List Bool) → n ≤ length bs → number (take n bs) ≡ 0 → all_zero bs ≡ all_zero (drop n bs)
unfolding all_zero
zero_front = front all_zero (λ bs. refl)

zero_number : (bs : List Bool) → all_zero bs ≡ true → number bs ≡ 0
unfolding all_zero number
zero_number [] e = refl
zero_number (true ∷ bs) e = absurd cc
zero_number (false ∷ bs) e = omega (arith, zero_number bs e)

zero_take : (n : ℕ) (bs : List Bool) → all_zero bs ≡ true → all_zero (take n bs) ≡ true
unfolding all_zero
zero_take zero bs e = refl
zero_take (suc n) [] e = refl
zero_take (suc n) (true ∷ bs) e = absurd cc
zero_take (suc n) (false ∷ bs) e = zero_take n bs e

pub zero_not : (n : ℕ) (bs : List Bool) → (number (take n bs) ≡ 0 → ⊥) → all_zero bs ≡ false
zero_not n bs e = false_from_ne_true (all_zero bs) (λ z. e (zero_number (take n bs) (zero_take n bs z)))

-- the next bits of zeros are zeros, also past the end
ahead_zero : (n : ℕ) (bs : List Bool) → all_zero bs ≡ true → all_zero (ahead n bs) ≡ true
unfolding all_zero ahead
ahead_zero zero bs e = refl
ahead_zero (suc n) [] e = ahead_zero n [] refl
ahead_zero (suc n) (true ∷ bs) e = absurd cc
ahead_zero (suc n) (false ∷ bs) e = ahead_zero n bs e

pub zero_near : (n : ℕ) (bs : List Bool) → (number (ahead n bs) ≡ 0 → ⊥) → all_zero bs ≡ false
zero_near n bs e = false_from_ne_true (all_zero bs) (λ z. e (zero_number (ahead n bs) (ahead_zero n bs z)))

pub zero_end : (bs : List Bool) → length bs ≤ 0 → all_zero bs ≡ true
unfolding all_zero
zero_end [] le = refl
zero_end (b ∷ bs) le = absurd (omega arith)

-- nor do they change where the first 1 stands
pub one_front : (n : ℕ) (bs : List Bool) → n ≤ length bs → number (take n bs) ≡ 0 → first_one bs ≡ first_one (drop n bs)
unfolding first_one
one_front = front first_one (λ bs. refl)

pub one_next : (bs : List Bool) → 0 < length bs → number (take 1 bs) ≡ 0 → first_one bs ≡ first_one (drop 1 bs)
unfolding first_one number
one_next [] lt e = absurd (omega arith)
one_next (true ∷ bs) lt e = absurd (omega arith)
one_next (false ∷ bs) lt e = refl

pub one_here : (bs : List Bool) → (number (take 1 bs) ≡ 0 → ⊥) → first_one bs ≡ length bs
unfolding first_one number
one_here [] e = absurd (e refl)
one_here (true ∷ bs) e = refl
one_here (false ∷ bs) e = absurd (e refl)

pub one_end : (bs : List Bool) → length bs ≤ 0 → first_one bs ≡ 0
unfolding first_one
one_end [] le = refl
one_end (b ∷ bs) le = absurd (omega arith)

eight : (x : ℕ) (rest : List Bool) → packed (bits_of 8 x ++ rest) ≡ number (bits_of 8 x) ∷ packed rest
unfolding bits_of packed
eight x rest = refl

-- bytes are what their bits fill
pub packed-bits : (bytes : List ℕ) → ((k : ℕ) → get_or bytes k 0 < 256) → packed (bits bytes) ≡ bytes
unfolding packed
packed-bits [] h = refl
packed-bits (b ∷ bytes) h =
    let head : number (bits_of 8 b) ≡ b = number-bits_of 8 b ∙ mod-eq_of_lt (h 0) in
    eight b (bits bytes) ∙ rw (head, packed-bits bytes (λ k. h (suc k))) refl
