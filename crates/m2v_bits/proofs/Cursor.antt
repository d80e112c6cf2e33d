-- Laws of the writer and the reader over bytes.
use Rattle.std.proofs.Common.{◌≡◌, ℕ, zero, suc, ◌+◌, ◌-◌, ◌*◌, ◌/◌, ◌%◌, ◌^◌, ◌<◌, ◌≤◌, Bool, true, false, List, [], ◌∷◌, ◌++◌, length, get_or, set, take, drop, replicate, refl, sym, ap, subst, ◌∙◌, append_assoc, arith, add-one, add-zero, zero-add}
use Rattle.std.proofs.lemmas.List.{length-append, length-drop, length-take, take_at, drop_at, drop-drop, take-take, take-append-drop, length-set, get_or-drop, take_more_set, append-nil, length-replicate, drop_all}
use Rattle.std.proofs.lemmas.List.Concat.{flat_map-append}
use Rattle.std.proofs.lemmas.Nat.{shr_high, pow-add, pow_pos}
use Rattle.std.proofs.Math.Nat.{zero-div, mul-le-mul_right}
use Rattle.std.specs.Int.{w64, from_be_bytes}
use Rattle.m2v_bits.specs.Bits.{bits_of, number, bits, packed, ahead, to_edge, padded, all_zero, first_one, Unread, past}
use Rattle.m2v_bits.proofs.Bits.{length-bits_of, bits_of-add, bits_of-mod, bits_of-low, number-bits_of, packed-bits}

pub length-bits : (bytes : List ℕ) → length (bits bytes) ≡ 8 * length bytes
length-bits [] = refl
length-bits (b ∷ bytes) = let e : length (b ∷ bytes) ≡ length bytes + 1 = omega arith in length-append (bits_of 8 b) (bits bytes) ∙ omega (arith, length-bits_of 8 b, length-bits bytes)

drop_none : (n : ℕ) → drop {A = Bool} n [] ≡ []
drop_none zero = refl
drop_none (suc n) = refl

pub drop-bits : (i : ℕ) (bytes : List ℕ) → drop (8 * i) (bits bytes) ≡ bits (drop i bytes)
drop-bits zero bytes = refl
drop-bits (suc i) [] = drop_none (8 * suc i)
drop-bits (suc i) (b ∷ bytes) =
    let e : 8 * suc i ≡ 8 + 8 * i = omega arith in
    rw e (sym (drop-drop (8 * i) 8 (bits_of 8 b ++ bits bytes)) ∙ ap (drop (8 * i)) (drop_at (bits_of 8 b) (bits bytes) 8 (length-bits_of 8 b)) ∙ drop-bits i bytes)

-- two numbers behind each other
pub bits_of-join : (k n a b : ℕ) → b < 2 ^ n → bits_of (k + n) (a * 2 ^ n + b) ≡ bits_of k a ++ bits_of n b
bits_of-join k n a b h = bits_of-add k n (a * 2 ^ n + b) ∙ rw (shr_high a n b h, bits_of-low n a b h) refl

-- a byte moves from the number to the buffer
pub spilled : (buf : List ℕ) (at m acc : ℕ) → at < length buf → bits (take (at + 1) (set buf at (acc / 2 ^ m % 2 ^ 8))) ++ bits_of m acc ≡ bits (take at buf) ++ bits_of (8 + m) acc
spilled buf at m acc h =
    rw (take_more_set buf at (acc / 2 ^ m % 2 ^ 8) h, flat_map-append, bits_of-add 8 m acc, append-nil (bits_of 8 (acc / 2 ^ m % 2 ^ 8)), bits_of-mod 8 (acc / 2 ^ m)) (append_assoc (bits (take at buf)) (bits_of 8 (acc / 2 ^ m)) (bits_of m acc))

-- ---- reading ahead

pub length-ahead : (n : ℕ) (bs : List Bool) → length (ahead n bs) ≡ n
unfolding ahead
length-ahead zero bs = refl
length-ahead (suc n) [] = ap suc (length-ahead n [])
length-ahead (suc n) (b ∷ bs) = ap suc (length-ahead n bs)

pub ahead-add : (k n : ℕ) (bs : List Bool) → ahead (k + n) bs ≡ ahead k bs ++ ahead n (drop k bs)
unfolding ahead
ahead-add zero n bs = rw zero-add refl
ahead-add (suc k) n [] = let e : suc k + n ≡ suc (k + n) = omega arith in rw e (ap (λ (x : List Bool). false ∷ x) (rw (drop_none k) at (ahead-add k n [])))
ahead-add (suc k) n (b ∷ bs) = let e : suc k + n ≡ suc (k + n) = omega arith in rw e (ap (λ (x : List Bool). b ∷ x) (ahead-add k n bs))

pub ahead_take : (n : ℕ) (bs : List Bool) → n ≤ length bs → ahead n bs ≡ take n bs
unfolding ahead
ahead_take zero bs h = refl
ahead_take (suc n) [] h = absurd (omega arith)
ahead_take (suc n) (b ∷ bs) h = ap (λ (x : List Bool). b ∷ x) (ahead_take n bs (omega arith))

empty_byte : ahead 8 [] ≡ bits_of 8 0
unfolding ahead bits_of
empty_byte = refl

ahead_byte : (bytes : List ℕ) → ahead 8 (bits bytes) ≡ bits_of 8 (get_or bytes 0 0)
ahead_byte [] = empty_byte
ahead_byte (b ∷ bytes) = ahead_take 8 (bits_of 8 b ++ bits bytes) (omega (arith, length-append (bits_of 8 b) (bits bytes), length-bits_of 8 b)) ∙ take_at (bits_of 8 b) (bits bytes) 8 (length-bits_of 8 b)

-- the next byte, and what comes behind it
ahead_more : (n i : ℕ) (bytes : List ℕ) → ahead (8 + n) (bits (drop i bytes)) ≡ bits_of 8 (get_or bytes i 0) ++ ahead n (bits (drop (i + 1) bytes))
ahead_more n i bytes =
    let first : get_or (drop i bytes) 0 0 ≡ get_or bytes i 0 = get_or-drop i bytes 0 0 ∙ rw add-zero refl in
    let behind : drop 8 (bits (drop i bytes)) ≡ bits (drop (i + 1) bytes) = drop-bits 1 (drop i bytes) ∙ ap bits (drop-drop 1 i bytes) in
    ahead-add 8 n (bits (drop i bytes)) ∙ rw (ahead_byte (drop i bytes), first, behind) refl

pub five_bytes : (bytes : List ℕ) (i a b c d e : ℕ) → a ≡ get_or bytes i 0 → b ≡ get_or bytes (i + 1) 0 → c ≡ get_or bytes (i + 2) 0 → d ≡ get_or bytes (i + 3) 0 → e ≡ get_or bytes (i + 4) 0
    → b < 256 → c < 256 → d < 256 → e < 256
    → bits_of 40 ((((a * 256 + b) * 256 + c) * 256 + d) * 256 + e) ≡ ahead 40 (drop (8 * i) (bits bytes))
five_bytes bytes i a b c d e pa pb pc pd pe hb hc hd he =
    let last : ahead 8 (bits (drop (i + 4) bytes)) ≡ bits_of 8 e = ahead_byte (drop (i + 4) bytes) ∙ ap (bits_of 8) (get_or-drop (i + 4) bytes 0 0 ∙ rw add-zero (sym pe)) in
    let e1 : (i + 1) + 1 ≡ i + 2 = omega arith in
    let e2 : (i + 2) + 1 ≡ i + 3 = omega arith in
    let e3 : (i + 3) + 1 ≡ i + 4 = omega arith in
    let high = bits_of-join 32 8 (((a * 256 + b) * 256 + c) * 256 + d) e he in
    let high2 = bits_of-join 24 8 ((a * 256 + b) * 256 + c) d hd in
    let high3 = bits_of-join 16 8 (a * 256 + b) c hc in
    let high4 = bits_of-join 8 8 a b hb in
    let parts : ahead 40 (bits (drop i bytes)) ≡ bits_of 8 a ++ (bits_of 8 b ++ (bits_of 8 c ++ (bits_of 8 d ++ bits_of 8 e)))
    = ahead_more 32 i bytes ∙ rw (← pa, ahead_more 24 (i + 1) bytes, ← pb, e1, ahead_more 16 (i + 2) bytes, ← pc, e2, ahead_more 8 (i + 3) bytes, ← pd, e3, last) refl in
    rw (drop-bits i bytes, parts, high, high2, high3, high4) (simp append_assoc)

-- the first five bytes of a word of eight
pub word_is : (a b c d e f g h : ℕ) → f < 256 → g < 256 → h < 256
    → from_be_bytes w64 (a ∷ b ∷ c ∷ d ∷ e ∷ f ∷ g ∷ h ∷ []) / 2 ^ 24 ≡ (((a * 256 + b) * 256 + c) * 256 + d) * 256 + e
word_is a b c d e f g h hf hg hh = omega arith

fronts : (a b c d : List Bool) → length a ≡ length c → a ++ b ≡ c ++ d → a ≡ c
fronts a b c d l e = sym (take_at a b (length c) l) ∙ ap (take (length c)) e ∙ take_at c d (length c) refl

backs : (a b c d : List Bool) → length a ≡ length c → a ++ b ≡ c ++ d → b ≡ d
backs a b c d l e = sym (drop_at a b (length c) l) ∙ ap (drop (length c)) e ∙ drop_at c d (length c) refl

-- what is peeked, out of a window of 40 bits
pub peeked : (bs : List Bool) (from r n s w : ℕ) → bits_of 40 w ≡ ahead 40 (drop from bs) → (r + n) + s ≡ 40 → number (ahead n (drop (from + r) bs)) ≡ w / 2 ^ s % 2 ^ n
peeked bs from r n s w e h =
    let xs = drop from bs in
    let whole : ahead ((r + n) + s) xs ≡ bits_of ((r + n) + s) w = rw h (sym e) in
    let front : ahead (r + n) xs ≡ bits_of (r + n) (w / 2 ^ s) =
    fronts (ahead (r + n) xs) (ahead s (drop (r + n) xs)) (bits_of (r + n) (w / 2 ^ s)) (bits_of s w) (length-ahead (r + n) xs ∙ sym (length-bits_of (r + n) (w / 2 ^ s)))
    (sym (ahead-add (r + n) s xs) ∙ whole ∙ bits_of-add (r + n) s w) in
    let back : ahead n (drop r xs) ≡ bits_of n (w / 2 ^ s) =
    backs (ahead r xs) (ahead n (drop r xs)) (bits_of r (w / 2 ^ s / 2 ^ n)) (bits_of n (w / 2 ^ s)) (length-ahead r xs ∙ sym (length-bits_of r (w / 2 ^ s / 2 ^ n)))
    (sym (ahead-add r n xs) ∙ front ∙ bits_of-add r n (w / 2 ^ s)) in
    rw (← drop-drop r from bs, back) (number-bits_of n (w / 2 ^ s))

-- ---- four bytes at a time

-- four bytes move from a number of 40 bits to the buffer
pub spilled_four : (buf : List ℕ) (at w x0 x1 x2 x3 : ℕ) → at + 4 ≤ length buf → x0 ≡ w / 2 ^ 32 % 2 ^ 8 → x1 ≡ w / 2 ^ 24 % 2 ^ 8 → x2 ≡ w / 2 ^ 16 % 2 ^ 8 → x3 ≡ w / 2 ^ 8 % 2 ^ 8
    → bits (take (at + 4) (set (set (set (set buf at x0) (at + 1) x1) (at + 2) x2) (at + 3) x3)) ++ bits_of 8 w ≡ bits (take at buf) ++ bits_of 40 w
spilled_four buf at w x0 x1 x2 x3 le e0 e1 e2 e3 =
    let b1 = set buf at x0 in
    let b2 = set b1 (at + 1) x1 in
    let b3 = set b2 (at + 2) x2 in
    let l1 : length b1 ≡ length buf = length-set buf at x0 in
    let l2 : length b2 ≡ length buf = length-set b1 (at + 1) x1 ∙ l1 in
    let l3 : length b3 ≡ length buf = length-set b2 (at + 2) x2 ∙ l2 in
    let n2 : at + 1 + 1 ≡ at + 2 = omega arith in
    let n3 : at + 2 + 1 ≡ at + 3 = omega arith in
    let n4 : at + 3 + 1 ≡ at + 4 = omega arith in
    let s4 : bits (take (at + 4) (set b3 (at + 3) x3)) ++ bits_of 8 w ≡ bits (take (at + 3) b3) ++ bits_of 16 w = rw e3 (rw n4 at (spilled b3 (at + 3) 8 w (omega (arith, l3)))) in
    let s3 : bits (take (at + 3) b3) ++ bits_of 16 w ≡ bits (take (at + 2) b2) ++ bits_of 24 w = rw e2 (rw n3 at (spilled b2 (at + 2) 16 w (omega (arith, l2)))) in
    let s2 : bits (take (at + 2) b2) ++ bits_of 24 w ≡ bits (take (at + 1) b1) ++ bits_of 32 w = rw e1 (rw n2 at (spilled b1 (at + 1) 24 w (omega (arith, l1)))) in
    let s1 : bits (take (at + 1) b1) ++ bits_of 32 w ≡ bits (take at buf) ++ bits_of 40 w = rw e0 (spilled buf at 32 w (omega arith)) in
    s4 ∙ s3 ∙ s2 ∙ s1

-- of these bytes those count that the bits held fill
pub spilled_whole : (buf new : List ℕ) (at acc held w : ℕ) → held < 40 → at + 4 ≤ length buf → length new ≡ length buf → w ≡ acc * 2 ^ (40 - held)
    → bits (take (at + 4) new) ++ bits_of 8 w ≡ bits (take at buf) ++ bits_of 40 w
    → bits (take (at + held / 8) new) ++ bits_of (held % 8) acc ≡ bits (take at buf) ++ bits_of held acc
spilled_whole buf new at acc held w lt le len is e =
    let k = held / 8 in
    let r = held % 8 in
    let all : held + (40 - held) ≡ 40 = omega arith in
    let none : acc * 2 ^ (40 - held) + 0 ≡ w = omega (arith, is) in
    let wide : bits_of 40 w ≡ bits_of held acc ++ bits_of (40 - held) 0 = rw (all, none) at (bits_of-join held (40 - held) acc 0 (pow_pos (40 - held))) in
    let whole : 8 * k + r ≡ held = omega arith in
    let parts : bits_of held acc ≡ bits_of (8 * k) (acc / 2 ^ r) ++ bits_of r acc = rw whole at (bits_of-add (8 * k) r acc) in
    let front : take (at + k) (take (at + 4) new) ≡ take (at + k) new = take-take (at + k) (at + 4) new (omega arith) in
    let rest = drop (at + k) (take (at + 4) new) in
    let left : bits (take (at + 4) new) ≡ bits (take (at + k) new) ++ bits rest =
    ap bits (sym (take-append-drop (at + k) (take (at + 4) new))) ∙ flat_map-append (bits_of 8) (take (at + k) (take (at + 4) new)) rest ∙ ap (λ (x : List ℕ). bits x ++ bits rest) front in
    let here = bits (take at buf) in
    let high = bits_of (8 * k) (acc / 2 ^ r) in
    let right : here ++ bits_of 40 w ≡ (here ++ high) ++ (bits_of r acc ++ bits_of (40 - held) 0) = rw (wide, parts) (simp append_assoc) in
    let both : bits (take (at + k) new) ++ (bits rest ++ bits_of 8 w) ≡ (here ++ high) ++ (bits_of r acc ++ bits_of (40 - held) 0) =
    sym (append_assoc (bits (take (at + k) new)) (bits rest) (bits_of 8 w)) ∙ ap (λ (x : List Bool). x ++ bits_of 8 w) (sym left) ∙ e ∙ right in
    let same : bits (take (at + k) new) ≡ here ++ high =
    fronts (bits (take (at + k) new)) (bits rest ++ bits_of 8 w) (here ++ high) (bits_of r acc ++ bits_of (40 - held) 0)
    (omega (arith, length-bits (take (at + k) new), length-take (at + k) new, length-append here high, length-bits (take at buf), length-take at buf, length-bits_of (8 * k) (acc / 2 ^ r))) both in
    ap (λ (x : List Bool). x ++ bits_of r acc) same ∙ append_assoc here high (bits_of r acc) ∙ ap (λ (x : List Bool). here ++ x) (sym parts)

-- what two numbers one behind the other are less than
pub joined_less : (h n p v a : ℕ) → p < 2 ^ h → v < 2 ^ n → a ≡ p * 2 ^ n + v → a < 2 ^ (h + n)
joined_less h n p v a lp lv e =
    let wide : 2 ^ (h + n) ≡ 2 ^ h * 2 ^ n = pow-add 2 h n in
    let most : (p + 1) * 2 ^ n ≤ 2 ^ h * 2 ^ n = mul-le-mul_right (2 ^ n) (omega arith) in
    omega arith

-- bits raised to the top of 40 fit
pub raised_less : (acc held : ℕ) → held < 40 → acc < 2 ^ held → acc * 2 ^ (40 - held) < 2 ^ 40
raised_less acc held lt less =
    let all : held + (40 - held) ≡ 40 = omega arith in
    let some = pow_pos (40 - held) in
    let low : 0 < 2 ^ (40 - held) = some in
    let wide : acc * 2 ^ (40 - held) + 0 < 2 ^ 40 = rw all at (joined_less held (40 - held) acc 0 (acc * 2 ^ (40 - held) + 0) less low refl) in
    omega arith

none_held : (p : ℕ) → bits_of 0 p ≡ []
unfolding bits_of
none_held p = refl

-- how many bits are written
written_len : (bytes : List ℕ) (used held p : ℕ) → 8 * used + held ≤ 8 * length bytes → held < 8 → length (bits (take used bytes) ++ bits_of held p) ≡ 8 * used + held
written_len bytes used held p le h = length-append (bits (take used bytes)) (bits_of held p) ∙ omega (arith, length-bits_of held p, length-bits (take used bytes), length-take used bytes)

pub same_edge : (bytes : List ℕ) (used held p : ℕ) → 8 * used + held ≤ 8 * length bytes → held < 8 → (8 - held) % 8 ≡ to_edge (length (bits (take used bytes) ++ bits_of held p))
same_edge bytes used held p le h = omega (arith, written_len bytes used held p le h)

-- at the edge of a byte nothing is held
pub whole_bytes : (bytes : List ℕ) (used held p : ℕ) → 8 * used + held ≤ 8 * length bytes → held < 8 → length (bits (take used bytes) ++ bits_of held p) % 8 ≡ 0 → bits (take used bytes) ++ bits_of held p ≡ bits (take used bytes)
whole_bytes bytes used held p le h e =
    let none : held ≡ 0 = omega (arith, written_len bytes used held p le h) in
    rw (none, none_held p) (append-nil (bits (take used bytes)))

pub begins : (bytes : List ℕ) (used held p : ℕ) → 8 * used + held ≤ 8 * length bytes → held < 8 → length (bits (take used bytes) ++ bits_of held p) % 8 ≡ 0 → bits (take (length (bits (take used bytes) ++ bits_of held p) / 8) bytes) ≡ bits (take used bytes) ++ bits_of held p
begins bytes used held p le h e =
    let at : length (bits (take used bytes) ++ bits_of held p) / 8 ≡ used = omega (arith, written_len bytes used held p le h) in
    rw at (sym (whole_bytes bytes used held p le h e))

-- what is written after held bits and n more, where the whole bytes have moved
pub put_written : (before after : List Bool) (held n p v acc : ℕ) → acc ≡ p * 2 ^ n + v → v < 2 ^ n
    → after ++ bits_of ((held + n) % 8) acc ≡ before ++ bits_of (held + n) acc
    → after ++ bits_of ((held + n) % 8) (acc % 2 ^ ((held + n) % 8)) ≡ (before ++ bits_of held p) ++ bits_of n v
put_written before after held n p v acc e lt moved =
    rw (bits_of-mod ((held + n) % 8) acc, moved, e, bits_of-join held n p v lt) (sym (append_assoc before (bits_of held p) (bits_of n v)))

pub zeros : (n : ℕ) → bits_of n 0 ≡ replicate n false
unfolding bits_of
zeros zero = refl
zeros (suc n) = rw (zero-div (2 ^ n)) (ap (λ (x : List Bool). false ∷ x) (zeros n))

take_fits : (n : ℕ) (xs : List ℕ) → ((i : ℕ) → get_or xs i 0 < 256) → (i : ℕ) → get_or (take n xs) i 0 < 256
take_fits zero xs h i = omega arith
take_fits (suc n) [] h i = h i
take_fits (suc n) (x ∷ xs) h zero = h 0
take_fits (suc n) (x ∷ xs) h (suc i) = take_fits n xs (λ k. h (suc k)) i

-- the first bytes of a buffer are what their bits fill
pub packed_front : (n : ℕ) (xs : List ℕ) → ((i : ℕ) → get_or xs i 0 < 256) → take n xs ≡ packed (bits (take n xs))
packed_front n xs h = sym (packed-bits (take n xs) (take_fits n xs h))

-- ---- zero bits behind the bytes

pub length-padded : (t : List Bool) (n : ℕ) → length (padded t n) ≡ length t + n
unfolding padded
length-padded t n = length-append t (replicate n false) ∙ omega (arith, length-replicate n false)

pub padded-none : (t : List Bool) → padded t 0 ≡ t
unfolding padded
padded-none t = append-nil t

ahead_zeros : (n z : ℕ) → ahead n (replicate z false) ≡ ahead n []
unfolding ahead
ahead_zeros zero z = refl
ahead_zeros (suc n) zero = refl
ahead_zeros (suc n) (suc z) = ap (λ (x : List Bool). false ∷ x) (ahead_zeros n z)

ahead_padded : (n z : ℕ) (t : List Bool) → ahead n (t ++ replicate z false) ≡ ahead n t
unfolding ahead
ahead_padded zero z t = refl
ahead_padded (suc n) z [] = ahead_zeros (suc n) z
ahead_padded (suc n) z (b ∷ t) = ap (λ (x : List Bool). b ∷ x) (ahead_padded n z t)

drop_zeros : (p z : ℕ) → drop p (replicate z false) ≡ replicate (z - p) false
drop_zeros zero z = let e : z - 0 ≡ z = omega arith in rw e refl
drop_zeros (suc p) zero = let e : 0 - suc p ≡ 0 = omega arith in rw e refl
drop_zeros (suc p) (suc z) = let e : suc z - suc p ≡ z - p = omega arith in rw e (drop_zeros p z)

-- what is left of a text and the zeros behind it
drop_padded : (p z : ℕ) (t : List Bool) → drop p (t ++ replicate z false) ≡ drop p t ++ replicate (z - (p - length t)) false
drop_padded zero z t = let e : z - (0 - length t) ≡ z = omega arith in rw e refl
drop_padded (suc p) z [] = let e : suc p - 0 ≡ suc p = omega arith in rw e (drop_zeros (suc p) z)
drop_padded (suc p) z (b ∷ t) = let e : suc p - length (b ∷ t) ≡ p - length t = omega arith in rw e (drop_padded p z t)

-- the zeros behind a text change nothing of what is peeked
pub ahead-padded : (n p z : ℕ) (t : List Bool) → ahead n (drop p (padded t z)) ≡ ahead n (drop p t)
unfolding padded
ahead-padded n p z t = ap (ahead n) (drop_padded p z t) ∙ ahead_padded n (z - (p - length t)) (drop p t)

-- behind the bytes only zeros are left
pub padded_rest : (p z : ℕ) (t : List Bool) → length (drop p (padded t z)) ≤ z → drop p (padded t z) ≡ replicate (z - (p - length t)) false
unfolding padded
padded_rest p z t le =
    let past : length t ≤ p = omega (arith, le, ap length (drop_padded p z t), length-append (drop p t) (replicate (z - (p - length t)) false), length-replicate (z - (p - length t)) false, length-drop p t) in
    drop_padded p z t ∙ ap (λ (x : List Bool). x ++ replicate (z - (p - length t)) false) (drop_all p t past)

pub zeros_are_zero : (z : ℕ) → all_zero (replicate z false) ≡ true
unfolding all_zero
zeros_are_zero zero = refl
zeros_are_zero (suc z) = zeros_are_zero z

pub zeros_have_no_one : (z : ℕ) → first_one (replicate z false) ≡ 0
unfolding first_one
zeros_have_no_one zero = refl
zeros_have_no_one (suc z) = zeros_have_no_one z

-- a reader n bits on is one of the same text
pub past_place : (n : ℕ) (u : Unread) → u.rest ≡ drop u.place u.text → (past n u).rest ≡ drop (past n u).place (past n u).text
past_place n u is = ap (drop n) is ∙ drop-drop n u.place u.text

-- where only the zeros behind the bytes are left
only_zeros : (u : Unread) (t : List Bool) (z : ℕ) → u.rest ≡ drop u.place u.text → u.text ≡ padded t z → length u.rest ≤ z → u.rest ≡ replicate (z - (u.place - length t)) false
only_zeros u t z is text le =
    let e : u.rest ≡ drop u.place (padded t z) = is ∙ ap (drop u.place) text in
    e ∙ padded_rest u.place z t (omega (arith, le, ap length e))

pub behind_zero : (u : Unread) (t : List Bool) (z : ℕ) → u.rest ≡ drop u.place u.text → u.text ≡ padded t z → length u.rest ≤ z → all_zero u.rest ≡ true
behind_zero u t z is text le = ap all_zero (only_zeros u t z is text le) ∙ zeros_are_zero (z - (u.place - length t))

pub behind_no_one : (u : Unread) (t : List Bool) (z : ℕ) → u.rest ≡ drop u.place u.text → u.text ≡ padded t z → length u.rest ≤ z → first_one u.rest ≡ 0
behind_no_one u t z is text le = ap first_one (only_zeros u t z is text le) ∙ zeros_have_no_one (z - (u.place - length t))

pub ruleset lengths = (length-bits, length-bits_of, length-append, length-drop, length-take, length-padded)
