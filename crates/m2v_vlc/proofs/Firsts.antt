-- Table B.14 at the first coefficient of a block that is not intra.
use Rattle.std.proofs.Common.{◌≡◌, ℕ, ◌+◌, ◌<◌, ◌≤◌, Bool, true, false, cond, List, [], ◌∷◌, length, drop, None, refl, sym, ◌∙◌, arith}
use Rattle.std.specs.Prelude.{ℤ, pos, negsuc}
use Rattle.std.specs.List.{list_all}
use Rattle.std.proofs.lemmas.Bool.{cond-false, false_from_ne_true}
use Rattle.m2v_bits.specs.Bits.{bits_of, number, ahead}
use Rattle.m2v_bits.specs.Syntax.{Spells}
use Rattle.m2v_bits.proofs.SyntaxLaws.{Strict, good, bad}
use Rattle.m2v_vlc.specs.declared.values.Coefficient.{Coefficient}
use Rattle.m2v_vlc.specs.declared.values.Coefficient.TheVariants.{End, Escape, Pair}
use Rattle.m2v_vlc.specs.declared.values.CodeFault.TheVariants.{Truncated, NoCode}
use Rattle.m2v_vlc.specs.Codes.{Row, row, code, code_of, code_at, begins, row_at, is_cut, apart_all, is_free, is_within, is_other, is_single}
use Rattle.m2v_vlc.specs.Values.{same_signed, minus}
use Rattle.m2v_vlc.specs.Coefficients.{signed, same_coefficient, pairs_zero, coefficient_zero, coefficient_zero_code, first_zero, first_zero_code, IsFirst}
use Rattle.m2v_vlc.proofs.CodeLaws.{code_strict, length_within, code_spells}
use Rattle.m2v_vlc.proofs.Places.{coefficient_sound, is_small, small_range}

pub first_zero_free : is_free first_zero ≡ true
unfolding is_free apart_all first_zero pairs_zero signed
first_zero_free = refl

first_zero_within : is_within 17 first_zero ≡ true
unfolding is_within first_zero pairs_zero signed
first_zero_within = refl

pub first_zero_single : is_single same_coefficient first_zero ≡ true
unfolding is_single is_other same_coefficient same_signed first_zero pairs_zero signed
first_zero_single = refl

-- ---- what may stand first

abbrev pub is_first : Coefficient → Bool
is_first End = false
is_first Escape = true
is_first (Pair run level) = is_small (Pair run level)

pub first_range : (v : Coefficient) → is_first v ≡ true → IsFirst v
first_range End e = absurd cc
first_range Escape e = tt
first_range (Pair run level) e = small_range (Pair run level) e

pub first_zero_known : list_all (λ r. is_first r.value) first_zero ≡ true
unfolding first_zero pairs_zero signed
first_zero_known = refl

-- ---- both tables have the same rows behind run 0 and level 1

abbrev rest : List (Row Coefficient)
rest = signed (drop 1 pairs_zero)

abbrev zero_rows : List (Row Coefficient) → List (Row Coefficient)
zero_rows t = row End 0x2 2 ∷ row Escape 0x1 6 ∷ row (Pair 0 (pos 1)) 0x6 3 ∷ row (Pair 0 (minus 1)) 0x7 3 ∷ t

abbrev first_rows : List (Row Coefficient) → List (Row Coefficient)
first_rows t = row Escape 0x1 6 ∷ row (Pair 0 (pos 1)) 0x2 2 ∷ row (Pair 0 (minus 1)) 0x3 2 ∷ t

zero_is : coefficient_zero ≡ zero_rows rest
unfolding coefficient_zero pairs_zero signed
zero_is = refl

first_is : first_zero ≡ first_rows rest
unfolding first_zero pairs_zero signed
first_is = refl

-- ---- reading

-- where the first bit is not 1 the tables read the same
same_read : (t : List (Row Coefficient)) (bs : List Bool) → number (ahead 2 bs) < 2 → (code_at Truncated NoCode (first_rows t)).read bs ≡ (code_at Truncated NoCode (zero_rows t)).read bs
unfolding code_at row_at is_cut begins bits_of number ahead
same_read t [] lt = refl
same_read t (false ∷ bs) lt = refl
same_read t (true ∷ []) lt = absurd (omega arith)
same_read t (true ∷ true ∷ bs) lt = absurd (omega arith)
same_read t (true ∷ false ∷ bs) lt = absurd (omega arith)

pub first_same : (bs : List Bool) → number (ahead 2 bs) < 2 → (code_at Truncated NoCode first_zero).read bs ≡ (code_at Truncated NoCode coefficient_zero).read bs
first_same bs lt = rw (first_is, zero_is) (same_read rest bs lt)

short_cut : (t : List (Row Coefficient)) → row_at t (true ∷ []) ≡ None → (code_at Truncated NoCode (first_rows t)).read (true ∷ []) ≡ bad (Truncated, 1)
unfolding code_at row_at is_cut begins bits_of
short_cut t none = rw none refl

rest_none : row_at rest (true ∷ []) ≡ None
unfolding row_at begins bits_of pairs_zero signed
rest_none = refl

-- a 1 at the end is cut off
pub first_cut : (bs : List Bool) → 2 ≤ number (ahead 2 bs) → length bs < 2 → (code_at Truncated NoCode first_zero).read bs ≡ bad (Truncated, length bs)
unfolding number ahead
first_cut [] le lt = absurd (omega arith)
first_cut (false ∷ []) le lt = absurd (omega arith)
first_cut (true ∷ []) le lt = rw first_is (short_cut rest rest_none)
first_cut (a ∷ b ∷ bs) le lt = absurd (omega arith)

-- after a 1 the next bit is the sign
unit_read : (t : List (Row Coefficient)) (sign : Bool) (bs : List Bool) → number (ahead 2 bs) ≡ 2 + cond sign 1 0 → 2 ≤ length bs → (code_at Truncated NoCode (first_rows t)).read bs ≡ good (Pair 0 (cond sign (minus 1) (pos 1)), drop 2 bs)
unfolding code_at row_at begins bits_of number ahead
unit_read t sign [] e le = absurd (omega arith)
unit_read t sign (a ∷ []) e le = absurd (omega arith)
unit_read t false (true ∷ false ∷ bs) e le = refl
unit_read t true (true ∷ true ∷ bs) e le = refl
unit_read t false (true ∷ true ∷ bs) e le = absurd (omega arith)
unit_read t true (true ∷ false ∷ bs) e le = absurd (omega arith)
unit_read t sign (false ∷ true ∷ bs) e le = absurd (omega arith)
unit_read t sign (false ∷ false ∷ bs) e le = absurd (omega arith)

pub first_plus : (bs : List Bool) → number (ahead 2 bs) ≡ 2 → 2 ≤ length bs → (code_at Truncated NoCode first_zero).read bs ≡ good (Pair 0 (pos 1), drop 2 bs)
first_plus bs e le = rw first_is (unit_read rest false bs e le)

pub first_minus : (bs : List Bool) → number (ahead 2 bs) ≡ 3 → 2 ≤ length bs → (code_at Truncated NoCode first_zero).read bs ≡ good (Pair 0 (minus 1), drop 2 bs)
first_minus bs e le = rw first_is (unit_read rest true bs e le)

-- ---- the codes

pub first_zero_end : first_zero_code End ≡ []
unfolding first_zero pairs_zero signed code_of same_coefficient
first_zero_end = refl

pub first_zero_escape : first_zero_code Escape ≡ bits_of 6 0x1
unfolding first_zero code_of same_coefficient
first_zero_escape = refl

plus_code : (t : List (Row Coefficient)) → code_of same_coefficient (first_rows t) (Pair 0 (pos 1)) ≡ bits_of 2 2
unfolding code_of same_coefficient same_signed
plus_code t = refl

minus_code : (t : List (Row Coefficient)) → code_of same_coefficient (first_rows t) (Pair 0 (negsuc 0)) ≡ bits_of 2 3
unfolding code_of same_coefficient same_signed
minus_code t = refl

pub first_zero_plus : first_zero_code (Pair 0 (pos 1)) ≡ bits_of 2 2
first_zero_plus = rw first_is (plus_code rest)

pub first_zero_minus : first_zero_code (Pair 0 (negsuc 0)) ≡ bits_of 2 3
first_zero_minus = rw first_is (minus_code rest)

skip : (r : Row Coefficient) (t : List (Row Coefficient)) (v : Coefficient) → same_coefficient r.value v ≡ false → code_of same_coefficient (r ∷ t) v ≡ code_of same_coefficient t v
unfolding code_of
skip r t v e = cond-false (same_coefficient r.value v) (code r) (code_of same_coefficient t v) e

not_end : (run : ℕ) (level : ℤ) → same_coefficient End (Pair run level) ≡ false
unfolding same_coefficient
not_end run level = refl

not_escape : (run : ℕ) (level : ℤ) → same_coefficient Escape (Pair run level) ≡ false
unfolding same_coefficient
not_escape run level = refl

not_pair : (run : ℕ) (k level : ℤ) → (run ≡ 0 → level ≡ k → ⊥) → same_coefficient (Pair 0 k) (Pair run level) ≡ false
not_pair run k level far = false_from_ne_true _ (λ e. let same = coefficient_sound (Pair 0 k) (Pair run level) e in far (cc same) (cc same))

same_code : (t : List (Row Coefficient)) (run : ℕ) (level : ℤ) → (run ≡ 0 → level ≡ pos 1 → ⊥) → (run ≡ 0 → level ≡ negsuc 0 → ⊥) → code_of same_coefficient (first_rows t) (Pair run level) ≡ code_of same_coefficient (zero_rows t) (Pair run level)
same_code t run level p m =
    let v : Coefficient = Pair run level in
    let ep = not_pair run (pos 1) level p in
    let em = not_pair run (negsuc 0) level m in
    skip _ _ v (not_escape run level) ∙ skip _ _ v ep ∙ skip _ t v em
    ∙ sym (skip _ _ v (not_end run level) ∙ skip _ _ v (not_escape run level) ∙ skip _ _ v ep ∙ skip _ t v em)

-- but for run 0 and level 1 the codes are those of the table
pub first_other : (run : ℕ) (level : ℤ) → (run ≡ 0 → level ≡ pos 1 → ⊥) → (run ≡ 0 → level ≡ negsuc 0 → ⊥) → first_zero_code (Pair run level) ≡ coefficient_zero_code (Pair run level)
first_other run level p m = rw (first_is, zero_is) (same_code rest run level p m)

-- ---- the laws

pub first_zero_strict : {K : Type 0} (cut none : K) → Strict length (code_at cut none first_zero)
first_zero_strict cut none = code_strict cut none first_zero first_zero_free

pub first_zero_length : (v : Coefficient) → length (first_zero_code v) ≤ 17
first_zero_length v = length_within same_coefficient 17 first_zero v first_zero_within

pub first_zero_spells : {K : Type 0} (cut none : K) (v : Coefficient) → 0 < length (first_zero_code v) → Spells (code_at cut none first_zero) v (first_zero_code v)
first_zero_spells cut none v some = code_spells cut none same_coefficient first_zero v coefficient_sound some
