-- The text of a cut is cut into the units that were copied, and the sequence end code.
use Rattle.std.proofs.Common.{◌≡◌, ℕ, zero, suc, ◌<◌, ◌≤◌, Bool, true, false, List, [], ◌∷◌, ◌++◌, length, drop, take, inl, inr, refl, sym, ap, subst, ◌∙◌, append_assoc, append-nil, arith}
use Rattle.std.specs.Prelude.{nat_eq, ◌&&◌}
use Rattle.std.proofs.lemmas.Bool.{cases_Bool, eqb-true}
use Rattle.std.proofs.lemmas.List.{length-append}
use Rattle.m2v_model.specs.Units.{Units, begins_code, joined, Clear, AreUnits, Cuts}
use Rattle.m2v_model.proofs.CutLaws.{joined-append}
use Rattle.m2v_law_group.specs.Groups.{with_broken_link, broken_header, end_code}
use Rattle.m2v_law_group.specs.Chosen.{EndClear}

-- ---- a start code begins before other bytes

-- where a start code begins in bytes doesn't go by what stands behind the first three bytes that follow
swap_here : (x : ℕ) (w : List ℕ) (a b c v d : ℕ) (s t : List ℕ) → begins_code (x ∷ (w ++ a ∷ b ∷ c ∷ v ∷ s)) ≡ begins_code (x ∷ (w ++ a ∷ b ∷ c ∷ d ∷ t))
swap_here x [] a b c v d s t = refl
swap_here x (y ∷ []) a b c v d s t = refl
swap_here x (y ∷ z ∷ []) a b c v d s t = refl
swap_here x (y ∷ z ∷ q ∷ w) a b c v d s t = refl

swap : (w : List ℕ) (a b c v d : ℕ) (s t : List ℕ) (i : ℕ) → i < length w → begins_code (drop i (w ++ a ∷ b ∷ c ∷ v ∷ s)) ≡ begins_code (drop i (w ++ a ∷ b ∷ c ∷ d ∷ t))
swap [] a b c v d s t i lt = absurd (omega arith)
swap (x ∷ w) a b c v d s t zero lt = swap_here x w a b c v d s t
swap (x ∷ w) a b c v d s t (suc i) lt = swap w a b c v d s t i (omega arith)

-- units before others that begin with the same three bytes
pub are_swapped : (us vs ws : Units) (a b c v d : ℕ) (s t : List ℕ) → joined vs ≡ a ∷ b ∷ c ∷ v ∷ s → joined ws ≡ a ∷ b ∷ c ∷ d ∷ t → AreUnits ws → AreUnits (us ++ vs) → AreUnits (us ++ ws)
are_swapped [] vs ws a b c v d s t ev ew w h = w
are_swapped (u ∷ us) vs ws a b c v d s t ev ew w h = (
  h.0,
  h.1,
  λ i le lt.
      let whole : (l : Units) → u ++ joined (us ++ l) ≡ (u ++ joined us) ++ joined l = λ l. ap (λ (x : List ℕ). u ++ x) (joined-append us l) ∙ sym (append_assoc u (joined us) (joined l)) in
      let old : begins_code (drop i ((u ++ joined us) ++ a ∷ b ∷ c ∷ v ∷ s)) ≡ false = subst (λ (x : List ℕ). begins_code (drop i ((u ++ joined us) ++ x)) ≡ false) ev (subst (λ (x : List ℕ). begins_code (drop i x) ≡ false) (whole vs) (h.2 i le lt)) in
      let new : begins_code (drop i ((u ++ joined us) ++ a ∷ b ∷ c ∷ d ∷ t)) ≡ false = sym (swap (u ++ joined us) a b c v d s t i (omega (arith, lt, length-append u (joined us)))) ∙ old in
      subst (λ (x : List ℕ). begins_code (drop i x) ≡ false) (sym (whole ws)) (subst (λ (x : List ℕ). begins_code (drop i ((u ++ joined us) ++ x)) ≡ false) (sym ew) new),
  are_swapped us vs ws a b c v d s t ev ew w h.3,
)

-- ---- a changed group header

at_least_32 : (n : ℕ) → 32 ≤ with_broken_link n
at_least_32 n = omega arith

not_zero : (n : ℕ) → 32 ≤ n → nat_eq n 0 ≡ false
not_zero n le = elim (cases_Bool (nat_eq n 0)) [ inl on ↦ absurd (omega (arith, eqb-true n 0 on, le)) | inr off ↦ off ]

not_one : (n : ℕ) → 32 ≤ n → nat_eq n 1 ≡ false
not_one n le = elim (cases_Bool (nat_eq n 1)) [ inl on ↦ absurd (omega (arith, eqb-true n 1 on, le)) | inr off ↦ off ]

and_off : (a : Bool) → (a && false) ≡ false
and_off true = refl
and_off false = refl

third_off : (x y n : ℕ) (w : List ℕ) → nat_eq n 1 ≡ false → begins_code (x ∷ y ∷ n ∷ w) ≡ false
third_off x y n [] e = refl
third_off x y n (v ∷ w) e = rw (e, and_off (nat_eq y 0)) (and_off (nat_eq x 0))

pub second_off : (x n : ℕ) (w : List ℕ) → nat_eq n 0 ≡ false → begins_code (x ∷ n ∷ w) ≡ false
second_off x n [] e = refl
second_off x n (y ∷ []) e = refl
second_off x n (y ∷ v ∷ w) e = rw e (and_off (nat_eq x 0))

pub first_off : (n : ℕ) (w : List ℕ) → nat_eq n 0 ≡ false → begins_code (n ∷ w) ≡ false
first_off n [] e = refl
first_off n (x ∷ []) e = refl
first_off n (x ∷ y ∷ []) e = refl
first_off n (x ∷ y ∷ v ∷ w) e = rw e refl

same_value : (x y z d n : ℕ) (w : List ℕ) → begins_code (x ∷ y ∷ z ∷ d ∷ w) ≡ false → begins_code (x ∷ y ∷ z ∷ n ∷ w) ≡ false
same_value x y z d n w e = e

changed_clear : (u0 u1 u2 u3 a b c d n : ℕ) (bs rest : List ℕ) → 32 ≤ n → Clear 4 (u0 ∷ u1 ∷ u2 ∷ u3 ∷ a ∷ b ∷ c ∷ d ∷ bs) rest → Clear 4 (u0 ∷ u1 ∷ u2 ∷ u3 ∷ a ∷ b ∷ c ∷ n ∷ bs) rest
changed_clear u0 u1 u2 u3 a b c d n bs rest le h zero from lt = absurd (omega arith)
changed_clear u0 u1 u2 u3 a b c d n bs rest le h (suc zero) from lt = absurd (omega arith)
changed_clear u0 u1 u2 u3 a b c d n bs rest le h (suc (suc zero)) from lt = absurd (omega arith)
changed_clear u0 u1 u2 u3 a b c d n bs rest le h (suc (suc (suc zero))) from lt = absurd (omega arith)
changed_clear u0 u1 u2 u3 a b c d n bs rest le h (suc (suc (suc (suc zero)))) from lt = same_value a b c d n (bs ++ rest) (h 4 (omega arith) (omega arith))
changed_clear u0 u1 u2 u3 a b c d n bs rest le h (suc (suc (suc (suc (suc zero))))) from lt = third_off b c n (bs ++ rest) (not_one n le)
changed_clear u0 u1 u2 u3 a b c d n bs rest le h (suc (suc (suc (suc (suc (suc zero)))))) from lt = second_off c n (bs ++ rest) (not_zero n le)
changed_clear u0 u1 u2 u3 a b c d n bs rest le h (suc (suc (suc (suc (suc (suc (suc zero))))))) from lt = first_off n (bs ++ rest) (not_zero n le)
changed_clear u0 u1 u2 u3 a b c d n bs rest le h (suc (suc (suc (suc (suc (suc (suc (suc i)))))))) from lt = h (suc (suc (suc (suc (suc (suc (suc (suc i)))))))) (omega arith) (omega (arith, lt))

-- units with a group header, and with the changed one
pub are_changed : (us vs : Units) (g : List ℕ) → 8 ≤ length g → AreUnits (us ++ g ∷ vs) → AreUnits (g ∷ vs) → AreUnits (us ++ broken_header g ∷ vs)
are_changed us vs (u0 ∷ u1 ∷ u2 ∷ u3 ∷ a ∷ b ∷ c ∷ d ∷ bs) le h own =
    let n = with_broken_link d in
    let new : AreUnits ((u0 ∷ u1 ∷ u2 ∷ u3 ∷ a ∷ b ∷ c ∷ n ∷ bs) ∷ vs) = (omega (arith, own.0), own.1, changed_clear u0 u1 u2 u3 a b c d n bs (joined vs) (at_least_32 d) own.2, own.3) in
    are_swapped us ((u0 ∷ u1 ∷ u2 ∷ u3 ∷ a ∷ b ∷ c ∷ d ∷ bs) ∷ vs) ((u0 ∷ u1 ∷ u2 ∷ u3 ∷ a ∷ b ∷ c ∷ n ∷ bs) ∷ vs) u0 u1 u2 u3 u3 (a ∷ b ∷ c ∷ d ∷ (bs ++ joined vs)) (a ∷ b ∷ c ∷ n ∷ (bs ++ joined vs)) refl refl new h
are_changed us vs _ le h own = absurd (omega arith)

-- ---- the end code

pub code_are : AreUnits (end_code ∷ [])
code_are = (omega arith, refl, λ i le lt. absurd (omega arith), tt)

pub record CodeBytes (y : List ℕ) : Type 0 where
  pub value : ℕ
  pub rest : List ℕ
  pub is : y ≡ 0 ∷ 0 ∷ 1 ∷ value ∷ rest

pub code_bytes : (y : List ℕ) → begins_code y ≡ true → CodeBytes y
code_bytes [] h = absurd cc
code_bytes (a ∷ []) h = absurd cc
code_bytes (a ∷ b ∷ []) h = absurd cc
code_bytes (a ∷ b ∷ c ∷ []) h = absurd cc
code_bytes (a ∷ b ∷ c ∷ v ∷ w) h =
    let p = both (nat_eq a 0) (nat_eq b 0 && nat_eq c 1) h in
    let q = both (nat_eq b 0) (nat_eq c 1) p.1 in
    record { value = v; rest = w; is = ap (λ (x : ℕ). x ∷ b ∷ c ∷ v ∷ w) (eqb-true a 0 p.0) ∙ ap (λ (x : ℕ). 0 ∷ x ∷ c ∷ v ∷ w) (eqb-true b 0 q.0) ∙ ap (λ (x : ℕ). 0 ∷ 0 ∷ x ∷ v ∷ w) (eqb-true c 1 q.1) }
  where
    both : (a b : Bool) → (a && b) ≡ true → (a ≡ true) × (b ≡ true)
    both true b e = (refl, e)
    both false b e = absurd cc

-- bytes whose last three aren't the prefix of a start code
end_here : (x : ℕ) (w : List ℕ) → begins_code (x ∷ w) ≡ false → (x ∷ w ≡ 0 ∷ 0 ∷ 1 ∷ [] → ⊥) → begins_code (x ∷ (w ++ end_code)) ≡ false
end_here x [] h none = and_off (nat_eq x 0)
end_here x (y ∷ []) h none = rw (and_off (nat_eq y 0)) (and_off (nat_eq x 0))
end_here x (y ∷ z ∷ []) h none = elim (cases_Bool (begins_code (x ∷ y ∷ z ∷ end_code))) [
  | inl on ↦ let b = code_bytes (x ∷ y ∷ z ∷ end_code) on in absurd (none (three x y z b.value b.rest b.is))
  | inr off ↦ off
]
  where
    three : (x y z v : ℕ) (w : List ℕ) → x ∷ y ∷ z ∷ end_code ≡ 0 ∷ 0 ∷ 1 ∷ v ∷ w → x ∷ y ∷ z ∷ [] ≡ 0 ∷ 0 ∷ 1 ∷ []
    three x y z v w e = ap (take 3) e
end_here x (y ∷ z ∷ v ∷ w) h none = h

pub end_clear : (w : List ℕ) (i : ℕ) → i < length w → begins_code (drop i w) ≡ false → EndClear w → begins_code (drop i (w ++ end_code)) ≡ false
end_clear [] i lt h none = absurd (omega arith)
end_clear (x ∷ w) zero lt h none = end_here x w h (λ e. none [] e)
end_clear (x ∷ w) (suc i) lt h none = end_clear w i (omega arith) h (λ front e. none (x ∷ front) (ap (λ (l : List ℕ). x ∷ l) e))

are_ended : (us : Units) → AreUnits us → EndClear (joined us) → AreUnits (us ++ end_code ∷ [])
are_ended [] h none = code_are
are_ended (u ∷ us) h none = (
  h.0,
  h.1,
  λ i le lt.
      let whole : u ++ joined (us ++ end_code ∷ []) ≡ (u ++ joined us) ++ end_code = ap (λ (x : List ℕ). u ++ x) (joined-append us (end_code ∷ [])) ∙ sym (append_assoc u (joined us) end_code) in
      subst (λ (x : List ℕ). begins_code (drop i x) ≡ false) (sym whole) (end_clear (u ++ joined us) i (omega (arith, lt, length-append u (joined us))) (h.2 i le lt) none),
  are_ended us h.3 (λ front e. none (u ++ front) (ap (λ (l : List ℕ). u ++ l) e ∙ sym (append_assoc u front (0x00 ∷ 0x00 ∷ 0x01 ∷ [])))),
)

first_begins : (us : Units) (v : List ℕ) (vs : Units) → AreUnits (us ++ v ∷ vs) → begins_code v ≡ true
first_begins [] v vs h = h.1
first_begins (u ∷ us) v vs h = first_begins us v vs h.3

-- units before others are units with the end code in their place
pub front_ended : (us : Units) (v : List ℕ) (vs : Units) → AreUnits (us ++ v ∷ vs) → AreUnits (us ++ end_code ∷ [])
front_ended us v vs h =
    let b = code_bytes v (first_begins us v vs h) in
    are_swapped us (v ∷ vs) (end_code ∷ []) 0 0 1 b.value 0xB7 (b.rest ++ joined vs) [] (ap (λ (l : List ℕ). l ++ joined vs) b.is) refl code_are h

-- units of a stream, behind which others may stand, with the end code in their place
pub are_cut : (us vs : Units) → AreUnits (us ++ vs) → EndClear (joined us) → AreUnits (us ++ end_code ∷ [])
are_cut us [] h none = are_ended us (subst AreUnits (append-nil us) h) none
are_cut us (v ∷ vs) h none = front_ended us v vs h

pub cut_cuts : (us : Units) → AreUnits (us ++ end_code ∷ []) → Cuts (joined us ++ end_code) [] (us ++ end_code ∷ [])
cut_cuts us h = record { whole = sym (joined-append us (end_code ∷ [])); front_clear = λ i le lt. absurd (omega arith); are_units = h }
