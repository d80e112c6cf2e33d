-- When the tests on values hold, and what is known of each value that is read.
use Rattle.std.proofs.Common.{◌≡◌, ℕ, zero, suc, ◌<◌, Bool, true, false, List, [], ◌∷◌, Ok, Err, Result, rules, inl, inr, refl, sym, ap, subst, arith}
use Rattle.std.specs.Prelude.{ℤ, pos, negsuc, int_lt, ◌<ℤ◌, ◌≤ℤ◌, IfOk}
use Rattle.std.proofs.lemmas.Int.{ints}
use Rattle.std.specs.List.{list_all}
use Rattle.std.proofs.lemmas.Bool.{cases_lt, eqb-true, eq-eqb, and_parts}
use Rattle.m2v_bits.specs.Syntax.{Gives}
use Rattle.m2v_vlc.specs.Codes.{Row, In, code_at, is_free}
use Rattle.m2v_vlc.specs.Values.{same_number, same_increment, same_signed, same_flag, same_type}
use Rattle.m2v_vlc.specs.declared.values.Increment.TheVariants.{Step, Escape}
use Rattle.m2v_vlc.proofs.CodeLaws.{Sound, Reflexive, code_lawful}

pub number_sound : Sound same_number
number_sound a b e = eqb-true a b e

pub number_reflexive : Reflexive same_number
number_reflexive a = eq-eqb a a refl

pub increment_sound : Sound same_increment
unfolding same_increment
increment_sound (Step a) (Step b) e = ap Step (eqb-true a b e)
increment_sound (Step a) Escape e = absurd cc
increment_sound Escape (Step b) e = absurd cc
increment_sound Escape Escape e = refl

pub increment_reflexive : Reflexive same_increment
unfolding same_increment
increment_reflexive (Step a) = eq-eqb a a refl
increment_reflexive Escape = refl

pub signed_sound : Sound same_signed
unfolding same_signed
signed_sound (pos a) (pos b) e = ap pos (eqb-true a b e)
signed_sound (pos a) (negsuc b) e = absurd cc
signed_sound (negsuc a) (pos b) e = absurd cc
signed_sound (negsuc a) (negsuc b) e = ap negsuc (eqb-true a b e)

pub signed_reflexive : Reflexive same_signed
unfolding same_signed
signed_reflexive (pos a) = eq-eqb a a refl
signed_reflexive (negsuc a) = eq-eqb a a refl

flag_sound : (a b : Bool) → same_flag a b ≡ true → a ≡ b
flag_sound true b e = sym e
flag_sound false true e = absurd cc
flag_sound false false e = refl

flag_reflexive : (a : Bool) → same_flag a a ≡ true
flag_reflexive true = refl
flag_reflexive false = refl

pub type_sound : Sound same_type
type_sound a b e =
    let h = and_parts (same_flag a.quant b.quant) _ e in
    let i = and_parts (same_flag a.forward b.forward) _ h.1 in
    let j = and_parts (same_flag a.backward b.backward) _ i.1 in
    let k = and_parts (same_flag a.pattern b.pattern) (same_flag a.intra b.intra) j.1 in
    let q = flag_sound a.quant b.quant h.0 in
    let f = flag_sound a.forward b.forward i.0 in
    let c = flag_sound a.backward b.backward j.0 in
    let p = flag_sound a.pattern b.pattern k.0 in
    let n = flag_sound a.intra b.intra k.1 in
    λ x. record { quant = q x; forward = f x; backward = c x; pattern = p x; intra = n x }

pub type_reflexive : Reflexive same_type
type_reflexive a = rw (flag_reflexive a.quant, flag_reflexive a.forward, flag_reflexive a.backward, flag_reflexive a.pattern, flag_reflexive a.intra) refl

-- what a program's test of a sign says
pub is_negative : (v : ℤ) → int_lt v (pos 0) ≡ true → v <ℤ pos 0
is_negative v e = grind (arith, ints)

pub is_positive : (v : ℤ) → int_lt v (pos 0) ≡ false → pos 0 ≤ℤ v
is_positive v e = grind (arith, ints)

-- ---- what holds of each row's value holds of a value that is read

pub all_in : {V : Type 0} (test : V → Bool) (t : List (Row V)) (r : Row V) → list_all (λ s. test s.value) t ≡ true → In t r → test r.value ≡ true
all_in test [] r a i = absurd i
all_in {V} test (s ∷ t) r a i =
    let h = and_parts (test s.value) (list_all (λ (x : Row V). test x.value) t) a in
    elim i [ inl e ↦ subst (λ (x : Row V). test x.value ≡ true) e h.0 | inr j ↦ all_in test t r h.1 j ]

pub in_range : {V K : Type 0} (P : V → Type 0) (test : V → Bool) (cut none : K) (t : List (Row V)) (bs rest : List Bool) (result : Result V K) → is_free t ≡ true → list_all (λ s. test s.value) t ≡ true → ((v : V) → test v ≡ true → P v)
    → Gives result rest ((code_at cut none t).read bs) → IfOk result P
unfolding code_at
in_range {V} P test cut none t bs rest (Ok v) free all p gives = let st = (code_lawful cut none t free).found v bs rest gives in p v (subst (λ (x : V). test x ≡ true) st.2 (all_in test t st.0 all st.1))
in_range P test cut none t bs rest (Err e) free all p gives = search rules

-- ---- two functions that agree below n, by computing

unfoldable pub below : {A : Type 0} → (ℕ → A) → ℕ → List A
below f zero = []
below f (suc n) = f n ∷ below f n

head_is : {A : Type 0} (x y : A) (xs ys : List A) → x ∷ xs ≡ y ∷ ys → (x ≡ y) × (xs ≡ ys)
head_is x y xs ys e = (cc, cc)

pub agree : {A : Type 0} (f g : ℕ → A) (n i : ℕ) → below f n ≡ below g n → i < n → f i ≡ g i
unfolding below
agree f g zero i e lt = absurd (omega arith)
agree {A} f g (suc n) i e lt =
    let h = head_is (f n) (g n) (below f n) (below g n) e in
    elim (cases_lt i n) [ inl less ↦ agree f g n i h.1 less | inr le ↦ let same : n ≡ i = omega arith in subst (λ (x : ℕ). f x ≡ g x) same h.0 ]
