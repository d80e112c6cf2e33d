-- The laws of code tables, once for all of them.
use Rattle.std.proofs.Common.{◌≡◌, ℕ, ◌+◌, ◌-◌, ◌/◌, ◌^◌, ◌<◌, ◌≤◌, Bool, true, false, eqb, leb, ltb, List, [], ◌∷◌, ◌++◌, length, take, drop, Option, Some, None, ◌⊎◌, inl, inr, refl, sym, ap, subst, ◌∙◌, arith}
use Rattle.std.specs.Prelude.{◌&&◌, not}
use Rattle.std.proofs.lemmas.Bool.{cases_Bool, eq-eqb, le-leb, leb-true, leb-false, ltb-true, and_parts, and_from, cond-true, cond-false, both_ways, false_from_ne_true, not-true}
use Rattle.std.proofs.lemmas.List.{length-append, length-take, take_at, drop_at, take-append-drop}
use Rattle.std.proofs.lemmas.Nat.{shr_high, shr-shr}
use Rattle.std.proofs.Math.Nat.{mod-eq_of_lt}
use Rattle.m2v_bits.specs.Bits.{number}
use Rattle.m2v_bits.specs.Syntax.{Spells}
use Rattle.m2v_bits.proofs.Bits.{length-bits_of, number-bits_of, number-append, number_below, same_bits}
use Rattle.m2v_bits.proofs.SyntaxLaws.{Lawful, Takes, Strict, good, bad, good_is}
use Rattle.m2v_vlc.specs.Codes.{Row, code, In, code_of, begins, row_at, is_cut, by_row, code_at, is_code, apart, apart_all, is_free, is_within, is_other, is_single}

-- ---- bits that begin with a code

pub begins_own : (c rest : List Bool) → begins c (c ++ rest) ≡ true
unfolding begins
begins_own [] rest = refl
begins_own (true ∷ c) rest = begins_own c rest
begins_own (false ∷ c) rest = begins_own c rest

pub begins_parts : (c bs : List Bool) → begins c bs ≡ true → bs ≡ c ++ drop (length c) bs
unfolding begins
begins_parts [] bs e = refl
begins_parts (x ∷ c) [] e = absurd cc
begins_parts (true ∷ c) (true ∷ bs) e = ap (λ (y : List Bool). true ∷ y) (begins_parts c bs e)
begins_parts (false ∷ c) (false ∷ bs) e = ap (λ (y : List Bool). false ∷ y) (begins_parts c bs e)
begins_parts (true ∷ c) (false ∷ bs) e = absurd cc
begins_parts (false ∷ c) (true ∷ bs) e = absurd cc

pub begins_short : (c bs : List Bool) → length bs < length c → begins c bs ≡ false
begins_short c bs lt = false_from_ne_true (begins c bs) (λ e. absurd (omega (arith, ap length (begins_parts c bs e), length-append c (drop (length c) bs))))

-- what the bits begin with is their front
pub begins_front : (c bs : List Bool) (n : ℕ) → length c ≡ n → begins c bs ≡ true → take n bs ≡ c
begins_front c bs n len e = ap (take n) (begins_parts c bs e) ∙ take_at c (drop (length c) bs) n len

pub begins_enough : (c bs : List Bool) → begins c bs ≡ true → length c ≤ length bs
begins_enough c bs e = omega (arith, ap length (begins_parts c bs e), length-append c (drop (length c) bs))

pub begins_by : (c bs : List Bool) (n : ℕ) → take n bs ≡ c → n ≡ length c → begins c bs ≡ true
begins_by c bs n front len = subst (λ (x : List Bool). begins c x ≡ true) (ap (λ (x : List Bool). x ++ drop n bs) (sym front) ∙ take-append-drop n bs) (begins_own c (drop n bs))

-- the front of bits, as a number
pub front_number : (n : ℕ) (bs : List Bool) → n ≤ length bs → number bs / 2 ^ (length bs - n) ≡ number (take n bs)
front_number n bs le =
    let parts : bs ≡ take n bs ++ drop n bs = sym (take-append-drop n bs) in
    let len : length bs - n ≡ length (drop n bs) = omega (arith, ap length parts, length-append (take n bs) (drop n bs), length-take n bs) in
    let whole : number bs ≡ number (take n bs ++ drop n bs) = ap number parts in
    rw (len, whole, number-append (take n bs) (drop n bs)) (shr_high (number (take n bs)) (length (drop n bs)) (number (drop n bs)) (number_below (drop n bs)))

pub number-code : {V : Type 0} (r : Row V) → r.number < 2 ^ r.len → number (code r) ≡ r.number
number-code r lt = number-bits_of r.len r.number ∙ mod-eq_of_lt lt

-- a code stands at the head of bits where their first bits are its number
pub begins_number : {V : Type 0} (r : Row V) (bs : List Bool) → r.number < 2 ^ r.len → r.len ≤ length bs → number bs / 2 ^ (length bs - r.len) ≡ r.number → begins (code r) bs ≡ true
begins_number r bs lt le is =
    let len : length (take r.len bs) ≡ length (code r) = omega (arith, length-take r.len bs, length-bits_of r.len r.number) in
    let same : number (take r.len bs) ≡ number (code r) = sym (front_number r.len bs le) ∙ is ∙ sym (number-code r lt) in
    begins_by (code r) bs r.len (same_bits (take r.len bs) (code r) len same) (sym (length-bits_of r.len r.number))

pub number_begins : {V : Type 0} (r : Row V) (bs : List Bool) → r.number < 2 ^ r.len → begins (code r) bs ≡ true → (r.len ≤ length bs) × (number bs / 2 ^ (length bs - r.len) ≡ r.number)
number_begins r bs lt e =
    let le : r.len ≤ length bs = omega (arith, begins_enough (code r) bs e, length-bits_of r.len r.number) in
    (le, front_number r.len bs le ∙ ap number (begins_front (code r) bs r.len (length-bits_of r.len r.number) e) ∙ number-code r lt)

-- ---- rows of a free table

pub code_parts : {V : Type 0} (r : Row V) → is_code r ≡ true → (0 < r.len) × (r.number < 2 ^ r.len)
code_parts r e = let a = and_parts (ltb 0 r.len) (ltb r.number (2 ^ r.len)) e in (ltb-true _ _ a.0, ltb-true _ _ a.1)

pub free_parts : {V : Type 0} (s : Row V) (t : List (Row V)) → is_free (s ∷ t) ≡ true → (is_code s ≡ true) × (apart_all s t ≡ true) × (is_free t ≡ true)
unfolding is_free
free_parts s t e =
    let a = and_parts (is_code s) (apart_all s t && is_free t) e in
    let b = and_parts (apart_all s t) (is_free t) a.1 in
    (a.0, b.0, b.1)

pub free_in : {V : Type 0} (t : List (Row V)) (r : Row V) → is_free t ≡ true → In t r → is_code r ≡ true
free_in [] r f i = absurd i
free_in {V} (s ∷ t) r f i =
    let h = free_parts s t f in
    elim i [ inl e ↦ subst (λ (x : Row V). is_code x ≡ true) e h.0 | inr j ↦ free_in t r h.2 j ]

pub within_in : {V : Type 0} (w : ℕ) (t : List (Row V)) (r : Row V) → is_within w t ≡ true → In t r → r.len ≤ w
unfolding is_within
within_in w [] r f i = absurd i
within_in {V} w (s ∷ t) r f i =
    let h = and_parts (leb s.len w) (is_within w t) f in
    elim i [ inl e ↦ subst (λ (x : Row V). x.len ≤ w) e (leb-true _ _ h.0) | inr j ↦ within_in w t r h.1 j ]

pub within_more : {V : Type 0} (v w : ℕ) (t : List (Row V)) → v ≤ w → is_within v t ≡ true → is_within w t ≡ true
unfolding is_within
within_more v w [] le f = refl
within_more v w (s ∷ t) le f =
    let h = and_parts (leb s.len v) (is_within v t) f in
    and_from (leb s.len w) (is_within w t) (le-leb s.len w (omega (arith, leb-true s.len v h.0))) (within_more v w t le h.1)

pub apart_in : {V : Type 0} (s : Row V) (t : List (Row V)) (r : Row V) → apart_all s t ≡ true → In t r → apart s r ≡ true
unfolding apart_all
apart_in s [] r f i = absurd i
apart_in {V} s (x ∷ t) r f i =
    let h = and_parts (apart s x) (apart_all s t) f in
    elim i [ inl e ↦ subst (λ (y : Row V). apart s y ≡ true) e h.0 | inr j ↦ apart_in s t r h.1 j ]

-- the shorter of two codes at the head of one number begins the other
shorter : (w p a x b y : ℕ) → a ≤ b → b ≤ w → p / 2 ^ (w - a) ≡ x → p / 2 ^ (w - b) ≡ y → y / 2 ^ (b - a) ≡ x
shorter w p a x b y ab bw ex ey =
    let e : (w - b) + (b - a) ≡ w - a = omega arith in
    rw (← ey) (shr-shr p (w - b) (b - a) ∙ rw e ex)

-- two codes that are apart do not begin one text
pub not_both : {V : Type 0} (s r : Row V) (bs : List Bool) → is_code s ≡ true → is_code r ≡ true → apart s r ≡ true → begins (code r) bs ≡ true → begins (code s) bs ≡ true → ⊥
not_both s r bs fs fr ap' er es =
    let a = number_begins s bs (code_parts s fs).1 es in
    let b = number_begins r bs (code_parts r fr).1 er in
    let p = number bs in
    let w = length bs in
    elim (cases_Bool (leb s.len r.len)) [
      | inl le ↦
          let same = eq-eqb _ _ (shorter w p s.len s.number r.len r.number (leb-true _ _ le) b.0 a.1 b.1) in
          both_ways (not (eqb (r.number / 2 ^ (r.len - s.len)) s.number)) (rw same refl) (rw le at ap')
      | inr gt ↦
          let same = eq-eqb _ _ (shorter w p r.len r.number s.len s.number (omega (arith, leb-false _ _ gt)) a.0 b.1 a.1) in
          both_ways (not (eqb (s.number / 2 ^ (s.len - r.len)) r.number)) (rw same refl) (rw gt at ap')
    ]

-- the row whose code the bits begin with is the row that is found
pub row_here : {V : Type 0} (t : List (Row V)) (r : Row V) (bs : List Bool) → is_free t ≡ true → In t r → begins (code r) bs ≡ true → row_at t bs ≡ Some r
unfolding row_at
row_here [] r bs f i own = absurd i
row_here {V} (s ∷ t) r bs f i own =
    let h = free_parts s t f in
    elim i [
      | inl e ↦ rw e (cond-true _ (Some r) (row_at t bs) own)
      | inr j ↦ cond-false _ (Some s) (row_at t bs) (false_from_ne_true (begins (code s) bs) (λ es. not_both s r bs h.0 (free_in t r h.2 j) (apart_in s t r h.1 j) own es)) ∙ row_here t r bs h.2 j own
    ]

pub row_own : {V : Type 0} (t : List (Row V)) (r : Row V) (rest : List Bool) → is_free t ≡ true → In t r → row_at t (code r ++ rest) ≡ Some r
row_own t r rest f i = row_here t r (code r ++ rest) f i (begins_own (code r) rest)

pub some_is : {A : Type 0} (x y : A) → Some x ≡ Some y → x ≡ y
some_is x y e = cc

pub row_found : {V : Type 0} (t : List (Row V)) (r : Row V) (bs : List Bool) → row_at t bs ≡ Some r → In t r × (begins (code r) bs ≡ true)
unfolding row_at
row_found [] r bs e = absurd cc
row_found (s ∷ t) r bs e =
    elim (cases_Bool (begins (code s) bs)) [
      | inl on ↦ let same : s ≡ r = some_is s r (sym (cond-true (begins (code s) bs) (Some s) (row_at t bs) on) ∙ e) in (inl same, rw (← same) on)
      | inr off ↦ let h = row_found t r bs (sym (cond-false (begins (code s) bs) (Some s) (row_at t bs) off) ∙ e) in (inr h.0, h.1)
    ]

row_text : {V : Type 0} (t : List (Row V)) (r : Row V) (bs : List Bool) → row_at t bs ≡ Some r → In t r × (bs ≡ code r ++ drop r.len bs)
row_text t r bs e = let h = row_found t r bs e in let p : bs ≡ code r ++ drop (length (code r)) bs = begins_parts (code r) bs h.1 in (h.0, rw (length-bits_of r.len r.number) at p)

-- where no row's code begins the bits, none is found
pub row_none : {V : Type 0} (t : List (Row V)) (bs : List Bool) → ((r : Row V) → In t r → begins (code r) bs ≡ true → ⊥) → row_at t bs ≡ None
unfolding row_at
row_none [] bs h = refl
row_none (s ∷ t) bs h = cond-false _ (Some s) (row_at t bs) (false_from_ne_true (begins (code s) bs) (λ e. h s (inl refl) e)) ∙ row_none t bs (λ r i e. h r (inr i) e)

-- ---- a free table is a leaf of syntax

module _ {V K : Type 0} (cut none : K) (table : List (Row V)) (free : is_free table ≡ true) where
  code_found : (o : Option (Row V)) (is : Bool) (v : V) (t rest : List Bool) → row_at table t ≡ o → by_row cut none o is t ≡ good (v, rest) → (code_at cut none table).Stands v t rest
  unfolding code_at
  code_found (Some r) is v t rest at e =
      let h = row_text table r t at in
      subst (λ (y : V × List Bool). (r : Row V) × In table r × (r.value ≡ y.0) × (t ≡ code r ++ y.1)) (good_is (r.value, drop r.len t) (v, rest) e) (r, h.0, refl, h.1)
  code_found None true v t rest at e = absurd cc
  code_found None false v t rest at e = absurd cc

  none_stands : (t : List Bool) → row_at table t ≡ None → (r : Row V) → In table r → (rest : List Bool) → t ≡ code r ++ rest → ⊥
  none_stands t at r i rest e = let p : row_at table t ≡ Some r = rw e (row_own table r rest free i) in cc

  code_first : (o : Option (Row V)) (is : Bool) (t : List Bool) (f : K × ℕ) → row_at table t ≡ o → is_cut table t ≡ is → by_row cut none o is t ≡ bad f → (code_at cut none table).Broken t f
  unfolding code_at
  code_first (Some r) is t f at c e = absurd cc
  code_first None true t f at c e = (none_stands t at, inl (c, cc))
  code_first None false t f at c e = (none_stands t at, inr (c, cc))

  code_refused : (o : Option (Row V)) (is : Bool) (t : List Bool) (f : K × ℕ) → row_at table t ≡ o → is_cut table t ≡ is → (code_at cut none table).Broken t f → by_row cut none o is t ≡ bad f
  unfolding code_at
  code_refused (Some r) is t f at c b = let h = row_text table r t at in absurd (b.0 r h.0 (drop r.len t) h.1)
  code_refused None true t f at c b = elim b.1 [ inl x ↦ rw (x.1) refl | inr x ↦ absurd (both_ways _ x.0 c) ]
  code_refused None false t f at c b = elim b.1 [ inl x ↦ absurd (both_ways _ c x.0) | inr x ↦ rw (x.1) refl ]

  pub code_lawful : Lawful length (code_at cut none table)
  unfolding code_at
  code_lawful = record {
    found = λ v t rest e. code_found (row_at table t) (is_cut table t) v t rest refl e;
    only = λ v t rest st. rw (st.3, row_own table st.0 rest free st.1, drop_at (code st.0) rest (st.0).len (length-bits_of (st.0).len (st.0).number), st.2) refl;
    first = λ t f e. code_first (row_at table t) (is_cut table t) t f refl refl e;
    refused = λ t f b. code_refused (row_at table t) (is_cut table t) t f refl refl b;
    shorter = λ v t rest st. omega (arith, ap length st.3, length-append (code st.0) rest);
  }

  pub code_takes : Takes length (code_at cut none table)
  unfolding code_at
  code_takes = record { less = λ v t rest st. omega (arith, ap length st.3, length-append (code st.0) rest, length-bits_of (st.0).len (st.0).number, (code_parts st.0 (free_in table st.0 free st.1)).0) }

  pub code_strict : Strict length (code_at cut none table)
  code_strict = record { lawful = code_lawful; takes = code_takes }

-- ---- the code of a value

abbrev pub Sound : {V : Type 0} → (V → V → Bool) → Type 0
Sound {V} same = (a b : V) → same a b ≡ true → a ≡ b

abbrev pub Reflexive : {V : Type 0} → (V → V → Bool) → Type 0
Reflexive {V} same = (a : V) → same a a ≡ true

pub other_in : {V : Type 0} (same : V → V → Bool) (v : V) (t : List (Row V)) (r : Row V) → is_other same v t ≡ true → In t r → same v r.value ≡ false
unfolding is_other
other_in same v [] r f i = absurd i
other_in {V} same v (s ∷ t) r f i =
    let h = and_parts (not (same v s.value)) (is_other same v t) f in
    elim i [ inl e ↦ subst (λ (y : Row V). same v y.value ≡ false) e (not-true _ h.0) | inr j ↦ other_in same v t r h.1 j ]

-- a row's code is that of its value
pub code_of_row : {V : Type 0} (same : V → V → Bool) (t : List (Row V)) (r : Row V) → Reflexive same → is_single same t ≡ true → In t r → code_of same t r.value ≡ code r
unfolding code_of is_single
code_of_row same [] r all one i = absurd i
code_of_row same (s ∷ t) r all one i =
    let h = and_parts (is_other same s.value t) (is_single same t) one in
    elim i [
      | inl e ↦ rw e (cond-true _ (code r) (code_of same t r.value) (all r.value))
      | inr j ↦ cond-false _ (code s) (code_of same t r.value) (other_in same s.value t r h.0 j) ∙ code_of_row same t r all h.1 j
    ]

-- no two rows have one value
pub one_row : {V : Type 0} (same : V → V → Bool) (t : List (Row V)) (r s : Row V) → Reflexive same → is_single same t ≡ true → In t r → In t s → r.value ≡ s.value → r ≡ s
unfolding is_single
one_row same [] r s all one i j e = absurd i
one_row same (x ∷ t) r s all one i j e =
    let h = and_parts (is_other same x.value t) (is_single same t) one in
    elim i [
      | inl xr ↦ elim j [
        | inl xs ↦ sym xr ∙ xs
        | inr js ↦ absurd (both_ways (same x.value s.value) (other_in same x.value t s h.0 js) (rw (xr, e) (all s.value)))
      ]
      | inr ir ↦ elim j [
        | inl xs ↦ absurd (both_ways (same x.value r.value) (other_in same x.value t r h.0 ir) (rw (xs, ← e) (all r.value)))
        | inr js ↦ one_row same t r s all h.1 ir js e
      ]
    ]

-- a value has a row, or no code
pub code_of_cases : {V : Type 0} (same : V → V → Bool) (t : List (Row V)) (v : V) → ((r : Row V) × In t r × (same r.value v ≡ true) × (code_of same t v ≡ code r)) ⊎ (code_of same t v ≡ [])
unfolding code_of
code_of_cases same [] v = inr refl
code_of_cases same (s ∷ t) v =
    elim (cases_Bool (same s.value v)) [
      | inl on ↦ inl (s, inl refl, on, cond-true _ (code s) (code_of same t v) on)
      | inr off ↦ elim (code_of_cases same t v) [
        | inl x ↦ inl (x.0, inr x.1, x.2, cond-false _ (code s) (code_of same t v) off ∙ x.3)
        | inr e ↦ inr (cond-false _ (code s) (code_of same t v) off ∙ e)
      ]
    ]

-- a value that no row has is without a code
pub code_of_none : {V : Type 0} (same : V → V → Bool) (t : List (Row V)) (v : V) → ((r : Row V) → In t r → same r.value v ≡ true → ⊥) → code_of same t v ≡ []
code_of_none same t v h = elim (code_of_cases same t v) [ inl x ↦ absurd (h x.0 x.1 x.2) | inr e ↦ e ]

-- a value that a row has, has a code of some bits
pub value_some : {V : Type 0} (same : V → V → Bool) (t : List (Row V)) (r : Row V) (v : V) → is_free t ≡ true → In t r → same r.value v ≡ true → 0 < length (code_of same t v)
unfolding code_of
value_some same [] r v free i is = absurd i
value_some {V} same (s ∷ t) r v free i is =
    let h = free_parts s t free in
    elim (cases_Bool (same s.value v)) [
      | inl on ↦ rw (cond-true (same s.value v) (code s) (code_of same t v) on) (omega (arith, length-bits_of s.len s.number, (code_parts s h.0).0))
      | inr off ↦ rw (cond-false (same s.value v) (code s) (code_of same t v) off) (elim i [
        | inl e ↦ absurd (both_ways (same s.value v) off (subst (λ (x : Row V). same x.value v ≡ true) (sym e) is))
        | inr j ↦ value_some same t r v h.2 j is
      ])
    ]

pub length_within : {V : Type 0} (same : V → V → Bool) (w : ℕ) (t : List (Row V)) (v : V) → is_within w t ≡ true → length (code_of same t v) ≤ w
length_within same w t v f = elim (code_of_cases same t v) [
  | inl x ↦ omega (arith, ap length x.3, length-bits_of (x.0).len (x.0).number, within_in w t x.0 f x.1)
  | inr e ↦ omega (arith, ap length e)
]

-- the code of a value spells it
pub code_spells : {V K : Type 0} (cut none : K) (same : V → V → Bool) (t : List (Row V)) (v : V) → Sound same → 0 < length (code_of same t v) → Spells (code_at cut none t) v (code_of same t v)
unfolding code_at
code_spells cut none same t v sound some = elim (code_of_cases same t v) [
  | inl x ↦ record { stands = λ rest. (x.0, x.1, sound (x.0).value v x.2, ap (λ (c : List Bool). c ++ rest) x.3) }
  | inr e ↦ absurd (omega (arith, ap length e))
]

-- nothing else spells it
pub spelled_once : {V K : Type 0} (cut none : K) (same : V → V → Bool) (table : List (Row V)) (v : V) (t rest : List Bool) → Reflexive same → is_single same table ≡ true → (code_at cut none table).Stands v t rest → t ≡ code_of same table v ++ rest
unfolding code_at
spelled_once cut none same table v t rest all one st = st.3 ∙ ap (λ (c : List Bool). c ++ rest) (sym (code_of_row same table st.0 all one st.1) ∙ ap (code_of same table) st.2)
