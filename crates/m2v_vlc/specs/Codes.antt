-- Tables of prefix codes, as Annex B prints them: a value, its code as a number, and how many bits the code has.
use Rattle.std.specs.Prelude.{◌≡◌, ℕ, ◌-◌, ◌/◌, ◌^◌, Bool, true, false, cond, ◌&&◌, ◌||◌, not, nat_le, nat_lt, nat_eq, List, [], ◌∷◌, ◌++◌, length, drop, Option, Some, None, Result, Ok, Err, ◌⊎◌}
use Rattle.m2v_bits.specs.Bits.{bits_of}
use Rattle.m2v_bits.specs.Syntax.{Syntax}

pub record Row (V : Type 0) : Type 0 where
  pub value : V
  pub number : ℕ
  pub len : ℕ

abbrev pub code : {V : Type 0} → Row V → List Bool
code r = bits_of r.len r.number

abbrev pub row : {V : Type 0} → V → ℕ → ℕ → Row V
row v x n = record { value = v; number = x; len = n }

abbrev pub In : {V : Type 0} → List (Row V) → Row V → Type 0
In [] r = ⊥
In (s ∷ t) r = (s ≡ r) ⊎ In t r

-- ---- writing

-- the code of the first row whose value is v by the test `same`, and nothing where the table has none
unfoldable pub code_of : {V : Type 0} → (V → V → Bool) → List (Row V) → V → List Bool
code_of same [] v = []
code_of same (r ∷ t) v = cond (same r.value v) (code r) (code_of same t v)

-- ---- reading

abbrev pub same_bit : Bool → Bool → Bool
same_bit true b = b
same_bit false true = false
same_bit false false = true

-- bs begins with c
unfoldable pub begins : List Bool → List Bool → Bool
begins [] bs = true
begins (x ∷ c) [] = false
begins (x ∷ c) (y ∷ bs) = cond (same_bit x y) (begins c bs) false

-- the first row whose code the bits begin with
unfoldable pub row_at : {V : Type 0} → List (Row V) → List Bool → Option (Row V)
row_at [] bs = None
row_at (r ∷ t) bs = cond (begins (code r) bs) (Some r) (row_at t bs)

-- a code begins with the bits
unfoldable pub is_cut : {V : Type 0} → List (Row V) → List Bool → Bool
is_cut [] bs = false
is_cut (r ∷ t) bs = begins bs (code r) || is_cut t bs

abbrev pub by_row : {V K : Type 0} → K → K → Option (Row V) → Bool → List Bool → Result (V × List Bool) (K × ℕ)
by_row cut none (Some r) is bs = Ok (r.value, drop r.len bs)
by_row cut none None true bs = Err (cut, length bs)
by_row cut none None false bs = Err (none, length bs)

-- a code of the table; `cut` where the text ends inside a code, `none` where no code stands
unfoldable pub code_at : {V K : Type 0} → K → K → List (Row V) → Syntax (List Bool) K V
code_at {V} cut none table = record {
  read = λ t. by_row cut none (row_at table t) (is_cut table t) t;
  Stands = λ v t rest. (r : Row V) × In table r × (r.value ≡ v) × (t ≡ code r ++ rest);
  Broken = λ t f. ((r : Row V) → In table r → (rest : List Bool) → t ≡ code r ++ rest → ⊥)
      × (((is_cut table t ≡ true) × (f ≡ (cut, length t))) ⊎ ((is_cut table t ≡ false) × (f ≡ (none, length t))));
}

-- ---- what is checked of a table

-- it has a bit, and its number fits its bits
abbrev pub is_code : {V : Type 0} → Row V → Bool
is_code r = nat_lt 0 r.len && nat_lt r.number (2 ^ r.len)

-- neither code begins the other
abbrev pub apart : {V : Type 0} → Row V → Row V → Bool
apart r s = cond (nat_le r.len s.len) (not (nat_eq (s.number / 2 ^ (s.len - r.len)) r.number)) (not (nat_eq (r.number / 2 ^ (r.len - s.len)) s.number))

unfoldable pub apart_all : {V : Type 0} → Row V → List (Row V) → Bool
apart_all r [] = true
apart_all r (s ∷ t) = apart r s && apart_all r t

-- each is a code, and none begins another
unfoldable pub is_free : {V : Type 0} → List (Row V) → Bool
is_free [] = true
is_free (r ∷ t) = is_code r && (apart_all r t && is_free t)

-- each has at most w bits
unfoldable pub is_within : {V : Type 0} → ℕ → List (Row V) → Bool
is_within w [] = true
is_within w (r ∷ t) = nat_le r.len w && is_within w t

-- none of the rows has the value
unfoldable pub is_other : {V : Type 0} → (V → V → Bool) → V → List (Row V) → Bool
is_other same v [] = true
is_other same v (r ∷ t) = not (same v r.value) && is_other same v t

-- each value has one row
unfoldable pub is_single : {V : Type 0} → (V → V → Bool) → List (Row V) → Bool
is_single same [] = true
is_single same (r ∷ t) = is_other same r.value t && is_single same t
