-- What the look-ups of a program say of a table.
use Rattle.std.proofs.Common.{◌≡◌, ℕ, zero, suc, ◌+◌, ◌-◌, ◌/◌, ◌^◌, ◌<◌, ◌≤◌, Bool, true, false, cond, eqb, leb, ltb, List, [], ◌∷◌, ◌++◌, map, length, get_or, take, drop, Option, Some, None, inl, inr, refl, sym, ap, subst, ◌∙◌, zero-add, arith}
use Rattle.std.specs.Prelude.{◌&&◌, slice_get}
use Rattle.std.specs.List.{list_any}
use Rattle.std.proofs.lemmas.Bool.{cases_lt, cases_Bool, eqb-true, eqb-false, leb-true, le-leb, lt-leb, lt-ltb, and_parts, and_from, and_left, and_right, false_from_ne_true}
use Rattle.std.proofs.lemmas.List.{length-take, take_all, take_at}
use Rattle.std.proofs.lemmas.Nat.{shr_high, shr-shr, shr_below}
use Rattle.std.proofs.Math.Nat.{mod-eq_of_lt, pow-le-pow_right}
use Rattle.m2v_bits.specs.Bits.{bits_of, number, ahead}
use Rattle.m2v_bits.proofs.Bits.{length-bits_of, number-bits_of, number-append, number_below, same_bits}
use Rattle.m2v_bits.proofs.Cursor.{length-ahead, ahead-add, ahead_take}
use Rattle.m2v_bits.proofs.SyntaxLaws.{good, bad}
use Rattle.m2v_vlc.specs.Codes.{Row, row, code, In, begins, row_at, is_cut, by_row, code_at, is_code, apart_all, is_free, is_within, code_of, is_single}
use Rattle.m2v_vlc.specs.Lookups.{rows_of, IsTable, Points, code_in, begins_by_number}
use Rattle.m2v_vlc.proofs.CodeLaws.{begins_front, begins_enough, begins_by, begins_short, front_number, begins_number, code_parts, free_parts, free_in, within_in, apart_in, not_both, row_here, row_found, row_none, some_is, Reflexive, code_of_row}

-- ---- the rows of a program's list

pub rows_get : {V : Type 0} (rows : List (V × ℕ × ℕ)) (i : ℕ) (d : V × ℕ × ℕ) → i < length rows → slice_get (rows_of rows) i ≡ Some (row (get_or rows i d).0 (get_or rows i d).1 (get_or rows i d).2)
rows_get [] i d lt = absurd (omega arith)
rows_get (e ∷ rows) zero d lt = refl
rows_get (e ∷ rows) (suc i) d lt = rows_get rows i d (omega arith)

-- the element that stands at i, as a row
pub rows_at : {V : Type 0} (rows : List (V × ℕ × ℕ)) (i : ℕ) (e : V × ℕ × ℕ) → i < length rows → e ≡ get_or rows i e → slice_get (rows_of rows) i ≡ Some (row e.0 e.1 e.2)
rows_at {V} rows i e lt is = subst (λ (x : V × ℕ × ℕ). slice_get (rows_of rows) i ≡ Some (row x.0 x.1 x.2)) (sym is) (rows_get rows i e lt)

pub rows_past : {V : Type 0} (rows : List (V × ℕ × ℕ)) (i : ℕ) → length rows ≤ i → slice_get (rows_of rows) i ≡ None
rows_past [] i le = refl
rows_past (e ∷ rows) zero le = absurd (omega arith)
rows_past (e ∷ rows) (suc i) le = rows_past rows i (omega arith)

pub get_in : {V : Type 0} (t : List (Row V)) (i : ℕ) (r : Row V) → slice_get t i ≡ Some r → In t r
get_in [] i r e = absurd cc
get_in (s ∷ t) zero r e = inl (some_is s r e)
get_in (s ∷ t) (suc i) r e = inr (get_in t i r e)

pub code_in_get : {V : Type 0} (t : List (Row V)) (i : ℕ) (r : Row V) → slice_get t i ≡ Some r → code_in t i ≡ code r
code_in_get [] i r e = absurd cc
code_in_get (s ∷ t) zero r e = ap code (some_is s r e)
code_in_get (s ∷ t) (suc i) r e = code_in_get t i r e

pub code_in_past : {V : Type 0} (t : List (Row V)) (i : ℕ) → slice_get t i ≡ None → code_in t i ≡ []
code_in_past [] i e = refl
code_in_past (s ∷ t) zero e = absurd cc
code_in_past (s ∷ t) (suc i) e = code_in_past t i e

pub code_in_at : {V : Type 0} (rows : List (V × ℕ × ℕ)) (i : ℕ) (e : V × ℕ × ℕ) → i < length rows → e ≡ get_or rows i e → code_in (rows_of rows) i ≡ bits_of e.2 e.1
code_in_at rows i e lt is = code_in_get (rows_of rows) i (row e.0 e.1 e.2) (rows_at rows i e lt is)

-- the code at the place of a row with the value is the value's code
pub value_index : {V : Type 0} (same : V → V → Bool) (t : List (Row V)) (i : ℕ) (r : Row V) (v : V) → Reflexive same → is_single same t ≡ true → slice_get t i ≡ Some r → r.value ≡ v → code_in t i ≡ code_of same t v
value_index same t i r v all one at is = code_in_get t i r at ∙ sym (code_of_row same t r all one (get_in t i r at)) ∙ ap (code_of same t) is

-- a row of a table has at most 17 bits, which its number fits
pub row_fits : {V : Type 0} (rows : List (V × ℕ × ℕ)) (i : ℕ) (e : V × ℕ × ℕ) → IsTable (rows_of rows) → i < length rows → e ≡ get_or rows i e → (e.2 ≤ 17) × (e.1 < 2 ^ e.2) × (e.1 < 2 ^ 17)
row_fits rows i e t lt is =
    let r = row e.0 e.1 e.2 in
    let own = get_in (rows_of rows) i r (rows_at rows i e lt is) in
    let le : e.2 ≤ 17 = within_in 17 (rows_of rows) r t.within own in
    let below : e.1 < 2 ^ e.2 = (code_parts r (free_in (rows_of rows) r t.free own)).1 in
    (le, below, omega (arith, below, pow-le-pow_right {n = 2} (omega arith) le))

-- the code of each row has a bit
pub code_some : {V : Type 0} (t : List (Row V)) (i : ℕ) → is_free t ≡ true → i < length (map code t) → 0 < length (code_in t i)
code_some [] i free lt = absurd (omega arith)
code_some (s ∷ t) zero free lt = let h = free_parts s t free in omega (arith, length-bits_of s.len s.number, (code_parts s h.0).0)
code_some (s ∷ t) (suc i) free lt = code_some t i (free_parts s t free).2 (omega arith)

-- ---- reading by a row that is pointed at

-- the front of what is peeked is the front of what is there
front_ahead : (n : ℕ) (bs : List Bool) → n ≤ 17 → n ≤ length bs → take n (ahead 17 bs) ≡ take n bs
front_ahead n bs le enough =
    let e : n + (17 - n) ≡ 17 = omega arith in
    let parts : ahead 17 bs ≡ ahead n bs ++ ahead (17 - n) (drop n bs) = rw e at (ahead-add n (17 - n) bs) in
    rw parts (take_at (ahead n bs) (ahead (17 - n) (drop n bs)) n (length-ahead n bs)) ∙ ahead_take n bs enough

begins_now : {V : Type 0} (r : Row V) (bs : List Bool) → r.len ≤ 17 → r.len ≤ length bs → begins (code r) (ahead 17 bs) ≡ true → begins (code r) bs ≡ true
begins_now r bs le enough e =
    begins_by (code r) bs r.len (sym (front_ahead r.len bs le enough) ∙ begins_front (code r) (ahead 17 bs) r.len (length-bits_of r.len r.number) e) (sym (length-bits_of r.len r.number))

begins_ahead : {V : Type 0} (r : Row V) (bs : List Bool) → r.len ≤ 17 → begins (code r) bs ≡ true → begins (code r) (ahead 17 bs) ≡ true
begins_ahead r bs le e =
    let enough : r.len ≤ length bs = omega (arith, begins_enough (code r) bs e, length-bits_of r.len r.number) in
    begins_by (code r) (ahead 17 bs) r.len (front_ahead r.len bs le enough ∙ begins_front (code r) bs r.len (length-bits_of r.len r.number) e) (sym (length-bits_of r.len r.number))

pub reads_row : {V K : Type 0} (cut none : K) (t : List (Row V)) (i : ℕ) (r : Row V) (bs : List Bool) → IsTable t → Points t i bs → slice_get t i ≡ Some r → r.len ≤ length bs → (code_at cut none t).read bs ≡ good (r.value, drop r.len bs)
unfolding code_at
reads_row cut none t i r bs is at get enough =
    let h = row_found t r (ahead 17 bs) (at ∙ get) in
    let here = row_here t r bs is.free h.0 (begins_now r bs (within_in 17 t r is.within h.0) enough h.1) in
    rw here refl

by_cut : {V K : Type 0} (cut none : K) (is : Bool) (bs : List Bool) → by_row {V = V} cut none None is bs ≡ bad (cond is cut none, length bs)
by_cut cut none true bs = refl
by_cut cut none false bs = refl

pub reads_none : {V K : Type 0} (cut none : K) (t : List (Row V)) (i : ℕ) (bs : List Bool) → IsTable t → Points t i bs → ((r : Row V) → slice_get t i ≡ Some r → length bs < r.len) → (code_at cut none t).read bs ≡ bad (cond (is_cut t bs) cut none, length bs)
unfolding code_at
reads_none {V} cut none t i bs is at long =
    let nothing : row_at t bs ≡ None = row_none t bs (λ r j e.
    let there = row_here t r (ahead 17 bs) is.free j (begins_ahead r bs (within_in 17 t r is.within j) e) in
    let short = long r (sym at ∙ there) in
    absurd (omega (arith, short, begins_enough (code r) bs e, length-bits_of r.len r.number))) in
    rw nothing (by_cut cut none (is_cut t bs) bs)

-- ---- codes that begin with all that is left

spelled : {V : Type 0} (r : Row V) (bs : List Bool) → length bs ≤ length (code r) → number (take (length bs) (code r)) ≡ number bs → begins bs (code r) ≡ true
spelled r bs all same = begins_by bs (code r) (length bs) (same_bits (take (length bs) (code r)) bs (omega (arith, length-take (length bs) (code r))) same) refl

-- a text begins with a code where it is long enough and its front spells the same number
begins_is : {V : Type 0} (r : Row V) (bs : List Bool) → r.number < 2 ^ r.len → begins bs (code r) ≡ (leb (length bs) r.len && eqb (r.number / 2 ^ (r.len - length bs)) (number bs))
begins_is r bs lt =
    elim (cases_lt r.len (length bs)) [
      | inl short ↦ begins_short bs (code r) (omega (arith, length-bits_of r.len r.number)) ∙ sym (and_left (leb (length bs) r.len) _ (lt-leb (length bs) r.len short))
      | inr le ↦
          let all : length bs ≤ length (code r) = omega (arith, length-bits_of r.len r.number) in
          let front : r.number / 2 ^ (r.len - length bs) ≡ number (take (length bs) (code r)) = rw (length-bits_of r.len r.number, number-bits_of r.len r.number, mod-eq_of_lt lt) at (front_number (length bs) (code r) all) in
          elim (cases_Bool (eqb (r.number / 2 ^ (r.len - length bs)) (number bs))) [
            | inl same ↦ spelled r bs all (sym front ∙ eqb-true _ _ same) ∙ sym (and_from _ _ (le-leb (length bs) r.len le) same)
            | inr other ↦ false_from_ne_true (begins bs (code r)) (λ e. eqb-false _ _ other (front ∙ ap number (begins_front bs (code r) (length bs) refl e))) ∙ sym (and_right (leb (length bs) r.len) _ other)
          ]
    ]

pub begins_by_number_is : {V : Type 0} (r : Row V) (bs : List Bool) → r.len ≤ 17 → r.number < 2 ^ r.len → begins_by_number (length bs) (number bs) r.number r.len ≡ begins bs (code r)
begins_by_number_is r bs le lt = rw (le-leb r.len 17 le) (sym (begins_is r bs lt))

pub cut_any : {V : Type 0} (rows : List (V × ℕ × ℕ)) (bs : List Bool) → is_free (rows_of rows) ≡ true → is_within 17 (rows_of rows) ≡ true → list_any (λ e. begins_by_number (length bs) (number bs) e.1 e.2) rows ≡ is_cut (rows_of rows) bs
unfolding is_cut is_within
cut_any [] bs f w = refl
cut_any (e ∷ rows) bs f w =
    let h = free_parts (row e.0 e.1 e.2) (rows_of rows) f in
    let g = and_parts (leb e.2 17) (is_within 17 (rows_of rows)) w in
    rw (begins_by_number_is (row e.0 e.1 e.2) bs (leb-true _ _ g.0) (code_parts (row e.0 e.1 e.2) h.0).1, cut_any rows bs h.2 g.1) refl

-- nothing longer than 17 bits begins a code
pub cut_long : {V : Type 0} (t : List (Row V)) (bs : List Bool) → is_within 17 t ≡ true → 17 < length bs → is_cut t bs ≡ false
unfolding is_cut is_within
cut_long [] bs w lt = refl
cut_long (r ∷ t) bs w lt =
    let g = and_parts (leb r.len 17) (is_within 17 t) w in
    rw (begins_short bs (code r) (omega (arith, length-bits_of r.len r.number, leb-true _ _ g.0)), cut_long t bs g.1 lt) refl

-- whether the rest begins a code, by what the program tests
pub cut_is : {V : Type 0} (rows : List (V × ℕ × ℕ)) (bs : List Bool) (left p : ℕ) (b : Bool) → IsTable (rows_of rows) → left ≡ length bs → p ≡ number (take left bs) → b ≡ list_any (λ e. begins_by_number left p e.1 e.2) rows → is_cut (rows_of rows) bs ≡ b
cut_is {V} rows bs left p b f len is found =
    let p-is : p ≡ number bs = is ∙ ap number (take_all left bs (omega arith)) in
    sym (found ∙ rw (len, p-is) (cut_any rows bs f.free f.within))

-- ---- a look-up by peeked bits

-- what a look-up by w bits holds at q: the place of the row whose code begins the bits, or a place past the table
-- where no code begins them and they begin none
abbrev pub stands_at : {V : Type 0} → V → ℕ → List (Row V) → ℕ → Option (Row V) → Bool
stands_at d w t q None = apart_all (row d q w) t
stands_at d w t q (Some r) = leb r.len w && eqb (q / 2 ^ (w - r.len)) r.number

-- so it is at each place of the look-up, the first of them at q
unfoldable pub holds : {V : Type 0} → V → ℕ → List (Row V) → ℕ → List ℕ → Bool
holds d w t q [] = true
holds d w t q (i ∷ lookup) = stands_at d w t q (slice_get t i) && holds d w t (suc q) lookup

holds_at : {V : Type 0} (d : V) (w : ℕ) (t : List (Row V)) (from k q : ℕ) (lookup : List ℕ) → holds d w t from lookup ≡ true → k < length lookup → from + k ≡ q → stands_at d w t q (slice_get t (get_or lookup k 0)) ≡ true
unfolding holds
holds_at d w t from k q [] h lt e = absurd (omega arith)
holds_at d w t from zero q (i ∷ lookup) h lt e = let same : from ≡ q = omega (arith, e) in subst (λ (x : ℕ). stands_at d w t x (slice_get t i) ≡ true) same (and_parts _ _ h).0
holds_at d w t from (suc k) q (i ∷ lookup) h lt e = holds_at d w t (suc from) k q lookup (and_parts (stands_at d w t from (slice_get t i)) (holds d w t (suc from) lookup) h).1 (omega arith) (omega (arith, e))

-- a code of w bits whose number is the first w of 17 bits stands at their head
stands_ahead : {V : Type 0} (r : Row V) (bs : List Bool) → r.len ≤ 17 → r.number < 2 ^ r.len → number (ahead 17 bs) / 2 ^ (17 - r.len) ≡ r.number → begins (code r) (ahead 17 bs) ≡ true
stands_ahead r bs le lt is = begins_number r (ahead 17 bs) lt (omega (arith, length-ahead 17 bs)) (rw (length-ahead 17 bs) is)

points_by : {V : Type 0} (d : V) (w : ℕ) (t : List (Row V)) (i : ℕ) (bs : List Bool) (o : Option (Row V)) → is_free t ≡ true → 0 < w → w ≤ 17 → slice_get t i ≡ o → stands_at d w t (number (ahead 17 bs) / 2 ^ (17 - w)) o ≡ true → Points t i bs
points_by {V} d w t i bs (Some r) free some le get e =
    let p = number (ahead 17 bs) in
    let b = and_parts (leb r.len w) (eqb (p / 2 ^ (17 - w) / 2 ^ (w - r.len)) r.number) e in
    let len : r.len ≤ w = leb-true _ _ b.0 in
    let sum : (17 - w) + (w - r.len) ≡ 17 - r.len = omega arith in
    let is : p / 2 ^ (17 - r.len) ≡ r.number = rw (← sum) (sym (shr-shr p (17 - w) (w - r.len)) ∙ eqb-true _ _ b.1) in
    let own = get_in t i r get in
    row_here t r (ahead 17 bs) free own (stands_ahead r bs (omega arith) (code_parts r (free_in t r free own)).1 is) ∙ sym get
points_by {V} d w t i bs None free some le get e =
    let p = number (ahead 17 bs) in
    let q = p / 2 ^ (17 - w) in
    let s : Row V = row d q w in
    let sum : w + (17 - w) ≡ 17 = omega arith in
    let below : p < 2 ^ 17 = rw (length-ahead 17 bs) at (number_below (ahead 17 bs)) in
    let small : q < 2 ^ w = shr_below p w (17 - w) (rw sum below) in
    let is : is_code s ≡ true = and_from (ltb 0 w) (ltb q (2 ^ w)) (lt-ltb 0 w some) (lt-ltb q (2 ^ w) small) in
    row_none t (ahead 17 bs) (λ r own er. not_both s r (ahead 17 bs) is (free_in t r free own) (apart_in s t r e own) er (stands_ahead s bs le small refl)) ∙ sym get

-- the look-up points to the row whose code stands there
pub points : {V : Type 0} (d : V) (w from : ℕ) (t : List (Row V)) (lookup : List ℕ) (bs : List Bool) (k i : ℕ) → IsTable t → 0 < w → w ≤ 17 → holds d w t from lookup ≡ true → from + k ≡ number (ahead 17 bs) / 2 ^ (17 - w) → k < length lookup → i ≡ get_or lookup k 0 → Points t i bs
points {V} d w from t lookup bs k i is some le h at lt found =
    points_by d w t i bs (slice_get t i) is.free some le refl (subst (λ (x : ℕ). stands_at d w t (number (ahead 17 bs) / 2 ^ (17 - w)) (slice_get t x) ≡ true) (sym found) (holds_at d w t from k _ lookup h lt at))

-- fewer bits that are peeked
pub peeked : (w : ℕ) (bs : List Bool) → w ≤ 17 → number (ahead w bs) ≡ number (ahead 17 bs) / 2 ^ (17 - w)
peeked w bs le =
    let e : w + (17 - w) ≡ 17 = omega arith in
    let parts : ahead 17 bs ≡ ahead w bs ++ ahead (17 - w) (drop w bs) = rw e at (ahead-add w (17 - w) bs) in
    let low : number (ahead (17 - w) (drop w bs)) < 2 ^ (17 - w) = rw (length-ahead (17 - w) (drop w bs)) at (number_below (ahead (17 - w) (drop w bs))) in
    sym (rw (parts, number-append (ahead w bs) (ahead (17 - w) (drop w bs)), length-ahead (17 - w) (drop w bs)) (shr_high (number (ahead w bs)) (17 - w) (number (ahead (17 - w) (drop w bs))) low))

-- one look-up for all w bits
pub points_flat : {V : Type 0} (d : V) (w : ℕ) (t : List (Row V)) (lookup : List ℕ) (bs : List Bool) (p i : ℕ) → IsTable t → 0 < w → w ≤ 17 → holds d w t 0 lookup ≡ true → p ≡ number (ahead w bs) → p < length lookup → i ≡ get_or lookup p 0 → Points t i bs
points_flat d w t lookup bs p i is some le h at lt found = points d w 0 t lookup bs p i is some le h (zero-add p ∙ at ∙ peeked w bs le) lt found
