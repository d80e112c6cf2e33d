-- Where the pairs of tables B.14 and B.15 stand among their rows.
use Rattle.std.proofs.Common.{◌≡◌, ℕ, zero, suc, ◌+◌, ◌*◌, ◌/◌, ◌%◌, ◌<◌, ◌≤◌, Bool, true, false, cond, eqb, ltb, leb, List, [], ◌∷◌, Option, Some, None, inl, inr, refl, sym, ap, ◌∙◌, add-zero, arith}
use Rattle.std.specs.Prelude.{◌&&◌, ℤ, pos, negsuc, int_lt, unsigned_abs, slice_get, slice_index}
use Rattle.std.specs.List.{list_all}
use Rattle.std.proofs.lemmas.Int.{ints}
use Rattle.std.proofs.lemmas.Bool.{cases_Bool, eqb-true, eq-eqb, ltb-true, leb-true, lt-ltb, le-leb, lt-leb, and_parts, and_from, and_right, cond-true, cond-false, both_ways}
use Rattle.m2v_vlc.specs.declared.values.Coefficient.{Coefficient}
use Rattle.m2v_vlc.specs.declared.values.Coefficient.TheVariants.{End, Escape, Pair}
use Rattle.m2v_vlc.specs.declared.code.TheConstants.{RUN_START}
use Rattle.m2v_vlc.specs.Codes.{Row, row, code_of, is_single}
use Rattle.m2v_vlc.specs.Values.{same_signed, minus}
use Rattle.m2v_vlc.specs.Lookups.{code_in}
use Rattle.m2v_vlc.specs.Coefficients.{RunLevel, signed, same_coefficient, IsCoefficient}
use Rattle.m2v_vlc.specs.Places.{start, has_pair, pair_place, coefficient_place}
use Rattle.m2v_vlc.proofs.CodeLaws.{Sound, Reflexive, code_of_none, some_is}
use Rattle.m2v_vlc.proofs.LookupLaws.{value_index}
use Rattle.m2v_vlc.proofs.ValueLaws.{signed_sound, signed_reflexive, all_in, below, agree}

-- ---- the same coefficient

pub coefficient_sound : Sound same_coefficient
unfolding same_coefficient
coefficient_sound End End e = refl
coefficient_sound End Escape e = absurd cc
coefficient_sound End (Pair r l) e = absurd cc
coefficient_sound Escape End e = absurd cc
coefficient_sound Escape Escape e = refl
coefficient_sound Escape (Pair r l) e = absurd cc
coefficient_sound (Pair q k) End e = absurd cc
coefficient_sound (Pair q k) Escape e = absurd cc
coefficient_sound (Pair q k) (Pair r l) e = let h = and_parts (eqb q r) (same_signed k l) e in rw (eqb-true q r h.0, signed_sound k l h.1) refl

pub coefficient_reflexive : Reflexive same_coefficient
unfolding same_coefficient
coefficient_reflexive End = refl
coefficient_reflexive Escape = refl
coefficient_reflexive (Pair r l) = and_from (eqb r r) (same_signed l l) (eq-eqb r r refl) (signed_reflexive l)

-- ---- the range of what is read

abbrev small_level : ℤ → Bool
small_level (pos n) = ltb 0 n && leb n 40
small_level (negsuc m) = ltb m 40

abbrev pub is_small : Coefficient → Bool
is_small End = true
is_small Escape = true
is_small (Pair run level) = leb run 31 && small_level level

pub small_range : (v : Coefficient) → is_small v ≡ true → IsCoefficient v
small_range End e = tt
small_range Escape e = tt
small_range (Pair run (pos n)) e =
    let h = and_parts (leb run 31) (ltb 0 n && leb n 40) e in
    let k = and_parts (ltb 0 n) (leb n 40) h.1 in
    let some = ltb-true 0 n k.0 in
    let le = leb-true n 40 k.1 in
    (leb-true run 31 h.0, omega (arith, ints), omega (arith, ints), λ z. omega (arith, some, ap unsigned_abs z))
small_range (Pair run (negsuc m)) e =
    let h = and_parts (leb run 31) (ltb m 40) e in
    let lt = ltb-true m 40 h.1 in
    (leb-true run 31 h.0, omega (arith, ints), omega (arith, ints), λ z. absurd cc)

-- ---- rows with their signs

abbrev pub plus_row : Row RunLevel → Row Coefficient
plus_row r = row (Pair (r.value).run (pos (r.value).level)) (2 * r.number) (r.len + 1)

abbrev pub minus_row : Row RunLevel → Row Coefficient
minus_row r = row (Pair (r.value).run (minus (r.value).level)) (2 * r.number + 1) (r.len + 1)

pub plus_get : (t : List (Row RunLevel)) (i : ℕ) (r : Row RunLevel) → slice_get t i ≡ Some r → slice_get (signed t) (2 * i) ≡ Some (plus_row r)
unfolding signed
plus_get [] i r e = absurd cc
plus_get (s ∷ t) zero r e = ap (λ (x : Row RunLevel). Some (plus_row x)) (some_is s r e)
plus_get (s ∷ t) (suc i) r e = let two : 2 * suc i ≡ suc (suc (2 * i)) = omega arith in rw two (plus_get t i r e)

pub minus_get : (t : List (Row RunLevel)) (i : ℕ) (r : Row RunLevel) → slice_get t i ≡ Some r → slice_get (signed t) (suc (2 * i)) ≡ Some (minus_row r)
unfolding signed
minus_get [] i r e = absurd cc
minus_get (s ∷ t) zero r e = ap (λ (x : Row RunLevel). Some (minus_row x)) (some_is s r e)
minus_get (s ∷ t) (suc i) r e = let two : 2 * suc i ≡ suc (suc (2 * i)) = omega arith in rw two (minus_get t i r e)

-- ---- the places of pairs

abbrev value_is : Option (Row RunLevel) → ℕ → ℕ → Bool
value_is None run size = false
value_is (Some r) run size = eqb (r.value).run run && eqb (r.value).level size

-- at n, run n / 40 and size n % 40 + 1: where the tables have the pair, it stands where it is looked for
unfoldable pub spot : List (Row RunLevel) → ℕ → Bool
spot t n = cond (leb (start (n / 40) + suc (n % 40)) (start (n / 40 + 1))) (value_is (slice_get t (start (n / 40) + n % 40)) (n / 40) (suc (n % 40))) true

widths : below (λ run. leb (start (run + 1)) (start run + 40)) 32 ≡ below (λ run. true) 32
unfolding below start
widths = refl

ends : below (λ run. leb (start run) 111) 33 ≡ below (λ run. true) 33
unfolding below start
ends = refl

pub start_below : (run : ℕ) → run < 33 → start run ≤ 111
start_below run lt = leb-true (start run) 111 (agree (λ run. leb (start run) 111) (λ run. true) 33 run ends lt)

has_parts : (run size : ℕ) → has_pair run size ≡ true → (run < 32) × (0 < size) × (start run + size ≤ start (run + 1))
has_parts run size e =
    let h = and_parts (ltb run 32) (ltb 0 size && leb (start run + size) (start (run + 1))) e in
    let k = and_parts (ltb 0 size) (leb (start run + size) (start (run + 1))) h.1 in
    (ltb-true run 32 h.0, ltb-true 0 size k.0, leb-true _ _ k.1)

found_row : (o : Option (Row RunLevel)) (run size : ℕ) → value_is o run size ≡ true → (r : Row RunLevel) × (o ≡ Some r) × ((r.value).run ≡ run) × ((r.value).level ≡ size)
found_row None run size e = absurd cc
found_row (Some r) run size e = let h = and_parts (eqb (r.value).run run) (eqb (r.value).level size) e in (r, refl, eqb-true _ _ h.0, eqb-true _ _ h.1)

-- the row of a pair that the tables have
pub pair_found : (t : List (Row RunLevel)) (run m : ℕ) → below (spot t) 1280 ≡ below (λ n. true) 1280 → has_pair run (suc m) ≡ true → (r : Row RunLevel) × (slice_get t (start run + m) ≡ Some r) × ((r.value).run ≡ run) × ((r.value).level ≡ suc m)
unfolding spot
pair_found t run m spots has =
    let h = has_parts run (suc m) has in
    let width = leb-true (start (run + 1)) (start run + 40) (agree (λ run. leb (start (run + 1)) (start run + 40)) (λ run. true) 32 run widths h.0) in
    let small : m < 40 = omega (arith, h.2, width) in
    let n = 40 * run + m in
    let lt : n < 1280 = omega (arith, h.0) in
    let q : n / 40 ≡ run = omega arith in
    let s : n % 40 ≡ m = omega arith in
    let at : spot t n ≡ true = agree (spot t) (λ n. true) 1280 n spots lt in
    let here : cond (leb (start run + suc m) (start (run + 1))) (value_is (slice_get t (start run + m)) run (suc m)) true ≡ true = rw (q, s) at at in
    found_row (slice_get t (start run + m)) run (suc m) (sym (cond-true _ _ true (le-leb _ _ h.2)) ∙ here)

abbrev pub has_place : Coefficient → Bool
has_place End = true
has_place Escape = true
has_place (Pair run level) = has_pair run (unsigned_abs level)

not_negative : (n : ℕ) → int_lt (pos n) (pos 0) ≡ false
not_negative n = grind (arith, ints)

negative : (m : ℕ) → int_lt (negsuc m) (pos 0) ≡ true
negative m = grind (arith, ints)

-- the row of each coefficient, in a table with its pairs at their places
-- what is computed of a table with its pairs at their places
pub record ArePlaced (t : List (Row RunLevel)) (e s : Row Coefficient) : Type 0 where
  pub end : e.value ≡ End
  pub escape : s.value ≡ Escape
  pub spots : below (spot t) 1280 ≡ below (λ n. true) 1280
  pub places : list_all (λ r. has_place r.value) (e ∷ s ∷ signed t) ≡ true
  pub past : code_in (e ∷ s ∷ signed t) 255 ≡ []

module _ (t : List (Row RunLevel)) (e s : Row Coefficient) (are : ArePlaced t e s) (single : is_single same_coefficient (e ∷ s ∷ signed t) ≡ true) where
  abbrev whole : List (Row Coefficient)
  whole = e ∷ s ∷ signed t

  place_none : (run : ℕ) (level : ℤ) → has_pair run (unsigned_abs level) ≡ false → code_of same_coefficient whole (Pair run level) ≡ []
  place_none run level absent = code_of_none same_coefficient whole (Pair run level) (λ r i same. both_ways (has_pair run (unsigned_abs level)) absent (ap has_place (sym (coefficient_sound r.value (Pair run level) same)) ∙ all_in has_place whole r are.places i))

  place_pair : (run : ℕ) (level : ℤ) → has_pair run (unsigned_abs level) ≡ true → code_in whole (2 * (start run + unsigned_abs level) + cond (int_lt level (pos 0)) 1 0) ≡ code_of same_coefficient whole (Pair run level)
  place_pair run (pos zero) has = let h = has_parts run 0 has in absurd (omega (arith, h.1))
  place_pair run (pos (suc m)) has =
      let f = pair_found t run m are.spots has in
      let sum : 2 * (start run + suc m) + 0 ≡ suc (suc (2 * (start run + m))) = omega arith in
      let place : 2 * (start run + suc m) + cond (int_lt (pos (suc m)) (pos 0)) 1 0 ≡ suc (suc (2 * (start run + m))) = ap (λ (b : Bool). 2 * (start run + suc m) + cond b 1 0) (not_negative (suc m)) ∙ sum in
      ap (code_in whole) place ∙ value_index same_coefficient whole (suc (suc (2 * (start run + m)))) (plus_row f.0) (Pair run (pos (suc m))) coefficient_reflexive single (plus_get t (start run + m) f.0 f.1) (rw (f.2, f.3) refl)
  place_pair run (negsuc m) has =
      let f = pair_found t run m are.spots has in
      let sum : 2 * (start run + suc m) + 1 ≡ suc (suc (suc (2 * (start run + m)))) = omega arith in
      let place : 2 * (start run + suc m) + cond (int_lt (negsuc m) (pos 0)) 1 0 ≡ suc (suc (suc (2 * (start run + m)))) = ap (λ (b : Bool). 2 * (start run + suc m) + cond b 1 0) (negative m) ∙ sum in
      ap (code_in whole) place ∙ value_index same_coefficient whole (suc (suc (suc (2 * (start run + m))))) (minus_row f.0) (Pair run (negsuc m)) coefficient_reflexive single (minus_get t (start run + m) f.0 f.1) (rw (f.2, f.3) refl)

  pub place_of : (v : Coefficient) → code_in whole (coefficient_place v) ≡ code_of same_coefficient whole v
  place_of End = value_index same_coefficient whole 0 e End coefficient_reflexive single refl are.end
  place_of Escape = value_index same_coefficient whole 1 s Escape coefficient_reflexive single refl are.escape
  place_of (Pair run level) = elim (cases_Bool (has_pair run (unsigned_abs level))) [
    | inl has ↦ ap (code_in whole) (cond-true (has_pair run (unsigned_abs level)) (2 * (start run + unsigned_abs level) + cond (int_lt level (pos 0)) 1 0) 255 has) ∙ place_pair run level has
    | inr absent ↦ ap (code_in whole) (cond-false (has_pair run (unsigned_abs level)) (2 * (start run + unsigned_abs level) + cond (int_lt level (pos 0)) 1 0) 255 absent) ∙ are.past ∙ sym (place_none run level absent)
  ]

-- ---- what a program finds by the starts of the runs

pub place_past : (run : ℕ) (level : ℤ) (size from to : ℕ) → size ≡ unsigned_abs level → from ≡ slice_index RUN_START run → to ≡ slice_index RUN_START (run + 1) → to < from + size → 255 ≡ pair_place run level
unfolding start
place_past run level size from to is at next far =
    let absent : has_pair run (unsigned_abs level) ≡ false = and_right (ltb run 32) _ (and_right (ltb 0 (unsigned_abs level)) _ (rw (← is, ← at, ← next) (lt-leb (from + size) to far))) in
    sym (cond-false (has_pair run (unsigned_abs level)) _ 255 absent)

pub place_here : (run : ℕ) (level : ℤ) (size from to n : ℕ) → run ≤ 31 → (size ≡ 0 → ⊥) → size ≡ unsigned_abs level → from ≡ slice_index RUN_START run → to ≡ slice_index RUN_START (run + 1) → from + size ≤ to → cond (int_lt level (pos 0)) 1 0 ≡ n → 2 * (from + size) + n ≡ pair_place run level
unfolding start
place_here run level size from to n le some is at next near sign =
    let has : has_pair run (unsigned_abs level) ≡ true = and_from (ltb run 32) _ (lt-ltb run 32 (omega arith)) (and_from (ltb 0 (unsigned_abs level)) _ (rw (← is) (lt-ltb 0 size (omega arith))) (rw (← is, ← at, ← next) (le-leb (from + size) to near))) in
    sym (cond-true (has_pair run (unsigned_abs level)) _ 255 has ∙ rw (← is, ← at, sign) refl)

pub place_positive : (run : ℕ) (level : ℤ) (size from to : ℕ) → run ≤ 31 → (size ≡ 0 → ⊥) → size ≡ unsigned_abs level → from ≡ slice_index RUN_START run → to ≡ slice_index RUN_START (run + 1) → from + size ≤ to → int_lt level (pos 0) ≡ false → 2 * (from + size) ≡ pair_place run level
place_positive run level size from to le some is at next near sign = sym (add-zero (2 * (from + size))) ∙ place_here run level size from to 0 le some is at next near (cond-false (int_lt level (pos 0)) 1 0 sign)

pub row_small : (run size from to : ℕ) → run ≤ 31 → to ≡ slice_index RUN_START (run + 1) → from + size ≤ to → from + size ≤ 111
unfolding start
row_small run size from to le next near = omega (arith, next, start_below (run + 1) (omega arith), near)
