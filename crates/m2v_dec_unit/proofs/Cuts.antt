-- Start codes in bytes and in the zero bytes behind them, and the units that they cut.
use Rattle.std.proofs.Common.{◌≡◌, ◌⊎◌, ℕ, zero, suc, ◌+◌, ◌-◌, ◌*◌, ◌^◌, ◌<◌, ◌≤◌, drop, take, get_or, Bool, true, false, List, [], ◌∷◌, ◌++◌, length, replicate, refl, sym, ap, subst, ◌∙◌, append_assoc, arith, inl, inr}
use Rattle.std.proofs.lemmas.Bool.{false_from_ne_true, cases_lt, eqb-true}
use Rattle.std.proofs.lemmas.List.{append-nil, length-append, length-drop, length-take, length-replicate, drop-append-le, take-append-drop, get_or-drop, take_all}
use Rattle.std.proofs.lemmas.List.Concat.{flat_map-append}
use Rattle.std.proofs.Math.ListN.{get_or-append}
use Rattle.std.proofs.Math.Seq.{get_or-append_right}
use Rattle.std.specs.Prelude.{nat_eq, ◌&&◌, Option, Some, None, Ok}
use Rattle.m2v_bits.specs.Bits.{IsStartCode, bits, bits_of, padded}
use Rattle.m2v_model.specs.Units.{begins_code, cut, joined, unit_bits, unit_at, body}
use Rattle.m2v_model.specs.Units.{Units, Next, Clear, AreUnits}
use Rattle.m2v_model.proofs.CutLaws.{code_none, code_at, cut_front, cut_cuts, cuts_is}
use Rattle.m2v_dec_unit.specs.Texts.{text_of, units_in}
use Rattle.m2v_bits.proofs.Cursor.{length-bits}
use Rattle.m2v_dec_unit.specs.Texts.{IsZeroEnded, BeginsUnit, IsNextUnit}

-- ---- where a start code begins

abbrev byte : List ℕ → ℕ → ℕ
byte bytes i = get_or bytes i 0

zeros_get : (n i : ℕ) → byte (replicate n 0) i ≡ 0
zeros_get zero i = refl
zeros_get (suc n) zero = refl
zeros_get (suc n) (suc i) = zeros_get n i

past_get : (bytes : List ℕ) (z i : ℕ) → length bytes ≤ i → get_or (text_of bytes z) i 0 ≡ 0
past_get bytes z i le = get_or-append_right bytes (replicate z 0) i 0 le ∙ zeros_get z (i - length bytes)

within_get : (bytes : List ℕ) (z i : ℕ) → i < length bytes → get_or (text_of bytes z) i 0 ≡ get_or bytes i 0
within_get bytes z i lt = get_or-append bytes (replicate z 0) 0 i lt

pub text_length : (bytes : List ℕ) (z : ℕ) → length (text_of bytes z) ≡ length bytes + z
text_length bytes z = length-append bytes (replicate z 0) ∙ ap (λ (n : ℕ). length bytes + n) (length-replicate z 0)

pub both_true : (x y : Bool) → (x && y) ≡ true → (x ≡ true) × (y ≡ true)
both_true true true e = (refl, refl)
both_true true false e = absurd cc
both_true false y e = absurd cc

tests_true : (a b c : ℕ) → (nat_eq a 0 && (nat_eq b 0 && nat_eq c 1)) ≡ true → (a ≡ 0) × (b ≡ 0) × (c ≡ 1)
tests_true a b c e =
    let h = both_true (nat_eq a 0) (nat_eq b 0 && nat_eq c 1) e in
    let t = both_true (nat_eq b 0) (nat_eq c 1) h.1 in
    (eqb-true a 0 h.0, eqb-true b 0 t.0, eqb-true c 1 t.1)

record IsCode (text : List ℕ) (i : ℕ) : Type 0 where
  pub long : i + 3 < length text
  pub first : get_or text i 0 ≡ 0
  pub second : get_or text (i + 1) 0 ≡ 0
  pub third : get_or text (i + 2) 0 ≡ 1

code_true : (text : List ℕ) (i : ℕ) → begins_code (drop i text) ≡ true → IsCode text i
code_true text i on =
    elim (cases_lt 3 (length text - i)) [
      | inl lt ↦
          let t = tests_true (get_or text i 0) (get_or text (i + 1) 0) (get_or text (i + 2) 0) (sym (code_at text i lt) ∙ on) in
          record { long = omega arith; first = t.0; second = t.1; third = t.2 }
      | inr le ↦ let off : begins_code (drop i text) ≡ false = code_none text i le in absurd cc
    ]

code_false : (text : List ℕ) (i : ℕ) → (IsCode text i → ⊥) → begins_code (drop i text) ≡ false
code_false text i not = false_from_ne_true (begins_code (drop i text)) (λ on. not (code_true text i on))

code_is : (text : List ℕ) (i : ℕ) → IsCode text i → begins_code (drop i text) ≡ true
code_is text i h = code_at text i (omega (arith, h.long)) ∙ rw (h.first, h.second, h.third) refl

-- a prefix with its value stands in the bytes
pub code_found : (bytes : List ℕ) (z i : ℕ) → IsStartCode bytes i → i + 3 < length bytes → begins_code (drop i (text_of bytes z)) ≡ true
code_found bytes z i h lt =
    let n : i + 3 < length (text_of bytes z) = omega (arith, text_length bytes z) in
    code_is (text_of bytes z) i (record {
      long = n;
      first = within_get bytes z i (omega arith) ∙ h.1;
      second = within_get bytes z (i + 1) (omega arith) ∙ h.2;
      third = within_get bytes z (i + 2) (omega arith) ∙ h.3;
    })

-- none begins where none stands in the bytes with its value
last_byte : (bytes : List ℕ) (z i : ℕ) → IsZeroEnded bytes z → IsStartCode bytes i → i + 3 < length bytes + z → i + 3 < length bytes
last_byte bytes z i ended h lt =
    elim (cases_lt (i + 3) (length bytes)) [
      | inl inside ↦ inside
      | inr le ↦
          let some : 0 < z = omega arith in
          let place : length bytes - 1 ≡ i + 2 = omega arith in
          let none : get_or bytes (i + 2) 0 ≡ 0 = rw place at ((ended some).1) in
          absurd (omega (arith, h.3))
    ]

pub code_absent : (bytes : List ℕ) (z i : ℕ) → IsZeroEnded bytes z → (IsStartCode bytes i → i + 3 < length bytes → ⊥) → begins_code (drop i (text_of bytes z)) ≡ false
code_absent bytes z i ended not =
    code_false (text_of bytes z) i
    (λ h.
    elim (cases_lt (i + 2) (length bytes)) [
      | inl lt ↦
          let start : IsStartCode bytes i = (lt, sym (within_get bytes z i (omega arith)) ∙ h.first, sym (within_get bytes z (i + 1) (omega arith)) ∙ h.second, sym (within_get bytes z (i + 2) lt) ∙ h.third) in
          let long : i + 3 < length bytes + z = omega (arith, h.long, text_length bytes z) in
          not start (last_byte bytes z i ended start long)
      | inr le ↦ let none : get_or (text_of bytes z) (i + 2) 0 ≡ 0 = past_get bytes z (i + 2) le in absurd (omega (arith, h.third))
    ])

-- none begins in the zeros
pub code_past : (bytes : List ℕ) (z i : ℕ) → length bytes ≤ i → begins_code (drop i (text_of bytes z)) ≡ false
code_past bytes z i le =
    code_false (text_of bytes z) i (λ h. let none : get_or (text_of bytes z) (i + 2) 0 ≡ 0 = past_get bytes z (i + 2) (omega arith) in absurd (omega (arith, h.third)))

-- ---- the units of a text

-- a text at whose head a unit begins, or the end
abbrev pub IsAtUnit : List ℕ → Type 0
IsAtUnit text = (cut 0 text).0 ≡ []

-- then its units are all of it
pub all_units : (text : List ℕ) → IsAtUnit text → text ≡ joined (units_in text)
all_units text front = (cut_cuts text).whole ∙ ap (λ (f : List ℕ). f ++ joined (units_in text)) front

pub are_units : (text : List ℕ) → AreUnits (units_in text)
are_units text = (cut_cuts text).are_units

pub joined_bits : (us : Units) → unit_bits us ≡ 8 * length (joined us)
joined_bits [] = refl
joined_bits (u ∷ us) = omega (arith, joined_bits us, length-append u (joined us))

pub left_bits : (text : List ℕ) → IsAtUnit text → unit_bits (units_in text) ≡ 8 * length text
left_bits text front = joined_bits (units_in text) ∙ ap (λ (t : List ℕ). 8 * length t) (sym (all_units text front))

-- a unit has four bytes at least
pub count_units : (us : Units) → AreUnits us → 4 * length us ≤ length (joined us)
count_units [] h = omega arith
count_units (u ∷ us) h = omega (arith, count_units us h.3, length-append u (joined us), h.0)

pub most_bits : (text : List ℕ) → unit_bits (units_in text) ≤ 8 * length text
most_bits text = omega (arith, joined_bits (units_in text), ap length (cut_cuts text).whole, length-append (cut 0 text).0 (joined (units_in text)))

pub most_units : (text : List ℕ) → 4 * length (units_in text) ≤ length text
most_units text = omega (arith, count_units (units_in text) (are_units text), ap length (cut_cuts text).whole, length-append (cut 0 text).0 (joined (units_in text)))

-- a unit, and the units behind it
head_code : (u rest : List ℕ) → 4 ≤ length u → begins_code (u ++ rest) ≡ true → begins_code u ≡ true
head_code [] rest le on = absurd (omega arith)
head_code (a ∷ []) rest le on = absurd (omega arith)
head_code (a ∷ b ∷ []) rest le on = absurd (omega arith)
head_code (a ∷ b ∷ c ∷ []) rest le on = absurd (omega arith)
head_code (a ∷ b ∷ c ∷ v ∷ w) rest le on = on

nothing_before : (rest : List ℕ) → Clear 0 [] rest
nothing_before rest i le lt = absurd (omega arith)

pub unit_first : (u rest : List ℕ) → 4 ≤ length u → begins_code (u ++ rest) ≡ true → Clear 4 u rest → IsAtUnit rest → cut 0 (u ++ rest) ≡ ([], u ∷ units_in rest)
unit_first u rest le on clear front =
    let e = all_units rest front in
    cuts_is (u ++ rest) [] (u ∷ units_in rest) (record {
      whole = ap (λ (t : List ℕ). u ++ t) e;
      front_clear = nothing_before (u ++ joined (units_in rest));
      are_units = (le, head_code u rest le on, subst (Clear 4 u) e clear, are_units rest);
    })

-- a front, and the units behind it
pub front_first : (front rest : List ℕ) → Clear 0 front rest → IsAtUnit rest → units_in (front ++ rest) ≡ units_in rest
front_first front rest clear at =
    let e = all_units rest at in
    ap (λ (x : List ℕ × Units). x.1) (cuts_is (front ++ rest) front (units_in rest) (record {
      whole = ap (λ (t : List ℕ). front ++ t) e;
      front_clear = subst (Clear 0 front) e clear;
      are_units = are_units rest;
    }))

-- ---- units as the program finds them

-- the bytes before a place, and the text from there on
cut_at : (bytes : List ℕ) (z to : ℕ) → take to bytes ++ text_of (drop to bytes) z ≡ text_of bytes z
cut_at bytes z to = sym (append_assoc (take to bytes) (drop to bytes) (replicate z 0)) ∙ ap (λ (t : List ℕ). t ++ replicate z 0) (take-append-drop to bytes)

clear_next : (bytes : List ℕ) (z from to : ℕ) → IsZeroEnded bytes z → IsNextUnit bytes from to → Clear from (take to bytes) (text_of (drop to bytes) z)
clear_next bytes z from to ended h i le lt =
    let n : i < to = omega (arith, length-take to bytes) in
    subst (λ (t : List ℕ). begins_code (drop i t) ≡ false) (sym (cut_at bytes z to)) (h.first z i ended le n)

clear_whole : (bytes : List ℕ) (z from to : ℕ) → IsZeroEnded bytes z → IsNextUnit bytes from to → length bytes ≤ to → Clear from (text_of bytes z) []
clear_whole bytes z from to ended h end i le lt =
    subst (λ (t : List ℕ). begins_code (drop i t) ≡ false) (sym (append-nil (text_of bytes z)))
    (elim (cases_lt i (length bytes)) [
      | inl inside ↦ h.first z i ended le (omega arith)
      | inr past ↦ code_past bytes z i past
    ])

pub begins_next : (bytes : List ℕ) (z from to : ℕ) → IsNextUnit bytes from to → BeginsUnit (drop to bytes) z
begins_next bytes z from to h some =
    let lt : to < length bytes = omega (arith, length-drop to bytes) in
    let n : 4 ≤ length (drop to bytes) = omega (arith, length-drop to bytes, h.value lt) in
    (n, subst (λ (t : List ℕ). begins_code t ≡ true) (drop-append-le to bytes (replicate z 0) h.within) (h.found lt z))

pub ended_next : (bytes : List ℕ) (z to : ℕ) → IsZeroEnded bytes z → 0 < length (drop to bytes) → IsZeroEnded (drop to bytes) z
ended_next bytes z to ended some pos =
    let place : to + (length (drop to bytes) - 1) ≡ length bytes - 1 = omega (arith, length-drop to bytes) in
    (some, get_or-drop to bytes (length (drop to bytes) - 1) 0 ∙ ap (byte bytes) place ∙ (ended pos).1)

text_nil : (bytes : List ℕ) (z : ℕ) → IsZeroEnded bytes z → length bytes ≤ 0 → text_of bytes z ≡ []
text_nil [] zero ended le = refl
text_nil [] (suc z) ended le = absurd (omega (arith, (ended (omega arith)).0))
text_nil (b ∷ bytes) z ended le = absurd (omega arith)

none_in : units_in [] ≡ []
unfolding cut
none_in = refl

nil_at : IsAtUnit []
unfolding cut
nil_at = refl

pub none_left : (bytes : List ℕ) (z : ℕ) → IsZeroEnded bytes z → length bytes ≤ 0 → units_in (text_of bytes z) ≡ []
none_left bytes z ended le = ap units_in (text_nil bytes z ended le) ∙ none_in

pub at_unit : (bytes : List ℕ) (z : ℕ) → IsZeroEnded bytes z → BeginsUnit bytes z → IsAtUnit (text_of bytes z)
at_unit bytes z ended begins =
    elim (cases_lt 0 (length bytes)) [
      | inl some ↦ cut_front (text_of bytes z) (begins some).1
      | inr le ↦ subst IsAtUnit (sym (text_nil bytes z ended le)) nil_at
    ]

-- the units of a text are those from its first start code on
pub from_first : (bytes : List ℕ) (z to : ℕ) → IsZeroEnded bytes z → IsNextUnit bytes 0 to → 0 < length (drop to bytes) → units_in (text_of (drop to bytes) z) ≡ units_in (text_of bytes z)
from_first bytes z to ended h some =
    sym (front_first (take to bytes) (text_of (drop to bytes) z) (clear_next bytes z 0 to ended h) (at_unit (drop to bytes) z (ended_next bytes z to ended some) (begins_next bytes z 0 to h)))
    ∙ ap units_in (cut_at bytes z to)

pub from_none : (bytes : List ℕ) (z to : ℕ) → IsZeroEnded bytes z → IsNextUnit bytes 0 to → length (drop to bytes) ≤ 0 → units_in (text_of (drop to bytes) 0) ≡ units_in (text_of bytes z)
from_none bytes z to ended h none =
    let end : length bytes ≤ to = omega (arith, length-drop to bytes) in
    none_left (drop to bytes) 0 (λ pos. absurd (omega arith)) none
    ∙ sym (ap units_in (sym (append-nil (text_of bytes z))) ∙ front_first (text_of bytes z) [] (clear_whole bytes z 0 to ended h end) nil_at ∙ none_in)

-- a unit up to the next
pub up_to_next : (bytes : List ℕ) (z to : ℕ) → IsZeroEnded bytes z → BeginsUnit bytes z → IsNextUnit bytes 4 to → 0 < length (drop to bytes)
    → units_in (text_of bytes z) ≡ text_of (take to bytes) 0 ∷ units_in (text_of (drop to bytes) z)
up_to_next bytes z to ended begins h some =
    let n : 0 < length bytes = omega (arith, length-drop to bytes) in
    let long : 4 ≤ length (take to bytes) = omega (arith, length-take to bytes, h.behind, h.within) in
    let code : begins_code (take to bytes ++ text_of (drop to bytes) z) ≡ true = subst (λ (t : List ℕ). begins_code t ≡ true) (sym (cut_at bytes z to)) (begins n).1 in
    ap units_in (sym (cut_at bytes z to))
    ∙ ap (λ (x : List ℕ × Units). x.1) (unit_first (take to bytes) (text_of (drop to bytes) z) long code (clear_next bytes z 4 to ended h) (at_unit (drop to bytes) z (ended_next bytes z to ended some) (begins_next bytes z 4 to h)))
    ∙ ap (λ (u : List ℕ). u ∷ units_in (text_of (drop to bytes) z)) (sym (append-nil (take to bytes)))

-- the last unit
pub up_to_end : (bytes : List ℕ) (z to : ℕ) → IsZeroEnded bytes z → BeginsUnit bytes z → IsNextUnit bytes 4 to → 0 < length bytes → length (drop to bytes) ≤ 0
    → units_in (text_of bytes z) ≡ text_of (take to bytes) z ∷ units_in (text_of (drop to bytes) 0)
up_to_end bytes z to ended begins h n none =
    let end : length bytes ≤ to = omega (arith, length-drop to bytes) in
    let all : take to bytes ≡ bytes = take_all to bytes end in
    let long : 4 ≤ length (text_of bytes z) = omega (arith, text_length bytes z, (begins n).0) in
    let same = append-nil (text_of bytes z) in
    let code : begins_code (text_of bytes z ++ []) ≡ true = subst (λ (t : List ℕ). begins_code t ≡ true) (sym same) (begins n).1 in
    ap units_in (sym same)
    ∙ ap (λ (x : List ℕ × Units). x.1) (unit_first (text_of bytes z) [] long code (clear_whole bytes z 4 to ended h end) nil_at)
    ∙ ap (λ (us : Units). text_of bytes z ∷ us) (none_in ∙ sym (none_left (drop to bytes) 0 (λ pos. absurd (omega arith)) none))
    ∙ ap (λ (u : List ℕ). text_of u z ∷ units_in (text_of (drop to bytes) 0)) (sym all)

-- the unit that was taken, as a syntax takes it
pub unit_taken : {K : Type 0} (u : Option (List ℕ)) (old new : Units) → Next u old new → (unit_at {K = K}).read old ≡ Ok (u, new)
unfolding unit_at
unit_taken None old new h = rw (h.0, h.1) refl
unit_taken (Some u) old new h = rw h refl

-- ---- the same of what calls gave

pub starts : (bytes rest : List ℕ) (z z' to : ℕ) → IsZeroEnded bytes z → IsNextUnit bytes 0 to → rest ≡ drop to bytes → ((length rest ≡ 0) × (z' ≡ 0)) ⊎ ((0 < length rest) × (z' ≡ z)) → units_in (text_of rest z') ≡ units_in (text_of bytes z)
starts bytes rest z z' to ended h e (inl x) = let none : length (drop to bytes) ≤ 0 = omega (arith, ap length e, x.0) in rw (e, x.1) (from_none bytes z to ended h none)
starts bytes rest z z' to ended h e (inr x) = let some : 0 < length (drop to bytes) = omega (arith, ap length e, x.0) in rw (e, x.1) (from_first bytes z to ended h some)

pub goes_on : (bytes front back u : List ℕ) (z to : ℕ) → IsZeroEnded bytes z → BeginsUnit bytes z → IsNextUnit bytes 4 to → front ≡ take to bytes → back ≡ drop to bytes → u ≡ text_of front 0 → 0 < length back
    → units_in (text_of bytes z) ≡ u ∷ units_in (text_of back z)
goes_on bytes front back u z to ended begins h ef eb eu n = let some : 0 < length (drop to bytes) = omega (arith, ap length eb) in rw (eu, ef, eb) (up_to_next bytes z to ended begins h some)

pub ends : (bytes front back u : List ℕ) (z to : ℕ) → IsZeroEnded bytes z → BeginsUnit bytes z → IsNextUnit bytes 4 to → 0 < length bytes → front ≡ take to bytes → back ≡ drop to bytes → u ≡ text_of front z → length back ≤ 0
    → units_in (text_of bytes z) ≡ u ∷ units_in (text_of back 0)
ends bytes front back u z to ended begins h n ef eb eu le = let none : length (drop to bytes) ≤ 0 = omega (arith, ap length eb) in rw (eu, ef, eb) (up_to_end bytes z to ended begins h n none)

-- ---- the bits of a unit

zero_byte : (t : List Bool) → bits_of 8 0 ++ t ≡ false ∷ false ∷ false ∷ false ∷ false ∷ false ∷ false ∷ false ∷ t
unfolding bits_of
zero_byte t = refl

zero_bits : (z : ℕ) → bits (replicate z 0) ≡ replicate (8 * z) false
zero_bits zero = refl
zero_bits (suc z) =
    let e : 8 * suc z ≡ suc (suc (suc (suc (suc (suc (suc (suc (8 * z)))))))) = omega arith in
    rw e (zero_byte (bits (replicate z 0)) ∙ ap (λ (t : List Bool). false ∷ false ∷ false ∷ false ∷ false ∷ false ∷ false ∷ false ∷ t) (zero_bits z))

pub body_is : (bytes : List ℕ) (z : ℕ) → 4 ≤ length bytes → padded (bits (drop 4 bytes)) (8 * z) ≡ body (text_of bytes z)
unfolding padded
body_is bytes z le =
    sym (ap bits (drop-append-le 4 bytes (replicate z 0) le) ∙ flat_map-append (bits_of 8) (drop 4 bytes) (replicate z 0) ∙ ap (λ (t : List Bool). bits (drop 4 bytes) ++ t) (zero_bits z))

pub body_short : (bytes : List ℕ) (z : ℕ) → length bytes + z ≤ 2 ^ 36 → length (body (text_of bytes z)) < 2 ^ 40
body_short bytes z le = omega (arith, length-bits (drop 4 (text_of bytes z)), length-drop 4 (text_of bytes z), text_length bytes z)
