-- Units that are edited one after another in the bytes of a piece.
use Rattle.std.proofs.Common.{◌≡◌, ◌⊎◌, ℕ, zero, suc, ◌+◌, ◌-◌, ◌<◌, ◌≤◌, true, List, [], ◌∷◌, ◌++◌, length, map, take, drop, get_or, replicate, min, inl, inr, refl, sym, ap, subst, ◌∙◌, append_assoc, append-nil, arith}
use Rattle.std.specs.Prelude.{nat_eq, ◌&&◌, vec_len}
use Rattle.std.proofs.lemmas.Bool.{cases_lt, eqb-true}
use Rattle.std.proofs.lemmas.List.{length-append, length-drop, length-take, length-replicate, drop-append-le, take-append-le, get_or-drop, get_or-append-add, take_at, drop_at, take_all, drop_all, map-append}
use Rattle.std.proofs.Math.ListN.{get_or-append}
use Rattle.std.proofs.Math.Seq.{get_or-append_right}
use Rattle.m2v_model.specs.Units.{Units, begins_code, joined, AreUnits}
use Rattle.m2v_model.proofs.CutLaws.{cut_cuts, cut_units, joined-append}
use Rattle.m2v_dec_unit.specs.Texts.{text_of, IsZeroEnded}
use Rattle.m2v_dec_unit.proofs.Cuts.{both_true, text_length, none_left, ended_next}
use Rattle.m2v_law_seam.specs.Spans.{units_of}
use Rattle.m2v_law_seam.proofs.Edited.{KeepsUnits, mapped_units, lowered_keeps, marked_keeps}
use Rattle.m2v_law_seam.proofs.Same.{lowered_none}
use Rattle.m2v_mend.specs.declared.edits.Edit.{Edit}
use Rattle.m2v_mend.specs.declared.edits.Edit.TheVariants.{Lower, Mark}
use Rattle.m2v_decode.specs.m2v_dec_piece.declared.answer.Piece.{Piece}
use Rattle.m2v_decode.specs.Decoding.{whole_of}
use Rattle.m2v_mend.specs.Editing.{IsWhole, IsUnits, EndsInZeros, zeros_in, edited, HasRoom, IsFirstLength, IsEdited}

-- ---- bytes, and the zero bytes behind them

pub zeros_get : (n i : ℕ) → get_or (replicate {A = ℕ} n 0) i 0 ≡ 0
zeros_get zero i = refl
zeros_get (suc n) zero = refl
zeros_get (suc n) (suc i) = zeros_get n i

pub past_get : (bytes : List ℕ) (z i : ℕ) → length bytes ≤ i → get_or (text_of bytes z) i 0 ≡ 0
past_get bytes z i le = get_or-append_right bytes (replicate z 0) i 0 le ∙ zeros_get z (i - length bytes)

pub within_get : (bytes : List ℕ) (z i : ℕ) → i < length bytes → get_or (text_of bytes z) i 0 ≡ get_or bytes i 0
within_get bytes z i lt = get_or-append bytes (replicate z 0) 0 i lt

-- no unit stands in zero bytes
third_one : (a b c : ℕ) → (nat_eq a 0 && (nat_eq b 0 && nat_eq c 1)) ≡ true → c ≡ 1
third_one a b c e = eqb-true c 1 (both_true (nat_eq b 0) (nat_eq c 1) (both_true (nat_eq a 0) (nat_eq b 0 && nat_eq c 1) e).1).1

third_of : (u rest : List ℕ) → 4 ≤ length u → begins_code u ≡ true → get_or (u ++ rest) 2 0 ≡ 1
third_of (a ∷ b ∷ c ∷ v ∷ w) rest le on = third_one a b c on
third_of _ rest le on = absurd (omega arith)

pub none_in_zeros : (us : Units) (k : ℕ) → AreUnits us → joined us ≡ replicate k 0 → us ≡ []
none_in_zeros [] k are e = refl
none_in_zeros (u ∷ us) k are e =
    let one : get_or (joined (u ∷ us)) 2 0 ≡ 1 = third_of u (joined us) are.0 are.1 in
    let none : get_or (joined (u ∷ us)) 2 0 ≡ 0 = ap (λ (l : List ℕ). get_or l 2 0) e ∙ zeros_get k 2 in
    absurd (omega (arith, one, none))

-- zero bytes that are kept stay behind a place
pub zeros_drop : (n : ℕ) (bytes : List ℕ) (z : ℕ) → EndsInZeros bytes z → EndsInZeros (drop n bytes) z
zeros_drop n bytes z h some k le = get_or-drop n bytes k 0 ∙ h some (n + k) (omega (arith, le, length-drop n bytes))

pub room_drop : (e : Edit) (n : ℕ) (bytes : List ℕ) (z : ℕ) → IsZeroEnded bytes z → 0 < length (drop n bytes) → HasRoom e bytes z → HasRoom e (drop n bytes) z
room_drop (Lower low) n bytes z ended some h = ended_next bytes z n ended some
room_drop Mark n bytes z ended some h = zeros_drop n bytes z h

-- ---- an edit keeps units

pub keeps : (e : Edit) → KeepsUnits (edited e)
keeps (Lower low) = lowered_keeps low
keeps Mark = marked_keeps

pub are_units : (text : List ℕ) → AreUnits (units_of text)
are_units text = (cut_cuts text).are_units

pub edited_units : (e : Edit) (us : Units) → AreUnits us → units_of (joined (map (edited e) us)) ≡ map (edited e) us
edited_units e us are = cut_units (map (edited e) us) (mapped_units (edited e) (keeps e) us are)

-- ---- units one after another

-- those before a place were edited
pub record EditedTo (e : Edit) (us : Units) (z : ℕ) (bytes : List ℕ) (at : ℕ) : Type 0 where
  pub done : Units
  pub rest : Units
  pub are : us ≡ done ++ rest
  pub units : AreUnits rest
  pub text : text_of bytes z ≡ joined (map (edited e) done) ++ joined rest
  pub within : at ≤ length bytes
  pub going : at < length bytes → (at ≡ length (joined (map (edited e) done))) × IsZeroEnded (drop at bytes) z × HasRoom e (drop at bytes) z
  pub over : length bytes ≤ at → (rest ≡ []) × IsZeroEnded bytes z

pub edited_start : (e : Edit) (bytes : List ℕ) (z : ℕ) → IsWhole (text_of bytes z) → IsZeroEnded bytes z → HasRoom e bytes z → EditedTo e (units_of (text_of bytes z)) z bytes 0
edited_start e bytes z whole ended room = record {
  done = [];
  rest = units_of (text_of bytes z);
  are = refl;
  units = are_units (text_of bytes z);
  text = whole;
  within = omega arith;
  going = λ lt. (refl, ended, room);
  over = λ le. (none_left bytes z ended le, ended);
}

-- the text from a place on
pub rest_text : (e : Edit) (us : Units) (z : ℕ) (bytes : List ℕ) (at : ℕ) → (h : EditedTo e us z bytes at) → at < length bytes → text_of (drop at bytes) z ≡ joined h.rest
rest_text e us z bytes at h lt =
    let p = joined (map (edited e) h.done) in
    sym (drop-append-le at bytes (replicate z 0) (omega arith)) ∙ ap (drop at) h.text ∙ drop_at p (joined h.rest) at (sym (h.going lt).0)

pub rest_units : (e : Edit) (us : Units) (z : ℕ) (bytes : List ℕ) (at : ℕ) → (h : EditedTo e us z bytes at) → at < length bytes → units_of (text_of (drop at bytes) z) ≡ h.rest
rest_units e us z bytes at h lt = ap units_of (rest_text e us z bytes at h lt) ∙ cut_units h.rest h.units

pub rest_whole : (e : Edit) (us : Units) (z : ℕ) (bytes : List ℕ) (at : ℕ) → EditedTo e us z bytes at → at < length bytes → IsWhole (text_of (drop at bytes) z)
rest_whole e us z bytes at h lt = rest_text e us z bytes at h lt ∙ ap joined (sym (rest_units e us z bytes at h lt))

-- ---- the first unit of what is left

-- its bytes are all kept; or it is the last one, with all zero bytes
abbrev Kept : List ℕ → ℕ → ℕ → List ℕ → Units → Type 0
Kept b z n u others = (n ≡ length u) × (n ≤ length b)

abbrev Last : List ℕ → ℕ → ℕ → List ℕ → Units → Type 0
Last b z n u others = (n ≡ length b) × (others ≡ []) × (u ≡ text_of b z)

replicate_drop : (n k : ℕ) → drop k (replicate {A = ℕ} n 0) ≡ replicate (n - k) 0
replicate_drop n zero = let e : n ≡ n - 0 = omega arith in ap (λ (m : ℕ). replicate {A = ℕ} m 0) e
replicate_drop zero (suc k) = let e : 0 ≡ 0 - suc k = omega arith in ap (λ (m : ℕ). replicate {A = ℕ} m 0) e
replicate_drop (suc n) (suc k) = let e : n - k ≡ suc n - suc k = omega arith in replicate_drop n k ∙ ap (λ (m : ℕ). replicate {A = ℕ} m 0) e

pub past_drop : (b : List ℕ) (z k : ℕ) → length b ≤ k → drop k (text_of b z) ≡ replicate (z - (k - length b)) 0
past_drop [] z k le = let e : z - k ≡ z - (k - 0) = omega arith in replicate_drop z k ∙ ap (λ (m : ℕ). replicate {A = ℕ} m 0) e
past_drop (x ∷ b) z zero le = absurd (omega arith)
past_drop (x ∷ b) z (suc k) le = let e : z - (k - length b) ≡ z - (suc k - suc (length b)) = omega arith in past_drop b z k (omega arith) ∙ ap (λ (m : ℕ). replicate {A = ℕ} m 0) e

pub where_unit : (b : List ℕ) (z n : ℕ) (u : List ℕ) (others : Units) → n ≡ min (length u) (length b) → AreUnits others → text_of b z ≡ u ++ joined others → Kept b z n u others ⊎ Last b z n u others
where_unit b z n u others least are e =
    elim (cases_lt (length b) (length u)) [
      | inl lt ↦
          let tail : joined others ≡ replicate (z - (length u - length b)) 0 =
          sym (drop_at u (joined others) (length u) refl) ∙ ap (drop (length u)) (sym e) ∙ past_drop b z (length u) (omega arith) in
          let none = none_in_zeros others (z - (length u - length b)) are tail in
          inr (omega (arith, least), none, sym (append-nil u) ∙ sym (ap (λ (l : Units). u ++ joined l) none) ∙ sym e)
      | inr le ↦ inl (omega (arith, least), omega (arith, least))
    ]

-- ---- one unit more

snoc_joined : (e : Edit) (done : Units) (u : List ℕ) → joined (map (edited e) (done ++ u ∷ [])) ≡ joined (map (edited e) done) ++ edited e u
snoc_joined e done u =
    ap joined (map-append (edited e) done (u ∷ [])) ∙ joined-append (map (edited e) done) (edited e u ∷ []) ∙ ap (λ (l : List ℕ). joined (map (edited e) done) ++ l) (append-nil (edited e u))

-- what stands in the bytes with a unit of them written anew
abbrev pub rewritten : ℕ → ℕ → List ℕ → List ℕ → List ℕ
rewritten at n bytes new = take at bytes ++ (new ++ drop n (drop at bytes))

front_is : (bytes : List ℕ) (z at : ℕ) (p q : List ℕ) → at ≤ length bytes → at ≡ length p → text_of bytes z ≡ p ++ q → take at bytes ≡ p
front_is bytes z at p q le is e = sym (take-append-le at bytes (replicate z 0) le) ∙ ap (take at) e ∙ take_at p q at (sym is)

next_text : (bytes : List ℕ) (z at n : ℕ) (new : List ℕ) → text_of (rewritten at n bytes new) z ≡ take at bytes ++ (new ++ text_of (drop n (drop at bytes)) z)
next_text bytes z at n new =
    append_assoc (take at bytes) (new ++ drop n (drop at bytes)) (replicate z 0)
    ∙ ap (λ (l : List ℕ). take at bytes ++ l) (append_assoc new (drop n (drop at bytes)) (replicate z 0))

next_length : (bytes : List ℕ) (at n : ℕ) (new : List ℕ) → at ≤ length bytes → n ≤ length (drop at bytes) → length new ≡ n → length (rewritten at n bytes new) ≡ length bytes
next_length bytes at n new le most is =
    omega (arith, le, most, is, length-append (take at bytes) (new ++ drop n (drop at bytes)), length-append new (drop n (drop at bytes)), length-take at bytes, length-drop n (drop at bytes), length-drop at bytes)

next_drop : (bytes : List ℕ) (at n : ℕ) (new : List ℕ) → at ≤ length bytes → length new ≡ n → drop (at + n) (rewritten at n bytes new) ≡ drop n (drop at bytes)
next_drop bytes at n new le is =
    ap (drop (at + n)) (sym (append_assoc (take at bytes) new (drop n (drop at bytes))))
    ∙ drop_at (take at bytes ++ new) (drop n (drop at bytes)) (at + n) (omega (arith, le, is, length-append (take at bytes) new, length-take at bytes))

no_room : (e : Edit) (bytes : List ℕ) → HasRoom e bytes 0
no_room (Lower low) bytes = λ pos. absurd (omega arith)
no_room Mark bytes = λ pos. absurd (omega arith)

-- what is known before a unit is written anew
record Ahead (e : Edit) (z : ℕ) (bytes : List ℕ) (at n : ℕ) (done : Units) (u : List ℕ) (others : Units) : Type 0 where
  within : at ≤ length bytes
  some : at < length bytes
  front : take at bytes ≡ joined (map (edited e) done)
  place : at ≡ length (joined (map (edited e) done))
  text : text_of (drop at bytes) z ≡ u ++ joined others
  ended : IsZeroEnded (drop at bytes) z
  room : HasRoom e (drop at bytes) z
  units : AreUnits (u ∷ others)

-- it was
record Behind (e : Edit) (us : Units) (z : ℕ) (bytes : List ℕ) (at n : ℕ) (new : List ℕ) (done : Units) (u : List ℕ) (others : Units) : Type 0 where
  text : text_of (rewritten at n bytes new) z ≡ joined (map (edited e) (done ++ u ∷ [])) ++ joined others
  within : at + n ≤ length (rewritten at n bytes new)
  going : at + n < length (rewritten at n bytes new) → (at + n ≡ length (joined (map (edited e) (done ++ u ∷ [])))) × IsZeroEnded (drop (at + n) (rewritten at n bytes new)) z × HasRoom e (drop (at + n) (rewritten at n bytes new)) z
  over : length (rewritten at n bytes new) ≤ at + n → (others ≡ []) × IsZeroEnded (rewritten at n bytes new) z

written : (e : Edit) (z : ℕ) (bytes : List ℕ) (at n : ℕ) (new : List ℕ) (done : Units) (u : List ℕ) (others : Units) → take at bytes ≡ joined (map (edited e) done) → new ++ text_of (drop n (drop at bytes)) z ≡ edited e u ++ joined others
    → text_of (rewritten at n bytes new) z ≡ joined (map (edited e) (done ++ u ∷ [])) ++ joined others
written e z bytes at n new done u others front is =
    let p = joined (map (edited e) done) in
    next_text bytes z at n new ∙ ap (λ (l : List ℕ). take at bytes ++ l) is ∙ ap (λ (l : List ℕ). l ++ (edited e u ++ joined others)) front
    ∙ sym (append_assoc p (edited e u) (joined others)) ∙ ap (λ (l : List ℕ). l ++ joined others) (sym (snoc_joined e done u))

kept_next : (e : Edit) (us : Units) (z : ℕ) (bytes : List ℕ) (at n : ℕ) (new : List ℕ) (done : Units) (u : List ℕ) (others : Units) → Ahead e z bytes at n done u others → Kept (drop at bytes) z n u others → length new ≡ n
    → text_of new 0 ≡ edited e (text_of (take n (drop at bytes)) 0) → Behind e us z bytes at n new done u others
kept_next e us z bytes at n new done u others h k is value =
    let b = drop at bytes in
    let own : take n b ≡ u = front_is b z n u (joined others) k.1 k.0 h.text in
    let tail : text_of (drop n b) z ≡ joined others = sym (drop-append-le n b (replicate z 0) k.1) ∙ ap (drop n) h.text ∙ drop_at u (joined others) n (sym k.0) in
    let unit : new ≡ edited e u = sym (append-nil new) ∙ value ∙ ap (edited e) (append-nil (take n b) ∙ own) in
    let len = next_length bytes at n new h.within k.1 is in
    let left = next_drop bytes at n new h.within is in
    let size : length b ≡ length bytes - at = length-drop at bytes in
    record {
      text = written e z bytes at n new done u others h.front (ap (λ (l : List ℕ). l ++ text_of (drop n b) z) unit ∙ ap (λ (l : List ℕ). edited e u ++ l) tail);
      within = omega (arith, len, k.1, size, h.some);
      going = λ lt.
          let more : 0 < length (drop n b) = omega (arith, len, lt, size, length-drop n b, h.some) in (
            omega (arith, h.place, is, ap length (snoc_joined e done u), length-append (joined (map (edited e) done)) (edited e u), ap length unit),
            subst (λ (l : List ℕ). IsZeroEnded l z) (sym left) (ended_next b z n h.ended more),
            subst (λ (l : List ℕ). HasRoom e l z) (sym left) (room_drop e n b z h.ended more h.room),
          );
      over = λ le.
          let none : drop n b ≡ [] = drop_all n b (omega (arith, len, le, size, h.some)) in
          let zeros : joined others ≡ replicate z 0 = sym tail ∙ ap (λ (l : List ℕ). text_of l z) none in
          let last = none_in_zeros others z h.units.3 zeros in
          (last, λ pos. absurd (omega (arith, pos, ap length zeros, ap (λ (l : Units). length (joined l)) last, length-replicate {A = ℕ} z 0)));
    }

last_ended : (front new : List ℕ) (z : ℕ) → IsZeroEnded new z → IsZeroEnded (front ++ new) z
last_ended front new z h pos =
    let i = h pos in
    let n : length (front ++ new) - 1 ≡ length front + (length new - 1) = omega (arith, i.0, length-append front new) in
    (omega (arith, i.0, length-append front new), ap (λ (k : ℕ). get_or (front ++ new) k 0) n ∙ get_or-append-add front new (length new - 1) 0 ∙ i.1)

last_next : (e : Edit) (us : Units) (z : ℕ) (bytes : List ℕ) (at n : ℕ) (new : List ℕ) (done : Units) (u : List ℕ) (others : Units) → Ahead e z bytes at n done u others → Last (drop at bytes) z n u others → length new ≡ n
    → text_of new z ≡ edited e (text_of (take n (drop at bytes)) z) → IsZeroEnded new z → Behind e us z bytes at n new done u others
last_next e us z bytes at n new done u others h k is value ended =
    let b = drop at bytes in
    let size : length b ≡ length bytes - at = length-drop at bytes in
    let all : take n b ≡ b = take_all n b (omega (arith, k.0)) in
    let none : drop n b ≡ [] = drop_all n b (omega (arith, k.0)) in
    let unit : text_of new z ≡ edited e u = value ∙ ap (λ (l : List ℕ). edited e (text_of l z)) all ∙ ap (edited e) (sym k.2) in
    let len = next_length bytes at n new h.within (omega (arith, k.0)) is in
    record {
      text = written e z bytes at n new done u others h.front (ap (λ (l : List ℕ). new ++ text_of l z) none ∙ unit ∙ sym (append-nil (edited e u)) ∙ ap (λ (l : Units). edited e u ++ joined l) (sym k.1));
      within = omega (arith, len, k.0, size, h.some);
      going = λ lt. absurd (omega (arith, len, lt, k.0, size, h.some));
      over = λ le. (k.1, subst (λ (l : List ℕ). IsZeroEnded l z) (ap (λ (l : List ℕ). take at bytes ++ l) (sym (append-nil new) ∙ ap (λ (l : List ℕ). new ++ l) (sym none))) (last_ended (take at bytes) new z ended));
    }

take_room : (e : Edit) (n : ℕ) (b : List ℕ) (z : ℕ) → n ≡ length b → HasRoom e b z → HasRoom e (take n b) z
take_room e n b z is h = subst (λ (l : List ℕ). HasRoom e l z) (sym (take_all n b (omega (arith, is)))) h

-- one unit more
pub edited_next : (e : Edit) (us : Units) (z : ℕ) (bytes : List ℕ) (at n : ℕ) (new next : List ℕ) → EditedTo e us z bytes at → at < length bytes → IsFirstLength (drop at bytes) z n → length new ≡ n
    → ((zeros : ℕ) → HasRoom e (take n (drop at bytes)) zeros → text_of new zeros ≡ edited e (text_of (take n (drop at bytes)) zeros))
    → ((zeros : ℕ) → HasRoom e (take n (drop at bytes)) zeros → IsZeroEnded new zeros)
    → next ≡ rewritten at n bytes new → EditedTo e us z next (at + n)
edited_next e us z bytes at n new next h some f is value ended same =
    let b = drop at bytes in
    let u = f.unit in
    let others = f.others in
    let rest : h.rest ≡ u ∷ others = sym (rest_units e us z bytes at h some) ∙ f.are in
    let g = h.going some in
    let text : text_of b z ≡ u ++ joined others = rest_text e us z bytes at h some ∙ ap joined rest in
    let units : AreUnits (u ∷ others) = subst AreUnits rest h.units in
    let ahead : Ahead e z bytes at n h.done u others = record {
      within = h.within;
      some = some;
      front = front_is bytes z at (joined (map (edited e) h.done)) (joined h.rest) h.within g.0 h.text;
      place = g.0;
      text = text;
      ended = g.1;
      room = g.2;
      units = units;
    } in
    let i : Behind e us z bytes at n new h.done u others =
    elim (where_unit b z n u others f.least units.3 text) [
      | inl k ↦ kept_next e us z bytes at n new h.done u others ahead k is (value 0 (no_room e (take n b)))
      | inr k ↦ let room = take_room e n b z k.0 g.2 in last_next e us z bytes at n new h.done u others ahead k is (value z room) (ended z room)
    ] in
    subst (λ (l : List ℕ). EditedTo e us z l (at + n)) (sym same) (record {
      done = h.done ++ u ∷ [];
      rest = others;
      are = h.are ∙ ap (λ (l : Units). h.done ++ l) rest ∙ sym (append_assoc h.done (u ∷ []) others);
      units = units.3;
      text = i.text;
      within = i.within;
      going = i.going;
      over = i.over;
    })

-- and has four bytes
pub first_long : (b : List ℕ) (z : ℕ) (u : List ℕ) (others : Units) → 0 < length b → IsZeroEnded b z → AreUnits (u ∷ others) → text_of b z ≡ u ++ joined others → 4 ≤ length b
first_long b z u others some ended are e =
    let one : get_or (text_of b z) 2 0 ≡ 1 = ap (λ (l : List ℕ). get_or l 2 0) e ∙ third_of u (joined others) are.0 are.1 in
    let long : 4 ≤ length b + z = omega (arith, are.0, ap length e, length-append u (joined others), text_length b z) in
    elim (cases_lt 3 (length b)) [
      | inl lt ↦ omega (arith, lt)
      | inr le ↦ elim (cases_lt 2 (length b)) [
        | inl three ↦
            let last : get_or b (length b - 1) 0 ≡ 0 = (ended (omega (arith, long, le))).1 in
            let at : length b - 1 ≡ 2 = omega (arith, le, three) in
            let none : get_or b 2 0 ≡ 0 = ap (λ (k : ℕ). get_or b k 0) (sym at) ∙ last in
            absurd (omega (arith, one, within_get b z 2 three, none))
        | inr few ↦ absurd (omega (arith, one, past_get b z 2 few))
      ]
    ]

pub first_least : (b : List ℕ) (z n : ℕ) → 0 < length b → IsZeroEnded b z → IsWhole (text_of b z) → IsFirstLength b z n → 4 ≤ n
first_least b z n some ended whole f =
    let are : AreUnits (f.unit ∷ f.others) = subst AreUnits f.are (are_units (text_of b z)) in
    let long = first_long b z f.unit f.others some ended are (whole ∙ ap joined f.are) in
    omega (arith, long, are.0, f.least)

-- ---- as the program shows it

pub edited_at : (e : Edit) (us : Units) (z : ℕ) (bytes : List ℕ) (at n k : ℕ) (b new : List ℕ) → b ≡ drop at bytes → k ≡ n → EditedTo e us z bytes at → at < length bytes → IsFirstLength b z n → n ≤ length b → length new ≡ length (take k (drop at bytes))
    → ((zeros : ℕ) → HasRoom e (take k (drop at bytes)) zeros → text_of new zeros ≡ edited e (text_of (take k (drop at bytes)) zeros))
    → ((zeros : ℕ) → HasRoom e (take k (drop at bytes)) zeros → IsZeroEnded new zeros)
    → EditedTo e us z (rewritten at k bytes new) (at + n)
edited_at e us z bytes at n k b new eb ek h some f within is value ended =
    let own : IsFirstLength (drop at bytes) z n = subst (λ (l : List ℕ). IsFirstLength l z n) eb f in
    let most : n ≤ length (drop at bytes) = omega (arith, within, ap length eb) in
    let Step : ℕ → Type 0 = λ m.
    length new ≡ length (take m (drop at bytes))
    → ((zeros : ℕ) → HasRoom e (take m (drop at bytes)) zeros → text_of new zeros ≡ edited e (text_of (take m (drop at bytes)) zeros))
    → ((zeros : ℕ) → HasRoom e (take m (drop at bytes)) zeros → IsZeroEnded new zeros)
    → EditedTo e us z (rewritten at m bytes new) (at + n) in
    subst Step (sym ek) (λ same v d. edited_next e us z bytes at n new (rewritten at n bytes new) h some own (omega (arith, same, most, length-take n (drop at bytes))) v d refl) is value ended

pub length_at : (bytes : List ℕ) (at n k : ℕ) (b new : List ℕ) → b ≡ drop at bytes → k ≡ n → at < length bytes → n ≤ length b → length new ≡ length (take k (drop at bytes)) → length (rewritten at k bytes new) ≡ length bytes
length_at bytes at n k b new eb ek some within is =
    omega (arith, ek, some, within, is, ap length eb, length-append (take at bytes) (new ++ drop k (drop at bytes)), length-append new (drop k (drop at bytes)), length-take at bytes, length-take k (drop at bytes), length-drop k (drop at bytes), length-drop at bytes)

pub whole_slice : (bytes : List ℕ) (at : ℕ) → take (length bytes - at) (drop at bytes) ≡ drop at bytes
whole_slice bytes at = take_all (length bytes - at) (drop at bytes) (omega (arith, length-drop at bytes))

pub slice_least : (e : Edit) (us : Units) (z : ℕ) (bytes : List ℕ) (at n : ℕ) (b : List ℕ) → b ≡ drop at bytes → EditedTo e us z bytes at → at < length bytes → IsFirstLength b z n → 4 ≤ n
slice_least e us z bytes at n b eb h some f =
    let own : IsFirstLength (drop at bytes) z n = subst (λ (l : List ℕ). IsFirstLength l z n) eb f in
    first_least (drop at bytes) z n (omega (arith, some, length-drop at bytes)) (h.going some).1 (rest_whole e us z bytes at h some) own

-- ---- a piece

pub piece_edited : (e : Edit) (p q : Piece) (old new : List ℕ) (zeros : ℕ) → p.bytes.items ≡ old → q.bytes.items ≡ new → vec_len q.bytes ≡ vec_len p.bytes → q.place ≡ p.place → q.length ≡ p.length → zeros ≡ zeros_in p
    → text_of new zeros ≡ joined (map (edited e) (units_of (text_of old zeros))) → IsEdited e p q
piece_edited e p q old new zeros po qn kept place length left made =
    let n : q.length - vec_len q.bytes ≡ zeros = omega (arith, kept, length, left) in
    let w : whole_of q ≡ text_of new zeros = ap (λ (l : List ℕ). text_of l (q.length - vec_len q.bytes)) qn ∙ ap (λ (k : ℕ). text_of new k) n in
    let o : whole_of p ≡ text_of old zeros = ap (λ (l : List ℕ). text_of l (p.length - vec_len p.bytes)) po ∙ ap (λ (k : ℕ). text_of old k) (sym left) in
    let whole : whole_of q ≡ joined (map (edited e) (units_of (whole_of p))) = w ∙ made ∙ ap (λ (t : List ℕ). joined (map (edited e) (units_of t))) (sym o) in
    record {
      bytes = whole;
      units = ap units_of whole ∙ edited_units e (units_of (whole_of p)) (are_units (whole_of p));
      place = place;
      length = length;
      kept = kept;
    }

-- a piece that is lowered by nothing stays
pub lowered_by_nothing : (low : ℕ) (p : Piece) → low ≡ 0 → IsUnits p → IsEdited (Lower low) p p
lowered_by_nothing zero p none units = record {
  bytes = units ∙ ap joined (sym (lowered_none (units_of (whole_of p))));
  units = sym (lowered_none (units_of (whole_of p)));
  place = refl;
  length = refl;
  kept = refl;
}
lowered_by_nothing (suc low) p none units = absurd (omega (arith, none))
