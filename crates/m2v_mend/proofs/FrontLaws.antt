-- Pieces from their first sequence header on, and behind a header that was copied; and in which order they may be edited.
use Rattle.std.proofs.Common.{◌≡◌, ℕ, zero, suc, ◌+◌, ◌-◌, ◌*◌, ◌/◌, ◌<◌, ◌≤◌, true, false, List, [], ◌∷◌, ◌++◌, length, map, take, drop, get_or, replicate, min, inl, inr, refl, sym, ap, subst, ◌∙◌, append_assoc, arith}
use Rattle.std.specs.Prelude.{nat_eq, vec_len}
use Rattle.std.proofs.lemmas.Bool.{cases_Bool, cases_lt, eqb-true, eq-eqb}
use Rattle.std.proofs.lemmas.List.{length-append, length-drop, length-take, length-replicate, drop_at, drop-append-le}
use Rattle.std.proofs.Math.Seq.{get_or-append_right}
use Rattle.m2v_model.specs.Units.{Units, joined, unit_bits, AreUnits}
use Rattle.m2v_model.specs.Streams.{value_of}
use Rattle.m2v_model.specs.Pieces.{before_sequence, zeros_last, trimmed}
use Rattle.m2v_model.proofs.CutLaws.{cut_units}
use Rattle.m2v_dec_unit.specs.Texts.{text_of, IsZeroEnded}
use Rattle.m2v_dec_unit.proofs.Cuts.{ended_next}
use Rattle.m2v_decode.specs.m2v_dec_piece.declared.answer.Piece.{Piece}
use Rattle.m2v_decode.specs.m2v_dec_piece.Sound.{IsSoundPiece}
use Rattle.m2v_decode.specs.Decoding.{whole_of}
use Rattle.m2v_law_group.specs.Groups.{is_picture, is_sequence, is_group, has_sequence, from_sequence}
use Rattle.m2v_law_seam.specs.Spans.{units_of}
use Rattle.m2v_law_seam.specs.Seams.{is_typed, lowered_unit, lowered, marked_unit}
use Rattle.m2v_law_seam.proofs.Edited.{KeepsUnits, lowered_keeps, marked_keeps}
use Rattle.m2v_mend.specs.Editing.{IsUnits, EndsInZeros, zeros_in, IsFromHeader}
use Rattle.m2v_mend.proofs.EditLaws.{none_in_zeros, past_drop, zeros_drop, zeros_get, are_units}

-- ---- units before the first sequence header, and from there on

pub split_sequence : (us : Units) → joined us ≡ before_sequence us ++ joined (from_sequence us)
unfolding before_sequence from_sequence
split_sequence [] = refl
split_sequence (u ∷ us) = elim (cases_Bool (is_sequence u)) [
  | inl on ↦ rw on refl
  | inr off ↦ rw off (ap (λ (l : List ℕ). u ++ l) (split_sequence us) ∙ sym (append_assoc u (before_sequence us) (joined (from_sequence us))))
]

pub from_units : (us : Units) → AreUnits us → AreUnits (from_sequence us)
unfolding from_sequence
from_units [] are = tt
from_units (u ∷ us) are = elim (cases_Bool (is_sequence u)) [ inl on ↦ rw on are | inr off ↦ rw off (from_units us are.3) ]

pub from_front : (us vs : Units) → has_sequence us ≡ true → from_sequence (us ++ vs) ≡ from_sequence us ++ vs
unfolding has_sequence from_sequence
from_front [] vs h = absurd cc
from_front (u ∷ us) vs h = elim (cases_Bool (is_sequence u)) [ inl on ↦ rw on refl | inr off ↦ rw off (from_front us vs (rw off at h)) ]

pub from_there : (us : Units) → has_sequence us ≡ true → 1 ≤ length (from_sequence us)
unfolding has_sequence from_sequence
from_there [] h = absurd cc
from_there (u ∷ us) h = elim (cases_Bool (is_sequence u)) [ inl on ↦ rw on (omega arith) | inr off ↦ rw off (from_there us (rw off at h)) ]

-- units that are there begin in the bytes that are kept
front_kept : (b : List ℕ) (z : ℕ) (front : List ℕ) (rest : Units) → AreUnits rest → 1 ≤ length rest → text_of b z ≡ front ++ joined rest → length front < length b
front_kept b z front rest are some e = elim (cases_lt (length front) (length b)) [
  | inl lt ↦ lt
  | inr le ↦
      let tail : joined rest ≡ replicate (z - (length front - length b)) 0 = sym (drop_at front (joined rest) (length front) refl) ∙ ap (drop (length front)) (sym e) ∙ past_drop b z (length front) le in
      let none = none_in_zeros rest (z - (length front - length b)) are tail in
      absurd (omega (arith, some, ap length none))
]

-- ---- how many bytes stand before it

none_before : before_sequence [] ≡ []
unfolding before_sequence
none_before = refl

here_before : (u : List ℕ) (us : Units) → is_sequence u ≡ true → before_sequence (u ∷ us) ≡ []
unfolding before_sequence
here_before u us on = rw on refl

pub header_none : (all us : Units) (total : ℕ) → total + 8 * length (before_sequence us) ≡ 8 * length (before_sequence all) + unit_bits us → us ≡ [] → total / 8 ≡ length (before_sequence all)
header_none all us total e none = omega (arith, e, ap unit_bits none, ap (λ (l : Units). length (before_sequence l)) none, ap length none_before)

pub header_here : (all us rest : Units) (u : List ℕ) (total left : ℕ) {v : ℕ} → total + 8 * length (before_sequence us) ≡ 8 * length (before_sequence all) + unit_bits us → us ≡ u ∷ rest → value_of u ≡ v → v ≡ 0xB3 → left ≡ unit_bits us → (total - left) / 8 ≡ length (before_sequence all)
header_here all us rest u total left e is value on l =
    let x : length (before_sequence us) ≡ 0 = ap (λ (t : Units). length (before_sequence t)) is ∙ ap length (here_before u rest (eq-eqb (value_of u) 0xB3 (value ∙ on))) in
    omega (arith, e, x, l)

-- ---- a piece from there on

pub header_within : (p : Piece) (n : ℕ) → IsUnits p → has_sequence (units_of (whole_of p)) ≡ true → n ≡ length (before_sequence (units_of (whole_of p))) → n ≤ vec_len p.bytes
header_within p n whole has is =
    let us = units_of (whole_of p) in
    let b = p.bytes.items in
    let lt = front_kept b (zeros_in p) (before_sequence us) (from_sequence us) (from_units us (are_units (whole_of p))) (from_there us has) (whole ∙ split_sequence us) in
    omega (arith, is, lt, p.bytes.ok.0)

pub from_header : (p q : Piece) (n : ℕ) → IsSoundPiece p → IsUnits p → has_sequence (units_of (whole_of p)) ≡ true → n ≡ length (before_sequence (units_of (whole_of p)))
    → q.bytes.items ≡ drop n p.bytes.items → vec_len q.bytes + n ≡ vec_len p.bytes → q.place ≡ p.place + n → q.length ≡ p.length - n → IsSoundPiece q × IsFromHeader p q
from_header p q n sound whole has is items kept place len =
    let us = units_of (whole_of p) in
    let b = p.bytes.items in
    let z = zeros_in p in
    let rest = from_sequence us in
    let are = from_units us (are_units (whole_of p)) in
    let e : text_of b z ≡ before_sequence us ++ joined rest = whole ∙ split_sequence us in
    let lt : n < length b = omega (arith, is, front_kept b z (before_sequence us) rest are (from_there us has) e) in
    let some : 0 < length (drop n b) = omega (arith, lt, length-drop n b) in
    let zeros : zeros_in q ≡ z = omega (arith, kept, len, sound.kept) in
    let tail : text_of (drop n b) z ≡ joined rest = sym (drop-append-le n b (replicate z 0) (omega (arith, lt))) ∙ ap (drop n) e ∙ drop_at (before_sequence us) (joined rest) n (sym is) in
    let new : whole_of q ≡ joined rest = ap (λ (l : List ℕ). text_of l (zeros_in q)) items ∙ ap (λ (m : ℕ). text_of (drop n b) m) zeros ∙ tail in
    let more : vec_len p.bytes ≡ length b = omega (arith, p.bytes.ok.0) in (
      record {
        some = omega (arith, len, lt, more, sound.kept);
        end = omega (arith, place, len, sound.end, lt, more, sound.kept);
        kept = omega (arith, len, kept, sound.kept);
        most = omega (arith, kept, sound.most);
        zeros = λ pos. subst (λ (l : List ℕ). IsZeroEnded l z) (sym items) (ended_next b z n sound.zeros some) (omega (arith, pos, zeros));
      },
      record {
        bytes = new;
        units = ap units_of new ∙ cut_units rest are;
        place = omega (arith, place, is);
        length_is = omega (arith, len, is, lt, more, sound.kept);
        room = λ room. subst (λ (l : List ℕ). EndsInZeros l (zeros_in q)) (sym items) (subst (λ (m : ℕ). EndsInZeros (drop n b) m) (sym zeros) (zeros_drop n b z room));
      },
    )

-- ---- edits one after the other

group_typed : (u : List ℕ) → is_group u ≡ true → is_typed u ≡ false
group_typed u on =
    let value : value_of u ≡ 0xB8 = eqb-true (value_of u) 0xB8 on in
    let none : is_picture u ≡ false = ap (λ (n : ℕ). nat_eq n 0x00) value in
    rw none refl

untyped : (low : ℕ) (u : List ℕ) → is_typed u ≡ false → lowered_unit low u ≡ u
unfolding lowered_unit
untyped zero u off = refl
untyped (suc n) u off = rw off refl

unmarked : (u : List ℕ) → is_group u ≡ false → marked_unit u ≡ u
unfolding marked_unit
unmarked u off = rw off refl

-- it doesn't matter whether a unit is marked or lowered first
pub marked_lowered : (low : ℕ) (u : List ℕ) → 4 ≤ length u → marked_unit (lowered_unit low u) ≡ lowered_unit low (marked_unit u)
marked_lowered low u le = elim (cases_Bool (is_group u)) [
  | inl on ↦
      let off = group_typed u on in
      let same : is_group (marked_unit u) ≡ true = ap (λ (n : ℕ). nat_eq n 0xB8) (marked_keeps.value u le) ∙ on in
      ap marked_unit (untyped low u off) ∙ sym (untyped low (marked_unit u) (group_typed (marked_unit u) same))
  | inr off ↦
      let same : is_group (lowered_unit low u) ≡ false = ap (λ (n : ℕ). nat_eq n 0xB8) ((lowered_keeps low).value u le) ∙ off in
      unmarked (lowered_unit low u) same ∙ ap (lowered_unit low) (sym (unmarked u off))
]

pub both_edits : (low : ℕ) (us : Units) → AreUnits us → map marked_unit (lowered low us) ≡ lowered low (map marked_unit us)
both_edits low [] are = refl
both_edits low (u ∷ us) are = rw (marked_lowered low u are.0, both_edits low us are.3) refl

-- nor whether it is edited before or behind what stands before the first sequence header is left out
pub edited_from : (f : List ℕ → List ℕ) → KeepsUnits f → (us : Units) → AreUnits us → from_sequence (map f us) ≡ map f (from_sequence us)
unfolding from_sequence
edited_from f k [] are = refl
edited_from f k (u ∷ us) are =
    let same : is_sequence (f u) ≡ is_sequence u = ap (λ (n : ℕ). nat_eq n 0xB3) (k.value u are.0) in
    let i = edited_from f k us are.3 in
    elim (cases_Bool (is_sequence u)) [ inl on ↦ rw (same, on) refl | inr off ↦ rw (same, off) i ]

-- ---- a piece as a cutter hands it out

pub trimmed_room : (p : Piece) (whole : List ℕ) → p.bytes.items ≡ trimmed whole → p.length ≡ length whole → EndsInZeros p.bytes.items (zeros_in p)
trimmed_room p whole items len pos k le =
    let z = zeros_last whole in
    let m = length whole - z in
    let front = take m whole in
    let size : length p.bytes.items ≡ length front + min 64 z = ap length items ∙ length-append front (replicate (min 64 z) 0) ∙ ap (λ (n : ℕ). length front + n) (length-replicate {A = ℕ} (min 64 z) 0) in
    let far : length front ≤ k = omega (arith, pos, le, size, len, length-take m whole, p.bytes.ok.0) in
    ap (λ (l : List ℕ). get_or l k 0) items ∙ get_or-append_right front (replicate (min 64 z) 0) k 0 far ∙ zeros_get (min 64 z) (k - length front)
