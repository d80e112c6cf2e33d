-- Where slices alone are left of units, nothing more is counted but their bytes.
use Rattle.std.proofs.Common.{◌≡◌, ℕ, ◌+◌, ◌-◌, ◌*◌, ◌/◌, ◌≤◌, ◌<◌, Bool, true, false, List, [], ◌∷◌, ◌++◌, length, drop, get_or, refl, sym, ap, subst, ◌∙◌, append_assoc, arith}
use Rattle.std.specs.Prelude.{nat_eq, nat_le, ◌&&◌, ◌||◌}
use Rattle.std.proofs.lemmas.Bool.{leb-true, ne_eqb}
use Rattle.std.proofs.lemmas.List.{length-append, get_or-drop, drop-append-le, drop_all}
use Rattle.std.proofs.Math.Bool.{or-false}
use Rattle.m2v_model.specs.Units.{Units, begins_code, cut, joined, unit_bits, AreUnits}
use Rattle.m2v_model.specs.Streams.{value_of}
use Rattle.m2v_model.specs.Pieces.{is_end}
use Rattle.m2v_model.proofs.CutLaws.{cut_cuts, joined_bits}
use Rattle.m2v_model.proofs.ShiftLaws.{NoEnds}
use Rattle.m2v_decode.specs.m2v_dec_piece.declared.answer.Piece.{Piece}
use Rattle.m2v_decode.specs.m2v_dec_piece.Sound.{IsSoundPiece}
use Rattle.m2v_decode.specs.m2v_dec_piece.Slices.{is_slice, OnlySlices}
use Rattle.m2v_decode.specs.Decoding.{whole_of}
use Rattle.m2v_decode.proofs.EndLaws.{whole_length}
use Rattle.m2v_law_group.specs.Groups.{is_sequence, is_group, to_end}
use Rattle.m2v_law_group.proofs.Lists.{and_parts}
use Rattle.m2v_law_group.proofs.Texts.{code_bytes}
use Rattle.m2v_law_seam.specs.Spans.{units_of, is_matrices}
use Rattle.m2v_mend.specs.declared.info.Counted.{Counted}
use Rattle.m2v_mend.specs.Feeding.{from_end}
use Rattle.m2v_mend.specs.Telling.{IsCounted, SlicesFrom, place_with, counted_with, with_slices}
use Rattle.m2v_mend.proofs.Bare.{before_none}
use Rattle.m2v_mend.proofs.InfoLaws.{CountedTo, counted_from, counted_none, counted_is}

-- ---- slices

abbrev AreSlices : Units → Type 0
AreSlices [] = Unit {0}
AreSlices (u ∷ us) = (is_slice (value_of u) ≡ true) × AreSlices us

slices_left : (bits : ℕ) (us : Units) → SlicesFrom bits us → unit_bits us ≤ bits → AreSlices us
slices_left bits [] h le = tt
slices_left bits (u ∷ us) h le = (h.0 le, slices_left bits us h.1 (omega (arith, le)))

some_value : (v : ℕ) → is_slice v ≡ true → 1 ≤ v
some_value v h = leb-true 1 v (and_parts (nat_le 1 v) (nat_le v 0xAF) h).0

low_value : (v : ℕ) → is_slice v ≡ true → v ≤ 0xAF
low_value v h = leb-true v 0xAF (and_parts (nat_le 1 v) (nat_le v 0xAF) h).1

other_value : (v n : ℕ) → is_slice v ≡ true → 0xAF < n → nat_eq v n ≡ false
other_value v n h lt = ne_eqb v n (λ e. absurd (omega (arith, low_value v h, lt, e)))

no_picture : (v : ℕ) → is_slice v ≡ true → nat_eq v 0 ≡ false
no_picture v h = ne_eqb v 0 (λ e. absurd (omega (arith, some_value v h, e)))

no_ends : (us : Units) → AreSlices us → NoEnds us
unfolding is_end
no_ends [] h = tt
no_ends (u ∷ us) h = (other_value (value_of u) 0xB7 h.0 (omega arith), no_ends us h.1)

none_from : (us : Units) → NoEnds us → from_end us ≡ []
unfolding from_end
none_from [] h = refl
none_from (u ∷ us) h = rw (h.0) (none_from us h.1)

-- ---- what is counted with them

abbrev counted_as : Bool → Bool → Bool → ℕ → Bool → ℕ → Counted
counted_as a b c p d n = record { sequence = a; again = b; group = c; pictures = p; matrices = d; matrices_place = n }

abbrev with_place : Counted → ℕ → Counted
with_place c n = record c { matrices_place = n }

counted_parts : (a a' b b' c c' d d' : Bool) (p p' n n' : ℕ) → a ≡ a' → b ≡ b' → c ≡ c' → p ≡ p' → d ≡ d' → n ≡ n' → counted_as a b c p d n ≡ counted_as a' b' c' p' d' n'
counted_parts a a' b b' c c' d d' p p' n n' ea eb ec ep ed en = rw (ea, eb, ec, ep, ed, en) refl

or_off : (a b : Bool) → b ≡ false → (a || b) ≡ a
or_off a b off = ap (λ (x : Bool). a || x) off ∙ or-false a

and_off : (a b : Bool) → b ≡ false → (a && b) ≡ false
and_off true b off = off
and_off false b off = refl

first_off : (a b : Bool) → a ≡ false → (a && b) ≡ false
first_off a b off = ap (λ (x : Bool). x && b) off

slice_more : (u : List ℕ) (c : Counted) → is_slice (value_of u) ≡ true → counted_with u c ≡ with_slices (length u) c
slice_more u c h =
    let v = value_of u in
    let sequence : is_sequence u ≡ false = other_value v 0xB3 h (omega arith) in
    let matrices : is_matrices u ≡ false = first_off (nat_eq v 0xB5) _ (other_value v 0xB5 h (omega arith)) in
    let kept = or_off c.matrices (is_matrices u) matrices in
    counted_parts _ _ _ _ _ _ _ _ _ _ _ _
    (or_off c.sequence (is_sequence u) sequence)
    (or_off c.again (c.sequence && is_sequence u) (and_off c.sequence (is_sequence u) sequence))
    (or_off c.group (is_group u) (other_value v 0xB8 h (omega arith)))
    (rw (no_picture v h) refl)
    kept
    (ap (λ (b : Bool). place_with b (length u) c.matrices_place) kept)

place_none : (b : Bool) (k : ℕ) → place_with b 0 k ≡ k
place_none true k = refl
place_none false k = omega arith

place_more : (b : Bool) (m n k : ℕ) → place_with b n (place_with b m k) ≡ place_with b (m + n) k
place_more true m n k = refl
place_more false m n k = omega arith

slices_from : (us : Units) (c : Counted) → AreSlices us → counted_from c us ≡ with_slices (length (joined us)) c
unfolding counted_from
slices_from [] c h = ap (with_place c) (sym (place_none c.matrices c.matrices_place))
slices_from (u ∷ us) c h =
    let n = length (joined us) in
    slices_from us (counted_with u c) h.1
    ∙ ap (with_slices n) (slice_more u c h.0)
    ∙ ap (with_place c) (place_more c.matrices (length u) n c.matrices_place)
    ∙ ap (λ (k : ℕ). with_slices k c) (sym (length-append u (joined us)))

-- no more bits are left than slices have
pub counted_slices : (all us : Units) (c d : Counted) (bits left : ℕ) → CountedTo all us c → SlicesFrom bits us → left ≡ unit_bits us → left ≤ bits → d ≡ with_slices (left / 8) c → IsCounted (to_end all) d
counted_slices all us c d bits left h from is le e =
    let slices = slices_left bits us from (omega (arith, is, le)) in
    let bytes : length (joined us) ≡ left / 8 = omega (arith, is, joined_bits us) in
    let made : counted_from counted_none (to_end all) ≡ d =
    h.going
    ∙ ap (counted_from c) (before_none us (no_ends us slices))
    ∙ slices_from us c slices
    ∙ ap (λ (k : ℕ). with_slices k c) bytes
    ∙ sym e in
    subst (IsCounted (to_end all)) made (counted_is (to_end all))

pub behind_slices : (all us : Units) (bits left : ℕ) → from_end all ≡ from_end us → SlicesFrom bits us → left ≡ unit_bits us → left ≤ bits → 0 ≡ unit_bits (from_end all)
behind_slices all us bits left same from is le =
    let slices = slices_left bits us from (omega (arith, is, le)) in
    sym (ap unit_bits (same ∙ none_from us (no_ends us slices)))

pub slices_room : (all us : Units) (c : Counted) (left : ℕ) → CountedTo all us c → left ≡ unit_bits us → c.matrices_place + left / 8 < 2199023255552
slices_room all us c left h is = omega (arith, h.short, h.place, is)

pub slices_on : (bits : ℕ) (old us : Units) (u : List ℕ) → SlicesFrom bits old → old ≡ u ∷ us → SlicesFrom bits us
slices_on bits old us u h is = (subst (SlicesFrom bits) is h).1

-- ---- where slices alone stand in a text

slices_behind : (text : List ℕ) (from bits : ℕ) (front : List ℕ) (us : Units) → OnlySlices from text → bits ≤ 8 * (length text - from) → text ≡ front ++ joined us → AreUnits us → SlicesFrom bits us
slices_behind text from bits front [] only le is are = tt
slices_behind text from bits front (u ∷ us) only le is are =
    let code = code_bytes u are.1 in
    let k = length front in
    let size : length text ≡ k + (length u + length (joined us)) = ap length is ∙ length-append front (u ++ joined us) ∙ ap (λ (n : ℕ). k + n) (length-append u (joined us)) in
    let here : drop k text ≡ u ++ joined us = ap (drop k) is ∙ drop-append-le k front (u ++ joined us) (omega arith) ∙ ap (λ (x : List ℕ). x ++ (u ++ joined us)) (drop_all k front (omega arith)) in
    let bytes : drop k text ≡ 0 ∷ 0 ∷ 1 ∷ code.value ∷ (code.rest ++ joined us) = here ∙ ap (λ (x : List ℕ). x ++ joined us) code.is in
    let begins : begins_code (drop k text) ≡ true = ap begins_code bytes in
    let value : get_or text (k + 3) 0 ≡ value_of u = sym (get_or-drop k text 3 0) ∙ ap (λ (l : List ℕ). get_or l 3 0) bytes ∙ sym (ap (λ (l : List ℕ). get_or l 3 0) code.is) in (
      λ few. subst (λ (v : ℕ). is_slice v ≡ true) value (only k (omega (arith, few, le, size, are.0, joined_bits us)) begins),
      slices_behind text from bits (front ++ u) us only le (is ∙ sym (append_assoc front u (joined us))) are.3,
    )

pub piece_slices : (p : Piece) → IsSoundPiece p → (from rest bits : ℕ) → OnlySlices from (whole_of p) → rest ≡ p.length - from → bits ≡ 8 * rest → SlicesFrom bits (units_of (whole_of p))
piece_slices p sound from rest bits only r b =
    let w = whole_of p in
    let cuts = cut_cuts w in
    slices_behind w from bits (cut 0 w).0 (cut 0 w).1 only (omega (arith, whole_length p sound, r, b)) cuts.whole cuts.are_units
