-- Copies of pieces that can be put behind a strand: their units, where they stand, and that they can be put there.
use Rattle.std.proofs.Common.{◌≡◌, ℕ, ◌+◌, ◌≤◌, Bool, true, false, List, [], ◌∷◌, ◌++◌, length, inl, inr, refl, sym, ap, subst, ◌∙◌, arith}
use Rattle.std.specs.Prelude.{All}
use Rattle.std.proofs.lemmas.Bool.{cases_Bool}
use Rattle.std.proofs.lemmas.List.{length-append, map-append}
use Rattle.std.proofs.lemmas.List.Elements.{All-head, All-tail}
use Rattle.m2v_model.specs.Units.{Units, joined, AreUnits}
use Rattle.m2v_model.proofs.ShiftLaws.{NoEnds}
use Rattle.m2v_law_group.specs.Groups.{is_sequence, has_sequence, from_sequence}
use Rattle.m2v_law_seam.specs.Spans.{units_of, units_in, picture_count, Span, end_of_span}
use Rattle.m2v_law_seam.specs.Seams.{lowered_unit, lowered, text_behind}
use Rattle.m2v_law_seam.specs.Strands.{has_end}
use Rattle.m2v_law_seam.specs.Reading.{BeginsOnePiece, BeginsSequence, IsPieceOfUnits, ArePieces, CanGoBehind}
use Rattle.m2v_law_seam.proofs.Edited.{lowered_keeps, mapped_go, mapped_count}
use Rattle.m2v_law_seam.proofs.Strand.{none_ends}
use Rattle.m2v_law_seam.proofs.Placing.{whole_bytes}
use Rattle.m2v_law_seam.proofs.Fronts.{none_end}
use Rattle.m2v_law_seam.proofs.Pictures.{lowered_are}
use Rattle.m2v_decode.specs.m2v_dec_piece.declared.answer.Piece.{Piece}
use Rattle.m2v_decode.specs.m2v_dec_piece.Sound.{IsSoundPiece}
use Rattle.m2v_decode.specs.Decoding.{whole_of}
use Rattle.m2v_decode.proofs.EndLaws.{whole_length}
use Rattle.m2v_mend.specs.Strand.{wholes_of, AreInTurn}
use Rattle.m2v_mend.specs.Members.{AreLater, AreSpanPieces}
use Rattle.m2v_mend.specs.Putting.{CanBePut}
use Rattle.m2v_mend.specs.Copying.{units_behind, HasUnits, HasHeader, AreCopies}
use Rattle.m2v_mend.proofs.EditLaws.{are_units}
use Rattle.m2v_mend.proofs.FrontLaws.{from_units, from_front}
use Rattle.m2v_mend.proofs.Standalone.{from_begins, sequence_one, sequence_front, begins_mapped, sequence_mapped}

-- ---- units from the first sequence header on

from_none : (us : Units) → NoEnds us → NoEnds (from_sequence us)
unfolding from_sequence
from_none [] n = tt
from_none (u ∷ us) n = elim (cases_Bool (is_sequence u)) [ inl on ↦ rw on n | inr off ↦ rw off (from_none us n.1) ]

from_count : (us : Units) → picture_count (from_sequence us) ≤ picture_count us
unfolding from_sequence picture_count
from_count [] = omega arith
from_count (u ∷ us) = elim (cases_Bool (is_sequence u)) [ inl on ↦ rw on (omega arith) | inr off ↦ let i = from_count us in rw off (omega (arith, i)) ]

-- ---- the units of a copy

behind_are : (begun : Bool) (us : Units) → AreUnits us → AreUnits (units_behind begun us)
behind_are true us are = are
behind_are false us are = from_units us are

behind_none : (begun : Bool) (us : Units) → NoEnds us → NoEnds (units_behind begun us)
behind_none true us n = n
behind_none false us n = from_none us n

behind_count : (begun : Bool) (us : Units) → picture_count (units_behind begun us) ≤ picture_count us
behind_count true us = omega arith
behind_count false us = from_count us

low_none : (low : ℕ) (us : Units) → AreUnits us → NoEnds us → has_end (lowered low us) ≡ false
low_none low us are n = none_end (lowered low us) (mapped_go (lowered_unit low) (lowered_keeps low) us are n)

-- ---- a copy is a piece

-- its first unit begins one
abbrev Begins : Bool → List ℕ → Type 0
Begins begun p = BeginsOnePiece (units_behind begun (units_of p))

copied_piece : (begun : Bool) (low : ℕ) (p q : Piece) → HasUnits (lowered low (units_behind begun (units_of (whole_of p)))) begun p q → Begins begun (whole_of p) → picture_count (units_of (whole_of p)) ≤ 1 → IsPieceOfUnits (whole_of q)
copied_piece begun low p q x begins one =
    let us = units_behind begun (units_of (whole_of p)) in
    let are = behind_are begun (units_of (whole_of p)) (are_units (whole_of p)) in
    let count : picture_count (units_of (whole_of q)) ≡ picture_count us = ap picture_count x.units ∙ mapped_count (lowered_unit low) (lowered_keeps low) us are in
    let fewer = behind_count begun (units_of (whole_of p)) in
    record {
      whole = ap joined x.units ∙ sym x.bytes;
      begins = subst BeginsOnePiece (sym x.units) (begins_mapped (lowered_unit low) (lowered_keeps low) us are begins);
      one = omega (arith, count, fewer, one);
    }

-- pieces can be copied: the first one has a sequence header where the strand has no byte
abbrev CanCopy : Bool → List Piece → Type 0
CanCopy begun [] = Unit {0}
CanCopy begun (p ∷ ps) = HasHeader begun p

can_later : (ps : List Piece) → CanCopy true ps
can_later [] = tt
can_later (p ∷ ps) = λ e. absurd cc

later_pieces : (low : ℕ) (ps qs : List Piece) → AreCopies true low ps qs → AreLater (wholes_of ps) → ArePieces (wholes_of qs)
later_pieces low [] [] c h = tt
later_pieces low [] (q ∷ qs) c h = absurd c
later_pieces low (p ∷ ps) [] c h = absurd c
later_pieces low (p ∷ ps) (q ∷ qs) c h = (copied_piece true low p q (c.0 (λ e. absurd cc)) (h.0).begins (h.0).one, later_pieces low ps qs c.1 h.2)

-- ---- the units of copies

behind_front : (begun : Bool) (us vs : Units) → (begun ≡ false → has_sequence us ≡ true) → units_behind begun (us ++ vs) ≡ units_behind begun us ++ vs
behind_front true us vs h = refl
behind_front false us vs h = from_front us vs (h refl)

later_units : (low : ℕ) (ps qs : List Piece) → AreCopies true low ps qs → units_in (wholes_of qs) ≡ lowered low (units_in (wholes_of ps))
unfolding units_in
later_units low [] [] c = refl
later_units low [] (q ∷ qs) c = absurd c
later_units low (p ∷ ps) [] c = absurd c
later_units low (p ∷ ps) (q ∷ qs) c =
    let us = units_of (whole_of p) in
    let x = c.0 (λ e. absurd cc) in
    ap (λ (l : Units). l ++ units_in (wholes_of qs)) x.units
    ∙ ap (λ (l : Units). lowered low us ++ l) (later_units low ps qs c.1)
    ∙ sym (map-append (lowered_unit low) us (units_in (wholes_of ps)))

copied_units : (begun : Bool) (low : ℕ) (ps qs : List Piece) → AreCopies begun low ps qs → CanCopy begun ps → units_in (wholes_of qs) ≡ lowered low (units_behind begun (units_in (wholes_of ps)))
unfolding units_in from_sequence
copied_units true low [] [] c h = refl
copied_units false low [] [] c h = refl
copied_units begun low [] (q ∷ qs) c h = absurd c
copied_units begun low (p ∷ ps) [] c h = absurd c
copied_units begun low (p ∷ ps) (q ∷ qs) c h =
    let us = units_of (whole_of p) in
    let vs = units_in (wholes_of ps) in
    let x = c.0 h in
    ap (λ (l : Units). l ++ units_in (wholes_of qs)) x.units
    ∙ ap (λ (l : Units). lowered low (units_behind begun us) ++ l) (later_units low ps qs c.1)
    ∙ sym (map-append (lowered_unit low) (units_behind begun us) vs)
    ∙ ap (lowered low) (sym (behind_front begun us vs h))

-- ---- where they stand

abbrev AreLong : List Piece → Type 0
AreLong [] = Unit {0}
AreLong (p ∷ ps) = (p.length ≡ length (whole_of p)) × AreLong ps

sound_long : (ps : List Piece) → All IsSoundPiece ps → AreLong ps
sound_long [] all = tt
sound_long (p ∷ ps) all = (sym (whole_length p (All-head IsSoundPiece p ps all)), sound_long ps (All-tail IsSoundPiece p ps all))

-- they follow each other, from a byte on, and end at a byte
record Turned (begun : Bool) (from end : ℕ) (qs : List Piece) : Type 0 where
  at : ℕ
  turn : AreInTurn at qs
  ends : end ≡ at + length (joined (wholes_of qs))
  same : begun ≡ true → at ≡ from

turned : (begun : Bool) (low from : ℕ) (ps qs : List Piece) → AreCopies begun low ps qs → CanCopy begun ps → AreInTurn from ps → AreLong ps → AreLong qs → Turned begun from (from + length (joined (wholes_of ps))) qs
turned begun low from [] [] c h t a b = record { at = from; turn = tt; ends = refl; same = λ e. refl }
turned begun low from [] (q ∷ qs) c h t a b = absurd c
turned begun low from (p ∷ ps) [] c h t a b = absurd c
turned begun low from (p ∷ ps) (q ∷ qs) c h t a b =
    let x = c.0 h in
    let i = turned true low (from + length (whole_of p)) ps qs c.1 (can_later ps) t.1 a.1 b.1 in
    let next : i.at ≡ q.place + length (whole_of q) = i.same refl ∙ omega (arith, x.end, t.0, a.0, b.0) in
    let ends = i.ends in
    let old = length-append (whole_of p) (joined (wholes_of ps)) in
    let new = length-append (whole_of q) (joined (wholes_of qs)) in
    record {
      at = q.place;
      turn = (refl, subst (λ (n : ℕ). AreInTurn n qs) next i.turn);
      ends = omega (arith, next, ends, old, new);
      same = λ e. x.place e ∙ t.0;
    }

-- ---- a span behind a strand

abbrev pub has_byte : List ℕ → Bool
has_byte [] = false
has_byte (b ∷ bytes) = true

-- the copies can go behind the bytes of a strand, of which they are the text, and they end where the span ends
pub record GoBehind (bytes : List ℕ) (low : ℕ) (s : Span) (qs : List Piece) : Type 0 where
  pub go : CanGoBehind bytes (wholes_of qs)
  pub text : joined (wholes_of qs) ≡ text_behind bytes low s.pieces
  pub at : ℕ
  pub turn : AreInTurn at qs
  pub ends : end_of_span s ≡ at + length (joined (wholes_of qs))

text_is : (bytes : List ℕ) (low : ℕ) (ps : List (List ℕ)) → text_behind bytes low ps ≡ joined (lowered low (units_behind (has_byte bytes) (units_in ps)))
unfolding text_behind
text_is [] low ps = refl
text_is (b ∷ bytes) low ps = refl

-- what a first piece needs
first_header : (bytes : List ℕ) (p : List ℕ) (ps : List (List ℕ)) → CanBePut bytes (p ∷ ps) → has_byte bytes ≡ false → has_sequence (units_of p) ≡ true
first_header [] p ps can e = can
first_header (b ∷ bytes) p ps can e = absurd cc

first_begins : (bytes : List ℕ) (p : List ℕ) (ps : List (List ℕ)) → CanBePut bytes (p ∷ ps) → BeginsOnePiece (units_behind (has_byte bytes) (units_of p))
first_begins [] p ps can = sequence_one (from_sequence (units_of p)) (from_begins (units_of p) can)
first_begins (b ∷ bytes) p ps can = can

first_sequence : (bytes : List ℕ) (p : List ℕ) (vs : Units) → has_byte bytes ≡ false → has_sequence (units_of p) ≡ true → BeginsSequence (units_behind (has_byte bytes) (units_of p ++ vs))
first_sequence [] p vs e h = subst BeginsSequence (sym (from_front (units_of p) vs h)) (sequence_front (from_sequence (units_of p)) vs (from_begins (units_of p) h))
first_sequence (b ∷ bytes) p vs e h = absurd cc

no_byte : (bytes : List ℕ) → bytes ≡ [] → has_byte bytes ≡ false
no_byte bytes e = ap has_byte e

pub copied_behind : (bytes : List ℕ) (low : ℕ) (s : Span) (begun : Bool) (ps qs : List Piece) → begun ≡ has_byte bytes → wholes_of ps ≡ s.pieces → AreSpanPieces s.pieces → CanBePut bytes s.pieces → AreCopies begun low ps qs → AreInTurn s.place ps → All IsSoundPiece ps → All IsSoundPiece qs
    → GoBehind bytes low s qs
unfolding units_in
copied_behind bytes low s begun [] qs eb is stretch can c turn sp sq = absurd (subst AreSpanPieces (sym is) stretch)
copied_behind bytes low s begun (p ∷ ps) [] eb is stretch can c turn sp sq = absurd c
copied_behind bytes low s begun (p ∷ ps) (q ∷ qs) eb is stretch can c turn sp sq =
    let own = has_byte bytes in
    let all = wholes_of (p ∷ ps) in
    let st = subst AreSpanPieces (sym is) stretch in
    let cb : CanBePut bytes all = subst (CanBePut bytes) (sym is) can in
    let cs : AreCopies own low (p ∷ ps) (q ∷ qs) = subst (λ (b : Bool). AreCopies b low (p ∷ ps) (q ∷ qs)) eb c in
    let header : HasHeader own p = first_header bytes (whole_of p) (wholes_of ps) cb in
    let us = units_in all in
    let mine = behind_are own us st.2 in
    let none = behind_none own us (none_ends us st.3) in
    let units : units_in (wholes_of (q ∷ qs)) ≡ lowered low (units_behind own us) = copied_units own low (p ∷ ps) (q ∷ qs) cs header in
    let pieces : ArePieces (wholes_of (q ∷ qs)) = (copied_piece own low p q (cs.0 header) (first_begins bytes (whole_of p) (wholes_of ps) cb) (st.0).one, later_pieces low ps qs cs.1 st.1) in
    let t = turned own low s.place (p ∷ ps) (q ∷ qs) cs header turn (sound_long (p ∷ ps) sp) (sound_long (q ∷ qs) sq) in
    record {
      go = record {
        pieces = pieces;
        some = omega arith;
        are = subst AreUnits (sym units) (lowered_are low (units_behind own us) mine);
        no_end = ap has_end units ∙ low_none low (units_behind own us) mine none;
        first = λ e.
            let off = no_byte bytes e in
            subst BeginsSequence (sym units) (sequence_mapped (lowered_unit low) (lowered_keeps low) (units_behind own us) mine (first_sequence bytes (whole_of p) (units_in (wholes_of ps)) off (header off)));
      };
      text = whole_bytes (wholes_of (q ∷ qs)) pieces ∙ ap joined units ∙ sym (text_is bytes low all) ∙ ap (text_behind bytes low) is;
      at = t.at;
      turn = t.turn;
      ends = ap (λ (l : List (List ℕ)). s.place + length (joined l)) (sym is) ∙ t.ends;
    }
