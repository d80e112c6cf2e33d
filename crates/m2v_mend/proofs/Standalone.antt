-- The pieces with which a strand begins can be read from nothing on.
use Rattle.std.proofs.Common.{◌≡◌, ℕ, ◌≤◌, Bool, true, false, List, [], ◌∷◌, ◌++◌, map, take, drop, Option, Some, None, inl, inr, refl, sym, ap, subst, ◌∙◌, append_assoc, append-nil, arith}
use Rattle.std.specs.Prelude.{nat_eq, ◌||◌, is_some, if◌then◌else◌}
use Rattle.std.proofs.lemmas.Bool.{cases_Bool, eqb-true}
use Rattle.std.proofs.lemmas.List.{map-append, take-append-drop}
use Rattle.m2v_model.specs.Units.{Units, joined, AreUnits}
use Rattle.m2v_model.specs.Streams.{value_of}
use Rattle.m2v_model.specs.Pieces.{is_end, begins_piece}
use Rattle.m2v_model.proofs.CutLaws.{cut_units, joined-append, are_before, are_behind}
use Rattle.m2v_law_group.specs.Groups.{is_sequence, has_sequence, from_sequence}
use Rattle.m2v_law_seam.specs.Spans.{units_of, units_in, picture_count, field_of, Span}
use Rattle.m2v_law_seam.specs.Seams.{lowered, lowered_unit, marked_unit, b_first, behind_b, without_leading_pieces, first_reference, first_opened, later_opened, pieces_opened, opened_pieces, bytes_or_none, has_own_head}
use Rattle.m2v_law_seam.specs.Strands.{has_end}
use Rattle.m2v_law_seam.specs.Faults.{has_head}
use Rattle.m2v_law_seam.specs.Reading.{BeginsOnePiece, BeginsSequence, IsPieceOfUnits, ArePieces, CanGoBehind}
use Rattle.m2v_law_seam.proofs.Edited.{KeepsUnits, mapped_units, mapped_count, lowered_keeps, marked_keeps, place_units, without_middle}
use Rattle.m2v_law_seam.proofs.Told.{b_parts, units_append, count_append}
use Rattle.m2v_law_seam.proofs.ByUnits.{end_append, end_before}
use Rattle.m2v_law_seam.proofs.Pictures.{mapped_front, from_suffix, first_field, behind_first}
use Rattle.m2v_mend.specs.Members.{AreLater, AreSpanPieces, IsHeadBefore, HeadStands, IsOfStretch}
use Rattle.m2v_mend.proofs.EditLaws.{are_units}

-- ---- some of the units are changed

-- those in the middle
middle_mapped : (f : List ℕ → List ℕ) → KeepsUnits f → (us vs ws : Units) → AreUnits (us ++ (vs ++ ws)) → AreUnits (us ++ (map f vs ++ ws))
middle_mapped f k us [] ws are = are
middle_mapped f k us (v ∷ vs) ws are = place_units us v (vs ++ ws) (f v) (map f vs ++ ws) are (mapped_front f k (v ∷ vs) ws (are_behind us ((v ∷ vs) ++ ws) are))

-- the last ones
last_mapped : (f : List ℕ → List ℕ) → KeepsUnits f → (us vs : Units) → AreUnits (us ++ vs) → AreUnits (us ++ map f vs)
last_mapped f k us vs are = subst (λ (l : Units). AreUnits (us ++ l)) (append-nil (map f vs)) (middle_mapped f k us vs [] (subst (λ (l : Units). AreUnits (us ++ l)) (sym (append-nil vs)) are))

-- ---- no sequence end code

end_mapped : (f : List ℕ → List ℕ) → KeepsUnits f → (us : Units) → AreUnits us → has_end (map f us) ≡ has_end us
unfolding has_end
end_mapped f k [] are = refl
end_mapped f k (u ∷ us) are = ap (λ (n : ℕ). is_end n || has_end (map f us)) (k.value u are.0) ∙ ap (λ (b : Bool). is_end (value_of u) || b) (end_mapped f k us are.3)

-- ---- from the first sequence header on

pub from_begins : (us : Units) → has_sequence us ≡ true → BeginsSequence (from_sequence us)
unfolding has_sequence from_sequence
from_begins [] h = absurd cc
from_begins (u ∷ us) h = elim (cases_Bool (is_sequence u)) [ inl on ↦ rw on on | inr off ↦ rw off (from_begins us (rw off at h)) ]

-- ---- what can be said of the units of pieces

pub sequence_one : (us : Units) → BeginsSequence us → BeginsOnePiece us
unfolding begins_piece
sequence_one [] h = absurd h
sequence_one (u ∷ us) h = let value = eqb-true (value_of u) 0xB3 h in subst (λ (n : ℕ). begins_piece n ≡ true) (sym value) refl

pub begins_mapped : (f : List ℕ → List ℕ) → KeepsUnits f → (us : Units) → AreUnits us → BeginsOnePiece us → BeginsOnePiece (map f us)
begins_mapped f k [] are h = absurd h
begins_mapped f k (u ∷ us) are h = subst (λ (n : ℕ). begins_piece n ≡ true) (sym (k.value u are.0)) h

pub sequence_mapped : (f : List ℕ → List ℕ) → KeepsUnits f → (us : Units) → AreUnits us → BeginsSequence us → BeginsSequence (map f us)
sequence_mapped f k [] are h = absurd h
sequence_mapped f k (u ∷ us) are h = subst (λ (n : ℕ). nat_eq n 0xB3 ≡ true) (sym (k.value u are.0)) h

pub sequence_front : (us vs : Units) → BeginsSequence us → BeginsSequence (us ++ vs)
sequence_front [] vs h = absurd h
sequence_front (u ∷ us) vs h = h

-- ---- later pieces, lowered

lowered_piece : (low : ℕ) (p : List ℕ) → IsPieceOfUnits p → IsPieceOfUnits (joined (lowered low (units_of p)))
lowered_piece low p h =
    let us = units_of p in
    let are = are_units p in
    let k = lowered_keeps low in
    let same : units_of (joined (lowered low us)) ≡ lowered low us = cut_units (lowered low us) (mapped_units (lowered_unit low) k us are) in
    record {
      whole = ap joined same;
      begins = subst BeginsOnePiece (sym same) (begins_mapped (lowered_unit low) k us are h.begins);
      one = let n = ap picture_count same ∙ mapped_count (lowered_unit low) k us are in omega (arith, n, h.one);
    }

pub later_pieces : (low : ℕ) (ps : List (List ℕ)) → ArePieces ps → ArePieces (later_opened low ps)
later_pieces low [] a = tt
later_pieces low (p ∷ ps) a = (lowered_piece low p a.0, later_pieces low ps a.1)

pub later_units : (low : ℕ) (ps : List (List ℕ)) → units_in (later_opened low ps) ≡ lowered low (units_in ps)
unfolding units_in
later_units low [] = refl
later_units low (p ∷ ps) =
    let us = units_of p in
    let same : units_of (joined (lowered low us)) ≡ lowered low us = cut_units (lowered low us) (mapped_units (lowered_unit low) (lowered_keeps low) us (are_units p)) in
    ap (λ (l : Units). l ++ units_in (later_opened low ps)) same ∙ ap (λ (l : Units). lowered low us ++ l) (later_units low ps) ∙ sym (map-append (lowered_unit low) us (units_in ps))

pub are_later : (ps : List (List ℕ)) → AreLater ps → ArePieces ps
are_later [] a = tt
are_later (p ∷ ps) a = (a.0, are_later ps a.2)

pieces_append : (ps qs : List (List ℕ)) → ArePieces ps → ArePieces qs → ArePieces (ps ++ qs)
pieces_append [] qs a b = b
pieces_append (p ∷ ps) qs a b = (a.0, pieces_append ps qs a.1 b)

pub pieces_parts : (ps qs : List (List ℕ)) → ArePieces (ps ++ qs) → ArePieces ps × ArePieces qs
pieces_parts [] qs a = (tt, a)
pieces_parts (p ∷ ps) qs a = let i = pieces_parts ps qs a.1 in ((a.0, i.0), i.1)

-- ---- the units of a first piece

-- units of a head, of the first piece and of the later ones that can stand one behind another
record CanOpen (hs us vs : Units) : Type 0 where
  are : AreUnits (hs ++ (us ++ vs))
  begins : BeginsSequence (hs ++ us)
  one : picture_count (hs ++ us) ≤ 1
  no_end : has_end (hs ++ (us ++ vs)) ≡ false

-- what stands there then
record Opens (low : ℕ) (hs us vs : Units) : Type 0 where
  are : AreUnits (hs ++ (map marked_unit (lowered low us) ++ lowered low vs))
  first : AreUnits (hs ++ map marked_unit (lowered low us))
  begins : BeginsSequence (hs ++ map marked_unit (lowered low us))
  one : picture_count (hs ++ map marked_unit (lowered low us)) ≤ 1
  no_end : has_end (hs ++ (map marked_unit (lowered low us) ++ lowered low vs)) ≡ false

opens : (low : ℕ) (hs us vs : Units) → CanOpen hs us vs → Opens low hs us vs
opens low hs us vs h =
    let k = lowered_keeps low in
    let ls = lowered low us in
    let ms = map marked_unit ls in
    let ws = lowered low vs in
    let own = are_behind hs (us ++ vs) h.are in
    let us_are = are_before us vs own in
    let vs_are = are_behind us vs own in
    let hs_are = are_before hs (us ++ vs) h.are in
    let ls_are = mapped_units (lowered_unit low) k us us_are in
    let a1 : AreUnits (hs ++ (ls ++ ws)) = subst (λ (l : Units). AreUnits (hs ++ l)) (map-append (lowered_unit low) us vs) (last_mapped (lowered_unit low) k hs (us ++ vs) h.are) in
    let a2 : AreUnits (hs ++ (ms ++ ws)) = middle_mapped marked_unit marked_keeps hs ls ws a1 in
    let e = end_before hs (us ++ vs) h.no_end in
    let f = end_before us vs e.1 in
    let ends_ms : has_end ms ≡ false = end_mapped marked_unit marked_keeps ls ls_are ∙ end_mapped (lowered_unit low) k us us_are ∙ f.0 in
    let ends_ws : has_end ws ≡ false = end_mapped (lowered_unit low) k vs vs_are ∙ f.1 in
    let count : picture_count ms ≡ picture_count us = mapped_count marked_unit marked_keeps ls ls_are ∙ mapped_count (lowered_unit low) k us us_are in
    record {
      are = a2;
      first = are_before (hs ++ ms) ws (subst AreUnits (sym (append_assoc hs ms ws)) a2);
      begins = begins_by hs us_are ls_are h.begins;
      one = omega (arith, h.one, count, count_append hs us, count_append hs ms);
      no_end = end_append hs (ms ++ ws) e.0 (end_append ms ws ends_ms ends_ws);
    }
  where
    begins_by : (hs : Units) → AreUnits us → AreUnits (lowered low us) → BeginsSequence (hs ++ us) → BeginsSequence (hs ++ map marked_unit (lowered low us))
    begins_by [] us_are ls_are b = sequence_mapped marked_unit marked_keeps (lowered low us) ls_are (sequence_mapped (lowered_unit low) (lowered_keeps low) us us_are b)
    begins_by (x ∷ hs) us_are ls_are b = b

-- pieces of which the first one has these units
opened_go : (low : ℕ) (hs us : Units) (p : List ℕ) (ps : List (List ℕ)) → CanOpen hs us (units_in ps) → ArePieces ps → p ≡ joined hs ++ joined (map marked_unit (lowered low us)) → CanGoBehind [] (p ∷ later_opened low ps)
unfolding units_in
opened_go low hs us p ps h a is =
    let ms = map marked_unit (lowered low us) in
    let o = opens low hs us (units_in ps) h in
    let whole : p ≡ joined (hs ++ ms) = is ∙ sym (joined-append hs ms) in
    let units : units_of p ≡ hs ++ ms = ap units_of whole ∙ cut_units (hs ++ ms) o.first in
    let all : units_of p ++ units_in (later_opened low ps) ≡ hs ++ (ms ++ lowered low (units_in ps)) =
    ap (λ (l : Units). l ++ units_in (later_opened low ps)) units ∙ ap (λ (l : Units). (hs ++ ms) ++ l) (later_units low ps) ∙ append_assoc hs ms (lowered low (units_in ps)) in
    record {
      pieces = (
        record {
          whole = ap joined units ∙ sym whole;
          begins = subst BeginsOnePiece (sym units) (sequence_one (hs ++ ms) o.begins);
          one = let n = ap picture_count units in omega (arith, n, o.one);
        },
        later_pieces low ps a,
      );
      some = omega arith;
      are = subst AreUnits (sym all) o.are;
      no_end = ap has_end all ∙ o.no_end;
      first = λ none. sequence_front (units_of p) (units_in (later_opened low ps)) (subst BeginsSequence (sym units) o.begins);
    }

-- ---- of a span

-- the pieces that are kept behind the first one, among all
record KeptBehind (ps : List (List ℕ)) (kept : List (List ℕ)) : Type 0 where
  front : List (List ℕ)
  middle : List (List ℕ)
  last : List (List ℕ)
  all : ps ≡ front ++ (middle ++ last)
  are : kept ≡ front ++ last

kept_behind : (p : List ℕ) (ps : List (List ℕ)) → (kept : List (List ℕ)) × (without_leading_pieces (p ∷ ps) ≡ p ∷ kept) × KeptBehind ps kept
kept_behind p ps =
    let f = first_field p ps (nat_eq (field_of p) 0) refl in
    let k = f.0 in (
      behind_first k ps,
      f.1,
      record {
        front = take k ps;
        middle = b_first (drop k ps);
        last = behind_b (drop k ps);
        all = sym (take-append-drop k ps) ∙ ap (λ (l : List (List ℕ)). take k ps ++ l) (sym (b_parts (drop k ps)));
        are = refl;
      },
    )

-- without those that are left out
can_without : (hs us : Units) (ps kept : List (List ℕ)) → KeptBehind ps kept → CanOpen hs us (units_in ps) → CanOpen hs us (units_in kept)
can_without hs us ps kept x h =
    let a = units_in x.front in
    let b = units_in x.middle in
    let c = units_in x.last in
    let all : units_in ps ≡ a ++ (b ++ c) = ap units_in x.all ∙ units_append x.front (x.middle ++ x.last) ∙ ap (λ (l : Units). a ++ l) (units_append x.middle x.last) in
    let own : units_in kept ≡ a ++ c = ap units_in x.are ∙ units_append x.front x.last in
    let group : (zs : Units) → hs ++ (us ++ (a ++ zs)) ≡ (hs ++ (us ++ a)) ++ zs = λ zs.
    ap (λ (l : Units). hs ++ l) (sym (append_assoc us a zs)) ∙ sym (append_assoc hs (us ++ a) zs) in
    let are : AreUnits ((hs ++ (us ++ a)) ++ (b ++ c)) = subst AreUnits (ap (λ (l : Units). hs ++ (us ++ l)) all ∙ group (b ++ c)) h.are in
    let same : hs ++ (us ++ units_in kept) ≡ (hs ++ (us ++ a)) ++ c = ap (λ (l : Units). hs ++ (us ++ l)) own ∙ group c in
    let e = end_before (hs ++ (us ++ a)) (b ++ c) (ap has_end (sym (ap (λ (l : Units). hs ++ (us ++ l)) all ∙ group (b ++ c))) ∙ h.no_end) in
    record {
      are = subst AreUnits (sym same) (without_middle (hs ++ (us ++ a)) b c are);
      begins = h.begins;
      one = h.one;
      no_end = ap has_end same ∙ end_append (hs ++ (us ++ a)) c e.0 (end_before b c e.1).1;
    }

kept_are : (ps kept : List (List ℕ)) → KeptBehind ps kept → ArePieces ps → ArePieces kept
kept_are ps kept x a =
    let i = pieces_parts x.front (x.middle ++ x.last) (subst ArePieces x.all a) in
    let j = pieces_parts x.middle x.last i.1 in
    subst ArePieces (sym x.are) (pieces_append x.front x.last i.0 j.1)

-- with a sequence header of its own
own_open : (p : List ℕ) (ps : List (List ℕ)) → has_sequence (units_of p) ≡ true → AreSpanPieces (p ∷ ps) → CanOpen [] (from_sequence (units_of p)) (units_in ps)
unfolding units_in
own_open p ps on h =
    let us = units_of p in
    let x = from_suffix us in
    let whole : us ++ units_in ps ≡ x.0 ++ (from_sequence us ++ units_in ps) = ap (λ (l : Units). l ++ units_in ps) x.1 ∙ append_assoc x.0 (from_sequence us) (units_in ps) in
    let count = ap picture_count x.1 ∙ count_append x.0 (from_sequence us) in
    record {
      are = are_behind x.0 (from_sequence us ++ units_in ps) (subst AreUnits whole h.2);
      begins = from_begins us on;
      one = omega (arith, count, h.0.one);
      no_end = (end_before x.0 (from_sequence us ++ units_in ps) (ap has_end (sym whole) ∙ h.3)).1;
    }

-- behind a head
head_open : (p : List ℕ) (ps : List (List ℕ)) (head : List ℕ) → AreSpanPieces (p ∷ ps) → IsHeadBefore (units_in (p ∷ ps)) head → CanOpen (units_of head) (units_of p) (units_in ps)
unfolding units_in
head_open p ps head h b = record {
  are = b.are;
  begins = sequence_front (units_of head) (units_of p) b.begins;
  one = omega (arith, count_append (units_of head) (units_of p), b.none, h.0.one);
  no_end = end_append (units_of head) (units_in (p ∷ ps)) b.no_end h.3;
}

first_is : (low : ℕ) (head : Option (List ℕ)) (p : List ℕ) (b : Bool) → has_sequence (units_of p) ≡ b
    → first_opened low head p ≡ (if b then joined (map marked_unit (lowered low (from_sequence (units_of p)))) else bytes_or_none head ++ joined (map marked_unit (lowered low (units_of p))))
first_is low head p b e = rw e refl

go_first : (low : ℕ) (head : Option (List ℕ)) (p : List ℕ) (ps kept : List (List ℕ)) (b : Bool) → has_sequence (units_of p) ≡ b → AreSpanPieces (p ∷ ps) → HeadStands (units_in (p ∷ ps)) head → (b || is_some head) ≡ true → KeptBehind ps kept → CanGoBehind [] (first_opened low head p ∷ later_opened low kept)
go_first low head p ps kept true e h stands some k =
    opened_go low [] (from_sequence (units_of p)) (first_opened low head p) kept (can_without [] (from_sequence (units_of p)) ps kept k (own_open p ps e h)) (kept_are ps kept k (are_later ps h.1)) (first_is low head p true e)
go_first low None p ps kept false e h stands some k = absurd cc
go_first low (Some head) p ps kept false e h stands some k =
    opened_go low (units_of head) (units_of p) (first_opened low (Some head) p) kept (can_without (units_of head) (units_of p) ps kept k (head_open p ps head h stands)) (kept_are ps kept k (are_later ps h.1))
    (first_is low (Some head) p false e ∙ ap (λ (l : List ℕ). l ++ joined (map marked_unit (lowered low (units_of p)))) (sym stands.whole))

go_span : (low : ℕ) (head : Option (List ℕ)) (ps : List (List ℕ)) → AreSpanPieces ps → HeadStands (units_in ps) head → (has_own_head ps || is_some head) ≡ true → CanGoBehind [] (pieces_opened low head (without_leading_pieces ps))
go_span low head [] h stands some = absurd h
go_span low head (p ∷ ps) h stands some =
    let x = kept_behind p ps in
    subst (λ (l : List (List ℕ)). CanGoBehind [] (pieces_opened low head l)) (sym x.1) (go_first low head p ps x.0 (has_sequence (units_of p)) refl h stands some x.2)

pub can_open : (s : Span) → IsOfStretch s → has_head s ≡ true → CanGoBehind [] (opened_pieces s)
can_open s h some = go_span (first_reference s.pieces) s.head s.pieces h.pieces h.head some
