-- The pictures of the strands are those of the pieces that are kept.
use Rattle.std.proofs.Common.{◌≡◌, ℕ, ◌+◌, ◌≤◌, Bool, true, false, List, [], ◌∷◌, ◌++◌, length, map, take, drop, Option, Some, None, inl, inr, refl, sym, ap, subst, ◌∙◌, append_assoc, arith}
use Rattle.std.specs.Prelude.{nat_eq, is_some, ◌||◌, if◌then◌else◌}
use Rattle.std.proofs.lemmas.Bool.{cases_Bool, both_ways}
use Rattle.std.proofs.lemmas.List.{map-append, take-append-drop}
use Rattle.m2v_model.specs.Units.{Units, cut, joined, AreUnits}
use Rattle.m2v_model.proofs.CutLaws.{cut_units, are_before, are_behind, joined-append}
use Rattle.m2v_law_group.specs.Groups.{is_picture, is_sequence, has_sequence, from_sequence}
use Rattle.m2v_law_group.proofs.Lists.{or_parts}
use Rattle.m2v_law_seam.specs.Spans.{units_of, units_in, picture_count, field_of, Span}
use Rattle.m2v_law_seam.specs.Seams.{lowered_unit, lowered, marked_unit, first_reference, b_first, behind_b, without_leading_pieces, has_own_head, bytes_or_none, first_opened, later_opened, pieces_opened, opened}
use Rattle.m2v_law_seam.specs.Strands.{reads}
use Rattle.m2v_law_seam.specs.Faults.{has_head}
use Rattle.m2v_law_seam.proofs.Strand.{own_units}
use Rattle.m2v_law_seam.proofs.Chain.{reads_as}
use Rattle.m2v_law_seam.proofs.Pieced.{flat, Quiet, all_units, units_joined, plain_unit}
use Rattle.m2v_law_seam.proofs.Edited.{KeepsUnits, mapped_units, mapped_count, lowered_keeps, marked_keeps, behind_units, place_units, without_middle}
use Rattle.m2v_law_seam.proofs.Told.{count_append, units_append, b_parts}
use Rattle.m2v_law_seam.proofs.Tame.{HeadOf, Tame, sequence_append}

-- ---- from the first sequence header on

quiet_none : (us : Units) → Quiet true us → has_sequence us ≡ false
unfolding has_sequence
quiet_none [] q = refl
quiet_none (u ∷ us) q =
    let off = plain_unit u (q.0 refl) in
    rw (off.1) (quiet_none us q.1)

from_step : (u : List ℕ) (us f : Units) (s p : Bool) → is_sequence u ≡ s → is_picture u ≡ p → Quiet (false || p) us → has_sequence (u ∷ us) ≡ true → (Quiet false us → has_sequence us ≡ true → (from_sequence (us ++ f) ≡ from_sequence us ++ f) × (picture_count (from_sequence us) ≡ picture_count us))
    → (from_sequence (u ∷ (us ++ f)) ≡ from_sequence (u ∷ us) ++ f) × (picture_count (from_sequence (u ∷ us)) ≡ picture_count (u ∷ us))
unfolding from_sequence has_sequence picture_count
from_step u us f true p e ep q h ih = rw e (refl, refl)
from_step u us f false true e ep q h ih =
    let some : has_sequence us ≡ true = rw e at h in
    absurd (both_ways (has_sequence us) (quiet_none us q) some)
from_step u us f false false e ep q h ih =
    let some : has_sequence us ≡ true = rw e at h in
    let i = ih q some in
    rw (e, ep) (i.0, i.1 ∙ omega arith)

from_there : (us f : Units) → Quiet false us → has_sequence us ≡ true → (from_sequence (us ++ f) ≡ from_sequence us ++ f) × (picture_count (from_sequence us) ≡ picture_count us)
unfolding from_sequence has_sequence
from_there [] f q h = absurd cc
from_there (u ∷ us) f q h = from_step u us f (is_sequence u) (is_picture u) refl refl q.1 h (from_there us f)

pub none_from : (us : Units) → has_sequence us ≡ false → from_sequence us ≡ []
unfolding from_sequence has_sequence
none_from [] h = refl
none_from (u ∷ us) h = let p = or_parts (is_sequence u) (has_sequence us) h in rw (p.0) (none_from us p.1)

pub from_suffix : (us : Units) → (front : Units) × (us ≡ front ++ from_sequence us)
unfolding from_sequence
from_suffix [] = ([], refl)
from_suffix (u ∷ us) = elim (cases_Bool (is_sequence u)) [ inl on ↦ rw on ([], refl) | inr off ↦ let i = from_suffix us in rw off (u ∷ i.0, ap (λ (l : Units). u ∷ l) i.1) ]

-- ---- bytes that are units, with so many pictures

pub record HasPictures (bytes : List ℕ) (n : ℕ) : Type 0 where
  pub units : Units
  pub is : bytes ≡ joined units
  pub are : AreUnits units
  pub count : picture_count units ≡ n

pub pictures_are : (bytes : List ℕ) (n : ℕ) → HasPictures bytes n → picture_count (units_of bytes) ≡ n
pictures_are bytes n h = ap (λ (l : List ℕ). picture_count (cut 0 l).1) h.is ∙ ap picture_count (cut_units h.units h.are) ∙ h.count

pub lowered_are : (low : ℕ) (us : Units) → AreUnits us → AreUnits (lowered low us)
lowered_are low us are = mapped_units (lowered_unit low) (lowered_keeps low) us are

lowered_count : (low : ℕ) (us : Units) → AreUnits us → picture_count (lowered low us) ≡ picture_count us
lowered_count low us are = mapped_count (lowered_unit low) (lowered_keeps low) us are

-- ---- the first span of the opening strand

pub opening_pictures : (x f : Units) (low : ℕ) → AreUnits (x ++ f) → Quiet false x → has_sequence f ≡ false → reads (joined (lowered low (from_sequence (x ++ f)))) ≡ true → HasPictures (joined (lowered low (from_sequence (x ++ f)))) (picture_count (x ++ f))
opening_pictures x f low are quiet none read = elim (cases_Bool (has_sequence x)) [
  | inl on ↦
      let i = from_there x f quiet on in
      let s = from_suffix (x ++ f) in
      let own : AreUnits (from_sequence (x ++ f)) = are_behind s.0 (from_sequence (x ++ f)) (subst AreUnits s.1 are) in
      let c1 = ap picture_count i.0 in
      let c2 = count_append (from_sequence x) f in
      let c3 = count_append x f in
      let c4 = i.1 in
      record { units = lowered low (from_sequence (x ++ f)); is = refl; are = lowered_are low (from_sequence (x ++ f)) own; count = lowered_count low (from_sequence (x ++ f)) own ∙ omega (arith, c1, c2, c3, c4) }
  | inr off ↦
      let gone : from_sequence (x ++ f) ≡ [] = none_from (x ++ f) (sequence_append x f off none) in
      let wrong : reads [] ≡ true = subst (λ (l : Units). reads (joined (lowered low l)) ≡ true) gone read in
      absurd (nothing_reads wrong)
]
  where
    nothing_reads : reads [] ≡ true → ⊥
    nothing_reads e = absurd cc

-- ---- a span behind a strand

pub behind_pictures : (r : List ℕ) (v : List ℕ) (vs : Units) (low : ℕ) → reads r ≡ true → AreUnits (v ∷ vs) → HasPictures (r ++ joined (lowered low (v ∷ vs))) (picture_count (units_of r) + picture_count (v ∷ vs))
behind_pictures r v vs low read are =
    let x = (reads_as r read).units in
    let own = x.h ∷ x.pm in
    let new = lowered_are low (v ∷ vs) are in
    let mine = own_units r x in
    let a = count_append own (lowered low (v ∷ vs)) in
    let b = lowered_count low (v ∷ vs) are in
    let c = ap picture_count mine in
    record {
      units = own ++ lowered low (v ∷ vs);
      is = ap (λ (l : List ℕ). l ++ joined (lowered low (v ∷ vs))) x.whole ∙ sym (joined-append own (lowered low (v ∷ vs)));
      are = behind_units own (lowered_unit low v) (lowered low vs) x.ended new;
      count = omega (arith, a, b, c);
    }

-- ---- a span with which a strand begins

pub mapped_front : (f : List ℕ → List ℕ) → KeepsUnits f → (us vs : Units) → AreUnits (us ++ vs) → AreUnits (map f us ++ vs)
mapped_front f k [] vs are = are
mapped_front f k (u ∷ []) vs are = k.unit u vs are
mapped_front f k (u ∷ w ∷ us) vs are =
    let later = mapped_front f k (w ∷ us) vs are.3 in
    k.unit u (f w ∷ (map f us ++ vs)) (place_units (u ∷ []) w (us ++ vs) (f w) (map f us ++ vs) are later)

front_count : (f : List ℕ → List ℕ) → KeepsUnits f → (us vs : Units) → AreUnits (us ++ vs) → picture_count (map f us) ≡ picture_count us
front_count f k us vs are = mapped_count f k us (are_before us vs are)

-- units of which the first ones are marked and all are lowered
opened_units : (low : ℕ) (us vs : Units) → AreUnits (us ++ vs) → AreUnits (map marked_unit (lowered low us) ++ lowered low vs) × (picture_count (map marked_unit (lowered low us) ++ lowered low vs) ≡ picture_count us + picture_count vs)
opened_units low us vs are =
    let shape : lowered low (us ++ vs) ≡ lowered low us ++ lowered low vs = map-append (lowered_unit low) us vs in
    let all : AreUnits (lowered low us ++ lowered low vs) = subst AreUnits shape (lowered_are low (us ++ vs) are) in
    let a = count_append (map marked_unit (lowered low us)) (lowered low vs) in
    let b = front_count marked_unit marked_keeps (lowered low us) (lowered low vs) all in
    let c = lowered_count low us (are_before us vs are) in
    let d = lowered_count low vs (are_behind us vs are) in
    (mapped_front marked_unit marked_keeps (lowered low us) (lowered low vs) all, omega (arith, a, b, c, d))

later_bytes : (low : ℕ) (ps : List (List ℕ)) → joined (later_opened low ps) ≡ joined (lowered low (units_in ps))
unfolding units_in
later_bytes low [] = refl
later_bytes low (p ∷ ps) =
    ap (λ (l : List ℕ). joined (lowered low (units_of p)) ++ l) (later_bytes low ps)
    ∙ sym (joined-append (lowered low (units_of p)) (lowered low (units_in ps)))
    ∙ ap joined (sym (map-append (lowered_unit low) (units_of p) (units_in ps)))

-- pieces behind the first one, without the leading ones
abbrev pub behind_first : ℕ → List (List ℕ) → List (List ℕ)
behind_first n ps = take n ps ++ behind_b (drop n ps)

pub first_field : (p : List ℕ) (ps : List (List ℕ)) (b : Bool) → nat_eq (field_of p) 0 ≡ b → (n : ℕ) × (without_leading_pieces (p ∷ ps) ≡ p ∷ behind_first n ps)
first_field p ps true e = (0, rw e refl)
first_field p ps false e = (1, rw e refl)

-- the units of these are units behind others
rest_units : (n : ℕ) (x : Units) (ps : List (List ℕ)) → AreUnits (x ++ units_in ps) → AreUnits (x ++ units_in (behind_first n ps))
rest_units n x ps are =
    let rest = drop n ps in
    let a = units_in (take n ps) in
    let b = units_in (b_first rest) in
    let c = units_in (behind_b rest) in
    let whole : units_in ps ≡ a ++ (b ++ c) =
    ap units_in (sym (take-append-drop n ps)) ∙ units_append (take n ps) rest ∙ ap (λ (l : Units). a ++ l) (ap units_in (sym (b_parts rest)) ∙ units_append (b_first rest) (behind_b rest)) in
    let all : AreUnits ((x ++ a) ++ (b ++ c)) = subst AreUnits (ap (λ (l : Units). x ++ l) whole ∙ sym (append_assoc x a (b ++ c))) are in
    subst AreUnits (append_assoc x a c ∙ ap (λ (l : Units). x ++ l) (sym (units_append (take n ps) (behind_b rest)))) (without_middle (x ++ a) b c all)

first_of_units : (x : List ℕ) (ys us : Units) → (v : List ℕ) × (vs : Units) × ((ys ++ x ∷ us) ≡ v ∷ vs)
first_of_units x [] us = (x, us, refl)
first_of_units x (y ∷ ys) us = (y, ys ++ x ∷ us, refl)

-- the strand's bytes, by whether the first piece has a sequence header
own_opened : (low : ℕ) (head : Option (List ℕ)) (x : Units) (ps : List (List ℕ)) → AreUnits x → AreUnits (x ++ units_in ps) → Quiet false x → has_sequence x ≡ true → HasPictures (joined (pieces_opened low head (joined x ∷ ps))) (picture_count x + picture_count (units_in ps))
own_opened low head x ps ax are quiet on =
    let i = from_there x [] quiet on in
    let s = from_suffix x in
    let own : AreUnits (from_sequence x ++ units_in ps) = are_behind s.0 (from_sequence x ++ units_in ps) (subst AreUnits (ap (λ (l : Units). l ++ units_in ps) s.1 ∙ append_assoc s.0 (from_sequence x) (units_in ps)) are) in
    let o = opened_units low (from_sequence x) (units_in ps) own in
    let first : first_opened low head (joined x) ≡ joined (map marked_unit (lowered low (from_sequence x))) =
    ap (λ (l : Units). if has_sequence l then joined (map marked_unit (lowered low (from_sequence l))) else bytes_or_none head ++ joined (map marked_unit (lowered low l))) (cut_units x ax) ∙ rw on refl in
    let c1 = o.1 in
    let c2 = i.1 in
    record {
      units = map marked_unit (lowered low (from_sequence x)) ++ lowered low (units_in ps);
      is = ap (λ (l : List ℕ). l ++ joined (later_opened low ps)) first ∙ ap (λ (l : List ℕ). joined (map marked_unit (lowered low (from_sequence x))) ++ l) (later_bytes low ps)
          ∙ sym (joined-append (map marked_unit (lowered low (from_sequence x))) (lowered low (units_in ps)));
      are = o.0;
      count = omega (arith, c1, c2);
    }

copied_opened : (low : ℕ) (bytes : List ℕ) (v : List ℕ) (x : Units) (us : Units) (ps : List (List ℕ)) → HeadOf (Some bytes) ((v ∷ x) ++ us) → AreUnits (v ∷ x) → AreUnits ((v ∷ x) ++ units_in ps) → has_sequence (v ∷ x) ≡ false
    → HasPictures (joined (pieces_opened low (Some bytes) (joined (v ∷ x) ∷ ps))) (picture_count (v ∷ x) + picture_count (units_in ps))
copied_opened low bytes v x us ps h ax are off =
    let o = opened_units low (v ∷ x) (units_in ps) are in
    let front = map marked_unit (lowered low (v ∷ x)) in
    let new = front ++ lowered low (units_in ps) in
    let f = first_of_units v h.ys (x ++ us) in
    let all : AreUnits (h.hs ++ new) = place_units h.hs f.0 f.1 (marked_unit (lowered_unit low v)) (map marked_unit (lowered low x) ++ lowered low (units_in ps)) (subst (λ (l : Units). AreUnits (h.hs ++ l)) f.2 h.are) o.0 in
    let first : first_opened low (Some bytes) (joined (v ∷ x)) ≡ bytes ++ joined front =
    ap (λ (l : Units). if has_sequence l then joined (map marked_unit (lowered low (from_sequence l))) else bytes ++ joined (map marked_unit (lowered low l))) (cut_units (v ∷ x) ax) ∙ rw off refl in
    let c1 = count_append h.hs new in
    let c2 = o.1 in
    let c3 = h.none in
    record {
      units = h.hs ++ new;
      is = ap (λ (l : List ℕ). l ++ joined (later_opened low ps)) first ∙ append_assoc bytes (joined front) (joined (later_opened low ps))
          ∙ ap (λ (l : List ℕ). bytes ++ (joined front ++ l)) (later_bytes low ps) ∙ ap (λ (l : List ℕ). bytes ++ l) (sym (joined-append front (lowered low (units_in ps))))
          ∙ ap (λ (l : List ℕ). l ++ joined new) h.is ∙ sym (joined-append h.hs new);
      are = all;
      count = omega (arith, c1, c2, c3);
    }

by_head : (low : ℕ) (head : Option (List ℕ)) (x us : Units) (ps : List (List ℕ)) → HeadOf head (x ++ us) → 1 ≤ length x → AreUnits x → AreUnits (x ++ units_in ps) → Quiet false x → (has_sequence x || is_some head) ≡ true → HasPictures (joined (pieces_opened low head (joined x ∷ ps))) (picture_count x + picture_count (units_in ps))
by_head low head [] us ps h some ax are quiet there = absurd (omega (arith, some))
by_head low None (v ∷ x) us ps h some ax are quiet there = elim (cases_Bool (has_sequence (v ∷ x))) [
  | inl on ↦ own_opened low None (v ∷ x) ps ax are quiet on
  | inr off ↦ let wrong : false ≡ true = rw off at there in absurd cc
]
by_head low (Some bytes) (v ∷ x) us ps h some ax are quiet there = elim (cases_Bool (has_sequence (v ∷ x))) [
  | inl on ↦ own_opened low (Some bytes) (v ∷ x) ps ax are quiet on
  | inr off ↦ copied_opened low bytes v x us ps h ax are off
]

pub opened_pictures : (s : Span) → Tame s → has_head s ≡ true → HasPictures (opened s) (picture_count (units_in (without_leading_pieces s.pieces)))
unfolding units_in
opened_pictures s t there =
    let low = first_reference s.pieces in
    let p = joined t.x in
    let ps = map joined t.q in
    let f = first_field p ps (nat_eq (field_of p) 0) refl in
    let rest = behind_first f.0 ps in
    let each = all_units (t.x ∷ t.q) t.are in
    let flat_is : units_in ps ≡ flat t.q = units_joined t.q each.1 in
    let kept : without_leading_pieces s.pieces ≡ p ∷ rest = ap without_leading_pieces t.pieces ∙ f.1 in
    let are : AreUnits (t.x ++ units_in rest) = rest_units f.0 t.x ps (subst (λ (l : Units). AreUnits (t.x ++ l)) (sym flat_is) t.are) in
    let has : (has_sequence t.x || is_some s.head) ≡ true = subst (λ (l : Units). (has_sequence l || is_some s.head) ≡ true) (cut_units t.x each.0) (subst (λ (l : List (List ℕ)). (has_own_head l || is_some s.head) ≡ true) t.pieces there) in
    let o = by_head low s.head t.x (flat t.q) rest t.head t.some each.0 are t.quiet has in
    let bytes : opened s ≡ joined (pieces_opened low s.head (p ∷ rest)) = ap (λ (l : List (List ℕ)). joined (pieces_opened low s.head l)) kept in
    let count : picture_count (units_in (without_leading_pieces s.pieces)) ≡ picture_count t.x + picture_count (units_in rest) =
    ap (λ (l : List (List ℕ)). picture_count (units_in l)) kept ∙ count_append (units_of p) (units_in rest) ∙ ap (λ (l : Units). picture_count l + picture_count (units_in rest)) (cut_units t.x each.0) in
    record { units = o.units; is = bytes ∙ o.is; are = o.are; count = o.count ∙ sym count }
