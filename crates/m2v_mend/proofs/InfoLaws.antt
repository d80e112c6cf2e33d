-- What a piece tells, unit by unit.
use Rattle.std.proofs.Common.{◌≡◌, ℕ, ◌+◌, ◌-◌, ◌*◌, ◌/◌, ◌<◌, ◌≤◌, Bool, true, false, List, [], ◌∷◌, ◌++◌, length, refl, sym, ap, subst, ◌∙◌, append-nil, arith}
use Rattle.std.specs.Prelude.{nat_eq, nat_le, ◌&&◌, ◌||◌, if◌then◌else◌, Option, Some, None}
use Rattle.std.proofs.lemmas.Bool.{le-leb, eq-eqb, ne_eqb}
use Rattle.std.proofs.lemmas.List.{length-append}
use Rattle.std.proofs.Math.Bool.{or-false, or_assoc}
use Rattle.m2v_model.specs.Units.{Units, joined, unit_bits, body}
use Rattle.m2v_model.specs.Looking.{number_from}
use Rattle.m2v_model.specs.Streams.{value_of}
use Rattle.m2v_model.proofs.CutLaws.{joined_bits}
use Rattle.m2v_model.specs.Pieces.{is_end}
use Rattle.m2v_law_group.specs.Groups.{is_picture, is_sequence, is_group, has_sequence, group_headers, is_number, coded_pictures, to_end}
use Rattle.m2v_law_seam.specs.Spans.{units_of, units_in, begins_kind, has_group, picture_count, number_or, is_kind, first_is, is_matrices, has_matrices}
use Rattle.m2v_law_seam.specs.Faults.{before_picture, before_matrices}
use Rattle.m2v_mend.specs.declared.info.Counted.{Counted}
use Rattle.m2v_mend.specs.Feeding.{from_end}
use Rattle.m2v_mend.specs.Telling.{first_kind, more_sequences, IsCounted, place_with, counted_with}

-- ---- what is counted

pub counted_none : Counted
counted_none = record { sequence = false; again = false; group = false; pictures = 0; matrices = false; matrices_place = 0 }

unfoldable pub counted_from : Counted → Units → Counted
counted_from c [] = c
counted_from c (u ∷ us) = counted_from (counted_with u c) us

sequence_from : (us : Units) (c : Counted) → (counted_from c us).sequence ≡ (c.sequence || has_sequence us)
unfolding counted_from has_sequence
sequence_from [] c = sym (or-false c.sequence)
sequence_from (u ∷ us) c = sequence_from us (counted_with u c) ∙ or_assoc c.sequence (is_sequence u) (has_sequence us)

again_from : (us : Units) (c : Counted) → (counted_from c us).again ≡ (c.again || more_sequences c.sequence us)
unfolding counted_from more_sequences
again_from [] c = sym (or-false c.again)
again_from (u ∷ us) c = again_from us (counted_with u c) ∙ or_assoc c.again (c.sequence && is_sequence u) (more_sequences (c.sequence || is_sequence u) us)

group_by : (b : Bool) (n : ℕ) → nat_le 1 ((if b then 1 else 0) + n) ≡ (b || nat_le 1 n)
group_by true n = le-leb 1 (1 + n) (omega arith)
group_by false n = let e : 0 + n ≡ n = omega arith in ap (λ (m : ℕ). nat_le 1 m) e

group_from : (us : Units) (c : Counted) → (counted_from c us).group ≡ (c.group || has_group us)
unfolding counted_from group_headers
group_from [] c = sym (or-false c.group)
group_from (u ∷ us) c = group_from us (counted_with u c) ∙ or_assoc c.group (is_group u) (has_group us) ∙ ap (λ (b : Bool). c.group || b) (sym (group_by (is_group u) (group_headers us)))

pictures_by : (b : Bool) (n m : ℕ) → (if b then n + 1 else n) + m ≡ n + ((if b then 1 else 0) + m)
pictures_by true n m = omega arith
pictures_by false n m = omega arith

pictures_from : (us : Units) (c : Counted) → (counted_from c us).pictures ≡ c.pictures + picture_count us
unfolding counted_from picture_count
pictures_from [] c = omega arith
pictures_from (u ∷ us) c = pictures_from us (counted_with u c) ∙ pictures_by (is_picture u) c.pictures (picture_count us)

matrices_from : (us : Units) (c : Counted) → (counted_from c us).matrices ≡ (c.matrices || has_matrices us)
unfolding counted_from has_matrices
matrices_from [] c = sym (or-false c.matrices)
matrices_from (u ∷ us) c = matrices_from us (counted_with u c) ∙ or_assoc c.matrices (is_matrices u) (has_matrices us)

place_on : (us : Units) (c : Counted) → c.matrices ≡ true → (counted_from c us).matrices_place ≡ c.matrices_place
unfolding counted_from
place_on [] c on = refl
place_on (u ∷ us) c on =
    let more : (c.matrices || is_matrices u) ≡ true = ap (λ (b : Bool). b || is_matrices u) on in
    place_on us (counted_with u c) more ∙ ap (λ (b : Bool). place_with b (length u) c.matrices_place) more

place_step : (u : List ℕ) (us : Units) (c : Counted) (b : Bool) → is_matrices u ≡ b → c.matrices ≡ false
    → ((d : Counted) → d.matrices ≡ false → (counted_from d us).matrices_place ≡ d.matrices_place + length (joined (before_matrices us)))
    → (counted_from (counted_with u c) us).matrices_place ≡ c.matrices_place + length (joined (if b then [] else u ∷ before_matrices us))
place_step u us c true e off ih =
    let more : (c.matrices || is_matrices u) ≡ true = ap (λ (x : Bool). x || is_matrices u) off ∙ e in
    place_on us (counted_with u c) more ∙ ap (λ (x : Bool). place_with x (length u) c.matrices_place) more ∙ omega arith
place_step u us c false e off ih =
    let none : (c.matrices || is_matrices u) ≡ false = ap (λ (x : Bool). x || is_matrices u) off ∙ e in
    let here : (counted_with u c).matrices_place ≡ c.matrices_place + length u = ap (λ (x : Bool). place_with x (length u) c.matrices_place) none in
    ih (counted_with u c) none ∙ omega (arith, here, length-append u (joined (before_matrices us)))

place_from : (us : Units) (c : Counted) → c.matrices ≡ false → (counted_from c us).matrices_place ≡ c.matrices_place + length (joined (before_matrices us))
unfolding counted_from before_matrices
place_from [] c off = omega arith
place_from (u ∷ us) c off = place_step u us c (is_matrices u) refl off (place_from us)

pub counted_is : (us : Units) → IsCounted us (counted_from counted_none us)
unfolding counted_none
counted_is us = record {
  sequence = sequence_from us counted_none;
  again = again_from us counted_none;
  group = group_from us counted_none;
  pictures = pictures_from us counted_none ∙ omega arith;
  matrices = matrices_from us counted_none;
  place = place_from us counted_none refl ∙ omega arith;
}

-- what is counted of those before, of all up to the first sequence end code
pub record CountedTo (all us : Units) (c : Counted) : Type 0 where
  pub going : counted_from counted_none (to_end all) ≡ counted_from c (to_end us)
  pub short : unit_bits all < 2 * 549755813888
  pub pictures : c.pictures + unit_bits us ≤ unit_bits all
  pub place : 8 * c.matrices_place + unit_bits us ≤ unit_bits all

pub counted_start : (us : Units) (c : Counted) → c ≡ record { sequence = false; again = false; group = false; pictures = 0; matrices = false; matrices_place = 0 } → unit_bits us < 1099511627776 → CountedTo us us c
unfolding counted_none
counted_start us c e lt = record {
  going = ap (λ (d : Counted). counted_from d (to_end us)) (sym e);
  short = omega (arith, lt);
  pictures = omega (arith, ap (λ (d : Counted). d.pictures) e);
  place = omega (arith, ap (λ (d : Counted). d.matrices_place) e);
}

more_pictures : (b : Bool) (n : ℕ) → (if b then n + 1 else n) ≤ n + 1
more_pictures true n = omega arith
more_pictures false n = omega arith

more_place : (b : Bool) (n k : ℕ) → (if b then k else k + n) ≤ k + n
more_place true n k = omega arith
more_place false n k = omega arith

going_on : (u : List ℕ) (us : Units) (c : Counted) → counted_from c (u ∷ us) ≡ counted_from (counted_with u c) us
unfolding counted_from
going_on u us c = refl

-- a unit that is no end code
to_more : (u : List ℕ) (us : Units) → is_end (value_of u) ≡ false → to_end (u ∷ us) ≡ u ∷ to_end us
unfolding to_end
to_more u us off = rw off refl

from_more : (u : List ℕ) (us : Units) → is_end (value_of u) ≡ false → from_end (u ∷ us) ≡ from_end us
unfolding from_end
from_more u us off = rw off refl

no_end : (u : List ℕ) {v : ℕ} → value_of u ≡ v → (v ≡ 0xB7 → ⊥) → is_end (value_of u) ≡ false
unfolding is_end
no_end u value off = ne_eqb (value_of u) 0xB7 (λ e. off (sym value ∙ e))

pub from_on : (all old us : Units) (u : List ℕ) {v : ℕ} → from_end all ≡ from_end old → old ≡ u ∷ us → value_of u ≡ v → (v ≡ 0xB7 → ⊥) → from_end all ≡ from_end us
from_on all old us u h is value off = h ∙ ap from_end is ∙ from_more u us (no_end u value off)

pub counted_more : (all old us : Units) (u : List ℕ) (c d : Counted) {v : ℕ} → CountedTo all old c → old ≡ u ∷ us → 4 ≤ length u → value_of u ≡ v → (v ≡ 0xB7 → ⊥) → d ≡ counted_with u c → CountedTo all us d
counted_more all old us u c d h is long value off e =
    let bits : unit_bits old ≡ 8 * length u + unit_bits us = ap unit_bits is in
    let p : d.pictures ≤ c.pictures + 1 = subst (λ (x : Counted). x.pictures ≤ c.pictures + 1) (sym e) (more_pictures (nat_eq (value_of u) 0x00) c.pictures) in
    let q : d.matrices_place ≤ c.matrices_place + length u = subst (λ (x : Counted). x.matrices_place ≤ c.matrices_place + length u) (sym e) (more_place (c.matrices || is_matrices u) (length u) c.matrices_place) in
    record {
      going = h.going ∙ ap (λ (l : Units). counted_from c (to_end l)) is ∙ ap (counted_from c) (to_more u us (no_end u value off)) ∙ going_on u (to_end us) c ∙ ap (λ (x : Counted). counted_from x (to_end us)) (sym e);
      short = h.short;
      pictures = omega (arith, h.pictures, bits, p, long);
      place = omega (arith, h.place, bits, q);
    }

ended : (c : Counted) → counted_from c [] ≡ c
unfolding counted_from
ended c = refl

counted_to : (all us : Units) (c : Counted) → CountedTo all us c → to_end us ≡ [] → IsCounted (to_end all) c
counted_to all us c h none = subst (IsCounted (to_end all)) (h.going ∙ ap (counted_from c) none ∙ ended c) (counted_is (to_end all))

to_none : to_end [] ≡ []
unfolding to_end
to_none = refl

to_here : (u : List ℕ) (us : Units) → is_end (value_of u) ≡ true → to_end (u ∷ us) ≡ []
unfolding to_end
to_here u us on = rw on refl

is_here : (u : List ℕ) {v : ℕ} → value_of u ≡ v → v ≡ 0xB7 → is_end (value_of u) ≡ true
unfolding is_end
is_here u value on = eq-eqb (value_of u) 0xB7 (value ∙ on)

-- no unit is left, or the first of them is an end code
pub counted_all : (all us : Units) (c : Counted) → CountedTo all us c → us ≡ [] → IsCounted (to_end all) c
counted_all all us c h none = counted_to all us c h (ap to_end none ∙ to_none)

pub counted_here : (all us rest : Units) (u : List ℕ) (c : Counted) {v : ℕ} → CountedTo all us c → us ≡ u ∷ rest → value_of u ≡ v → v ≡ 0xB7 → IsCounted (to_end all) c
counted_here all us rest u c h is value on = counted_to all us c h (ap to_end is ∙ to_here u rest (is_here u value on))

-- ---- the first picture

no_before : before_picture 0 [] ≡ []
unfolding before_picture
no_before = refl

pub picture_here : (u : List ℕ) (us : Units) → is_picture u ≡ true → before_picture 0 (u ∷ us) ≡ []
unfolding before_picture
picture_here u us on = rw on refl

pub before_none : (all us : Units) (total : ℕ) → total + unit_bits (before_picture 0 us) ≡ unit_bits (before_picture 0 all) + unit_bits us → us ≡ [] → total / 8 ≡ length (joined (before_picture 0 all))
before_none all us total e none =
    let x : unit_bits (before_picture 0 us) ≡ 0 = ap (λ (l : Units). unit_bits (before_picture 0 l)) none ∙ ap unit_bits no_before in
    omega (arith, e, x, ap unit_bits none, joined_bits (before_picture 0 all))

pub before_here : (all us rest : Units) (u : List ℕ) (total left : ℕ) {v : ℕ} → total + unit_bits (before_picture 0 us) ≡ unit_bits (before_picture 0 all) + unit_bits us → us ≡ u ∷ rest → value_of u ≡ v → v ≡ 0 → left ≡ unit_bits us → (total - left) / 8 ≡ length (joined (before_picture 0 all))
before_here all us rest u total left e is value none l =
    let x : unit_bits (before_picture 0 us) ≡ 0 = ap (λ (t : Units). unit_bits (before_picture 0 t)) is ∙ ap unit_bits (picture_here u rest (eq-eqb (value_of u) 0 (value ∙ none))) in
    omega (arith, e, x, l, joined_bits (before_picture 0 all))

-- ---- types of pictures

none_is : (k : ℕ) → 1 ≤ k → nat_eq 0 k ≡ false
none_is k le = ne_eqb 0 k (λ e. absurd (omega (arith, le, e)))

by_number : (k : ℕ) (n : Option ℕ) → 1 ≤ k → nat_eq (number_or 0 n) k ≡ is_number k n
by_number k None le = none_is k le
by_number k (Some m) le = refl

pub kind_is : (k : ℕ) (ps : List (List ℕ × List ℕ)) → 1 ≤ k → nat_eq (first_kind ps) k ≡ first_is (λ p. is_kind k p.0) ps
kind_is k [] le = none_is k le
kind_is k (p ∷ ps) le = by_number k (number_from 10 3 (body p.0)) le

first_step : (k : ℕ) (u : List ℕ) (us vs : Units) (b : Bool) → is_picture u ≡ b → 1 ≤ (if b then 1 else 0) + picture_count us
    → (1 ≤ picture_count us → first_is (λ p. is_kind k p.0) (coded_pictures (us ++ vs)) ≡ first_is (λ p. is_kind k p.0) (coded_pictures us))
    → first_is (λ p. is_kind k p.0) (coded_pictures (u ∷ (us ++ vs))) ≡ first_is (λ p. is_kind k p.0) (coded_pictures (u ∷ us))
unfolding coded_pictures
first_step k u us vs true e le ih = rw e refl
first_step k u us vs false e le ih = rw e (ih (omega (arith, le)))

first_behind : (k : ℕ) (us vs : Units) → 1 ≤ picture_count us → first_is (λ p. is_kind k p.0) (coded_pictures (us ++ vs)) ≡ first_is (λ p. is_kind k p.0) (coded_pictures us)
unfolding picture_count
first_behind k [] vs le = absurd (omega arith)
first_behind k (u ∷ us) vs le = first_step k u us vs (is_picture u) refl le (first_behind k us vs)

pub begins_alone : (k : ℕ) (p : List ℕ) → 1 ≤ k → nat_eq (first_kind (coded_pictures (units_of p))) k ≡ begins_kind k (p ∷ [])
unfolding units_in
begins_alone k p le = kind_is k (coded_pictures (units_of p)) le ∙ ap (λ (us : Units). first_is (λ x. is_kind k x.0) (coded_pictures us)) (sym (append-nil (units_of p)))

pub begins_first : (k : ℕ) (p : List ℕ) (ps : List (List ℕ)) → 1 ≤ k → 1 ≤ picture_count (units_of p) → nat_eq (first_kind (coded_pictures (units_of p))) k ≡ begins_kind k (p ∷ ps)
unfolding units_in
begins_first k p ps le some = kind_is k (coded_pictures (units_of p)) le ∙ sym (first_behind k (units_of p) (units_in ps) some)
