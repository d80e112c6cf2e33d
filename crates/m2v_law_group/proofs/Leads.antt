-- What the parts of a run are, by the units that were read.
use Rattle.std.proofs.Common.{◌≡◌, ℕ, ◌+◌, Bool, true, false, List, [], ◌∷◌, ◌++◌, Option, Some, ◌⊎◌, inl, inr, refl, sym, ap, subst, ◌∙◌, arith}
use Rattle.std.specs.Prelude.{nat_eq, ◌&&◌, ◌||◌}
use Rattle.std.proofs.lemmas.Bool.{both_ways, eqb-true}
use Rattle.m2v_bits.proofs.SyntaxLaws.{good}
use Rattle.m2v_model.specs.m2v_macroblock.m2v_head.declared.picture.PictureExtension.{PictureExtension}
use Rattle.m2v_model.specs.declared.state.State.{State}
use Rattle.m2v_model.specs.Units.{Units, body}
use Rattle.m2v_model.specs.Looking.{number_from}
use Rattle.m2v_model.specs.States.{is_frame}
use Rattle.m2v_model.specs.Streams.{Part, sequence, group, picture, after, value_of}
use Rattle.m2v_model.specs.ByPieces.{unit_read}
use Rattle.m2v_model.proofs.SplitLaws.{IsKnown, known_after, IsOther, other_by}
use Rattle.m2v_law_group.specs.Groups.{is_picture, is_sequence, is_group, has_picture, has_sequence, group_headers, before_group, is_number, is_intra, is_coding_extension, structure_of, next_unit, coded_pictures, is_intra_of, begins_with, begins_intra}
use Rattle.m2v_law_group.proofs.Runs.{Run, stop, step, none_ends}
use Rattle.m2v_law_group.proofs.Parts.{PartOf, of_sequence, of_group, of_picture, of_other, part_of}
use Rattle.m2v_law_group.proofs.Lists.{or_parts, and_parts}

-- ---- the first frame

-- the units' first frame is I, and no group header stands before its end
abbrev pub LeadUnits : Bool → Units → Type 0
LeadUnits second [] = Unit {0}
LeadUnits second (u ∷ us) =
    (is_group u ≡ true → ⊥)
    × (is_picture u ≡ true → (is_intra u ≡ true) × (second ≡ false → (is_number 3 (structure_of (next_unit us)) ≡ true) ⊎ LeadUnits true us))
    × (is_picture u ≡ false → LeadUnits second us)

-- and of fewer units
next_front : (us vs : Units) → (is_number 3 (structure_of (next_unit (us ++ vs))) ≡ true) ⊎ LeadUnits true us → (is_number 3 (structure_of (next_unit us)) ≡ true) ⊎ LeadUnits true us
next_front [] vs h = inr tt
next_front (u ∷ us) vs h = h

pub lead_front : (second : Bool) (us vs : Units) → LeadUnits second (us ++ vs) → LeadUnits second us
lead_front second [] vs h = tt
lead_front second (u ∷ us) vs h = (
  h.0,
  λ on. ((h.1 on).0, λ off. next_front us vs (elim ((h.1 on).1 off) [ inl x ↦ inl x | inr x ↦ inr (lead_front true us vs x) ])),
  λ off. lead_front second us vs (h.2 off),
)

second_step : (structure : ℕ) (u : List ℕ) (us : Units) (g p : Bool) → is_group u ≡ g → is_picture u ≡ p → (begins_with structure (coded_pictures (before_group 0 us)) ≡ true → LeadUnits true us)
    → begins_with structure (coded_pictures (before_group 0 (u ∷ us))) ≡ true → LeadUnits true (u ∷ us)
unfolding before_group coded_pictures
second_step structure u us true p eg ep ih h = let wrong : false ≡ true = sym (rw eg refl) ∙ h in absurd cc
second_step structure u us false true eg ep ih h =
    let own : is_intra_of structure (u, next_unit (before_group 0 us)) ≡ true = sym (rw (eg, ep) refl) ∙ h in
    (λ on. absurd (both_ways _ eg on), λ on. ((and_parts _ _ own).0, λ off. absurd cc), λ off. absurd (both_ways _ off ep))
second_step structure u us false false eg ep ih h =
    let own : begins_with structure (coded_pictures (before_group 0 us)) ≡ true = sym (rw (eg, ep) refl) ∙ h in
    (λ on. absurd (both_ways _ eg on), λ on. absurd (both_ways _ ep on), λ off. ih own)

lead_second : (structure : ℕ) (us : Units) → begins_with structure (coded_pictures (before_group 0 us)) ≡ true → LeadUnits true us
unfolding before_group coded_pictures
lead_second structure [] h = tt
lead_second structure (u ∷ us) h = second_step structure u us (is_group u) (is_picture u) refl refl (lead_second structure us) h

-- the unit behind a picture unit is looked at, where it isn't a group header
next_step : (v : List ℕ) (us : Units) (g : Bool) → is_group v ≡ g → is_coding_extension (next_unit (before_group 0 (v ∷ us))) ≡ true → next_unit (before_group 0 (v ∷ us)) ≡ v
unfolding before_group
next_step v us true e h = let wrong : is_coding_extension [] ≡ true = sym (rw e refl) ∙ h in absurd cc
next_step v us false e h = rw e refl

next_same : (us : Units) → is_coding_extension (next_unit (before_group 0 us)) ≡ true → next_unit (before_group 0 us) ≡ next_unit us
unfolding before_group
next_same [] h = refl
next_same (v ∷ us) h = next_step v us (is_group v) refl h

either : (a b : Bool) → (a || b) ≡ true → (a ≡ true) ⊎ (b ≡ true)
either true b h = inl refl
either false b h = inr h

frame_lead : (u : List ℕ) (us : Units) → is_intra_of 3 (u, next_unit (before_group 0 us)) ≡ true → (is_intra u ≡ true) × (is_number 3 (structure_of (next_unit us)) ≡ true)
frame_lead u us h =
    let a = and_parts _ _ h in
    let b = and_parts _ _ a.1 in
    (a.0, subst (λ (v : List ℕ). is_number 3 (structure_of v) ≡ true) (next_same us b.0) b.1)

fields_lead : (a b : ℕ) (u : List ℕ) (us : Units) → (is_intra_of a (u, next_unit (before_group 0 us)) && begins_with b (coded_pictures (before_group 0 us))) ≡ true → (is_intra u ≡ true) × LeadUnits true us
fields_lead a b u us h =
    let x = and_parts _ _ h in
    ((and_parts _ _ x.0).0, lead_second b us x.1)

first_lead : (u : List ℕ) (us : Units) → begins_intra ((u, next_unit (before_group 0 us)) ∷ coded_pictures (before_group 0 us)) ≡ true → (is_intra u ≡ true) × ((is_number 3 (structure_of (next_unit us)) ≡ true) ⊎ LeadUnits true us)
unfolding begins_intra
first_lead u us h = elim (either _ _ h) [
  | inl x ↦ let f = frame_lead u us x in (f.0, inl f.1)
  | inr y ↦ elim (either _ _ y) [ inl x ↦ let f = fields_lead 1 2 u us x in (f.0, inr f.1) | inr x ↦ let f = fields_lead 2 1 u us x in (f.0, inr f.1) ]
]

pub none_begins : begins_intra [] ≡ true → ⊥
unfolding begins_intra
none_begins e = absurd cc

intra_step : (u : List ℕ) (us : Units) (g p : Bool) → is_group u ≡ g → is_picture u ≡ p → (begins_intra (coded_pictures (before_group 0 us)) ≡ true → LeadUnits false us) → begins_intra (coded_pictures (before_group 0 (u ∷ us))) ≡ true → LeadUnits false (u ∷ us)
unfolding before_group coded_pictures
intra_step u us true p eg ep ih h = let wrong : begins_intra [] ≡ true = sym (rw eg refl) ∙ h in absurd (none_begins wrong)
intra_step u us false true eg ep ih h =
    let own : begins_intra ((u, next_unit (before_group 0 us)) ∷ coded_pictures (before_group 0 us)) ≡ true = sym (rw (eg, ep) refl) ∙ h in
    let f = first_lead u us own in
    (λ on. absurd (both_ways _ eg on), λ on. (f.0, λ off. f.1), λ off. absurd (both_ways _ off ep))
intra_step u us false false eg ep ih h =
    let own : begins_intra (coded_pictures (before_group 0 us)) ≡ true = sym (rw (eg, ep) refl) ∙ h in
    (λ on. absurd (both_ways _ eg on), λ on. absurd (both_ways _ ep on), λ off. ih own)

pub lead_units : (us : Units) → begins_intra (coded_pictures (before_group 0 us)) ≡ true → LeadUnits false us
unfolding before_group coded_pictures
lead_units [] h = tt
lead_units (u ∷ us) h = intra_step u us (is_group u) (is_picture u) refl refl (lead_units us) h

-- ---- the same of parts

-- the parts' first frame is I, and no group header stands before its end
abbrev pub Leads : Bool → List Part → Type 0
Leads second [] = Unit {0}
Leads second (group g ∷ ps) = ⊥
Leads second (picture info extension ∷ ps) = (info.kind ≡ 1) × (second ≡ false → is_frame extension ≡ false → Leads true ps)
Leads second (_ ∷ ps) = Leads second ps

other_leads : (second : Bool) (p : Part) (ps : List Part) → IsOther p → Leads second ps → Leads second (p ∷ ps)
other_leads second p ps o h = other_by (λ q. Leads second (q ∷ ps)) (λ m. h) (λ row x. h) (λ row u. h) (λ u. h) p o

-- values that differ
no_picture_by : (value n : ℕ) → nat_eq value n ≡ true → nat_eq n 0x00 ≡ false → nat_eq value 0x00 ≡ false
no_picture_by value n e off = ap (λ (x : ℕ). nat_eq x 0x00) (eqb-true value n e) ∙ off

number_told : (n m : ℕ) (o : Option ℕ) → o ≡ Some m → is_number n o ≡ true → nat_eq m n ≡ true
number_told n m o e h = subst (λ (x : Option ℕ). is_number n x ≡ true) e h

pub leads_step : (second : Bool) (u : List ℕ) (us mid : Units) (p : Part) (ps : List Part) → PartOf u us p mid → LeadUnits second (u ∷ us) → ((s : Bool) → LeadUnits s mid → Leads s ps) → Leads second (p ∷ ps)
leads_step second u us mid p ps (of_sequence v on e value) h ih =
    let behind : LeadUnits second (v ∷ mid) = subst (LeadUnits second) e (h.2 (no_picture_by (value_of u) 0xB3 on refl)) in
    ih second (behind.2 (no_picture_by (value_of v) 0xB5 value refl))
leads_step second u us mid p ps (of_group end on stands e) h ih = absurd (h.0 on)
leads_step second u us mid p ps (of_picture {extension = extension} v on e value kind structure) h ih =
    let x = h.1 on in
    (eqb-true _ 1 (number_told 1 _ _ kind x.0), λ one field. picture_leads second v us mid ps extension e value structure (x.1 one) field ih)
  where
    picture_leads : (second : Bool) (v : List ℕ) (us mid : Units) (ps : List Part) (extension : PictureExtension) → us ≡ v ∷ mid → nat_eq (value_of v) 0xB5 ≡ true → number_from 22 2 (body v) ≡ Some extension.structure
        → (is_number 3 (structure_of (next_unit us)) ≡ true) ⊎ LeadUnits true us → is_frame extension ≡ false → ((s : Bool) → LeadUnits s mid → Leads s ps) → Leads true ps
    picture_leads second v us mid ps extension e value structure (inl frame) field ih =
        let three = number_told 3 extension.structure (structure_of v) structure (subst (λ (l : Units). is_number 3 (structure_of (next_unit l)) ≡ true) e frame) in
        absurd (both_ways _ field three)
    picture_leads second v us mid ps extension e value structure (inr later) field ih =
        let behind : LeadUnits true (v ∷ mid) = subst (LeadUnits true) e later in
        ih true (behind.2 (no_picture_by (value_of v) 0xB5 value refl))
leads_step second u us mid p ps (of_other a b c o e) h ih = other_leads second p ps o (ih second (subst (LeadUnits second) (sym e) (h.2 c)))

none_more : (st : State) (p : Part) (mid : Units) → unit_read st [] ≡ good ((true, p), mid) → ⊥
none_more st p mid e = let wrong = none_ends st (true, p) mid e in absurd cc

-- by the units, where a sequence header is in force
pub leads_of : {st z : State} {us rest : Units} {ps : List Part} → Run st us ps z rest → IsKnown st → (second : Bool) → LeadUnits second us → Leads second ps
leads_of stop k second h = tt
leads_of {st} {us = []} (step e r) k second h = absurd (none_more st _ _ e)
leads_of {st} {us = u ∷ us} (step {mid = mid} {p = p} {ps = ps} e r) k second h =
    leads_step second u us mid p ps (part_of st u us mid p (inl k) e) h (λ s l. leads_of r (known_after st p k) s l)

-- what no unit has, no part has, if it is so of each
none_along : {st z : State} {us rest : Units} {ps : List Part} (has : Units → Bool) (Lacks : List Part → Type 0) → Lacks []
    → ((u : List ℕ) (us mid : Units) (p : Part) (ps : List Part) → PartOf u us p mid → has (u ∷ us) ≡ false → (has mid ≡ false → Lacks ps) → Lacks (p ∷ ps))
    → Run st us ps z rest → IsKnown st → has us ≡ false → Lacks ps
none_along has Lacks none each stop k h = none
none_along {st} {us = []} has Lacks none each (step e r) k h = absurd (none_more st _ _ e)
none_along {st} {us = u ∷ us} has Lacks none each (step {mid = mid} {p = p} {ps = ps} e r) k h =
    each u us mid p ps (part_of st u us mid p (inl k) e) h (λ l. none_along has Lacks none each r (known_after st p k) l)

-- ---- no pictures

abbrev pub NoPictures : List Part → Type 0
NoPictures [] = Unit {0}
NoPictures (picture info extension ∷ ps) = ⊥
NoPictures (_ ∷ ps) = NoPictures ps

other_pictures : (p : Part) (ps : List Part) → IsOther p → NoPictures ps → NoPictures (p ∷ ps)
other_pictures p ps o h = other_by (λ q. NoPictures (q ∷ ps)) (λ m. h) (λ row x. h) (λ row u. h) (λ u. h) p o

pub pictures_step : (u : List ℕ) (us mid : Units) (p : Part) (ps : List Part) → PartOf u us p mid → has_picture (u ∷ us) ≡ false → (has_picture mid ≡ false → NoPictures ps) → NoPictures (p ∷ ps)
unfolding has_picture
pictures_step u us mid p ps (of_sequence v on e value) h ih =
    let behind : has_picture (v ∷ mid) ≡ false = ap has_picture (sym e) ∙ (or_parts (is_picture u) (has_picture us) h).1 in
    ih (or_parts (is_picture v) (has_picture mid) behind).1
pictures_step u us mid p ps (of_group end on stands e) h ih = ih (ap has_picture e ∙ (or_parts (is_picture u) (has_picture us) h).1)
pictures_step u us mid p ps (of_picture v on e value kind structure) h ih = absurd (both_ways _ (or_parts (is_picture u) (has_picture us) h).0 on)
pictures_step u us mid p ps (of_other a b c o e) h ih = other_pictures p ps o (ih (ap has_picture e ∙ (or_parts (is_picture u) (has_picture us) h).1))

pub no_pictures : {st z : State} {us rest : Units} {ps : List Part} → Run st us ps z rest → IsKnown st → has_picture us ≡ false → NoPictures ps
no_pictures r k h = none_along has_picture NoPictures tt pictures_step r k h

-- ---- no sequence headers

abbrev pub NoSequences : List Part → Type 0
NoSequences [] = Unit {0}
NoSequences (sequence s ∷ ps) = ⊥
NoSequences (_ ∷ ps) = NoSequences ps

other_sequences : (p : Part) (ps : List Part) → IsOther p → NoSequences ps → NoSequences (p ∷ ps)
other_sequences p ps o h = other_by (λ q. NoSequences (q ∷ ps)) (λ m. h) (λ row x. h) (λ row u. h) (λ u. h) p o

sequences_step : (u : List ℕ) (us mid : Units) (p : Part) (ps : List Part) → PartOf u us p mid → has_sequence (u ∷ us) ≡ false → (has_sequence mid ≡ false → NoSequences ps) → NoSequences (p ∷ ps)
unfolding has_sequence
sequences_step u us mid p ps (of_sequence v on e value) h ih = absurd (both_ways _ (or_parts (is_sequence u) (has_sequence us) h).0 on)
sequences_step u us mid p ps (of_group end on stands e) h ih = ih (ap has_sequence e ∙ (or_parts (is_sequence u) (has_sequence us) h).1)
sequences_step u us mid p ps (of_picture v on e value kind structure) h ih =
    let behind : has_sequence (v ∷ mid) ≡ false = ap has_sequence (sym e) ∙ (or_parts (is_sequence u) (has_sequence us) h).1 in
    ih (or_parts (is_sequence v) (has_sequence mid) behind).1
sequences_step u us mid p ps (of_other a b c o e) h ih = other_sequences p ps o (ih (ap has_sequence e ∙ (or_parts (is_sequence u) (has_sequence us) h).1))

pub no_sequences : {st z : State} {us rest : Units} {ps : List Part} → Run st us ps z rest → IsKnown st → has_sequence us ≡ false → NoSequences ps
no_sequences r k h = none_along has_sequence NoSequences tt sequences_step r k h

-- ---- what is known

-- the first unit is a sequence header
abbrev pub is_first_sequence : Units → Bool
is_first_sequence [] = false
is_first_sequence (u ∷ us) = is_sequence u

known_sequence : (st : State) (u : List ℕ) (us mid : Units) (p : Part) → is_sequence u ≡ true → PartOf u us p mid → IsKnown (after st p)
unfolding after
known_sequence st u us mid p on (of_sequence v k e value) = refl
known_sequence st u us mid p on (of_group end k stands e) = absurd (both_ways _ (other_by (value_of u) 0xB8 k refl) on)
  where
    other_by : (value n : ℕ) → nat_eq value n ≡ true → nat_eq n 0xB3 ≡ false → nat_eq value 0xB3 ≡ false
    other_by value n e off = ap (λ (x : ℕ). nat_eq x 0xB3) (eqb-true value n e) ∙ off
known_sequence st u us mid p on (of_picture v k e value kind structure) = absurd (both_ways _ (other_by (value_of u) 0x00 k refl) on)
  where
    other_by : (value n : ℕ) → nat_eq value n ≡ true → nat_eq n 0xB3 ≡ false → nat_eq value 0xB3 ≡ false
    other_by value n e off = ap (λ (x : ℕ). nat_eq x 0xB3) (eqb-true value n e) ∙ off
known_sequence st u us mid p on (of_other a b c o e) = absurd (both_ways _ a on)

known_by : (st : State) (u : List ℕ) (us mid : Units) (p : Part) → (IsKnown st) ⊎ (is_sequence u ≡ true) → PartOf u us p mid → IsKnown (after st p)
known_by st u us mid p (inl k) part = known_after st p k
known_by st u us mid p (inr on) part = known_sequence st u us mid p on part

-- ---- how many group headers

abbrev pub groups_of : List Part → ℕ
groups_of [] = 0
groups_of (group g ∷ ps) = 1 + groups_of ps
groups_of (_ ∷ ps) = groups_of ps

other_groups : (p : Part) (ps : List Part) → IsOther p → groups_of (p ∷ ps) ≡ groups_of ps
other_groups p ps o = other_by (λ q. groups_of (q ∷ ps) ≡ groups_of ps) (λ m. refl) (λ row x. refl) (λ row u. refl) (λ u. refl) p o

no_group_by : (value n : ℕ) → nat_eq value n ≡ true → nat_eq n 0xB8 ≡ false → nat_eq value 0xB8 ≡ false
no_group_by value n e off = ap (λ (x : ℕ). nat_eq x 0xB8) (eqb-true value n e) ∙ off

header_no : (u : List ℕ) (us : Units) → is_group u ≡ false → group_headers (u ∷ us) ≡ group_headers us
unfolding group_headers
header_no u us e = rw e (omega arith)

header_one : (u : List ℕ) (us : Units) → is_group u ≡ true → group_headers (u ∷ us) ≡ 1 + group_headers us
unfolding group_headers
header_one u us e = rw e refl

groups_step : (u : List ℕ) (us mid : Units) (p : Part) (ps : List Part) (n : ℕ) → PartOf u us p mid → group_headers mid ≡ groups_of ps + n → group_headers (u ∷ us) ≡ groups_of (p ∷ ps) + n
groups_step u us mid p ps n (of_sequence v on e value) ih =
    header_no u us (no_group_by (value_of u) 0xB3 on refl) ∙ ap group_headers e ∙ header_no v mid (no_group_by (value_of v) 0xB5 value refl) ∙ ih
groups_step u us mid p ps n (of_group end on stands e) ih = let one = header_one u us on ∙ ap (λ (l : Units). 1 + group_headers l) (sym e) in omega (arith, one, ih)
groups_step u us mid p ps n (of_picture v on e value kind structure) ih =
    header_no u us (no_group_by (value_of u) 0x00 on refl) ∙ ap group_headers e ∙ header_no v mid (no_group_by (value_of v) 0xB5 value refl) ∙ ih
groups_step u us mid p ps n (of_other a b c o e) ih = header_no u us b ∙ ap group_headers (sym e) ∙ ih ∙ ap (λ (m : ℕ). m + n) (sym (other_groups p ps o))

pub groups_counted : {st z : State} {us rest : Units} {ps : List Part} → Run st us ps z rest → (IsKnown st) ⊎ (is_first_sequence us ≡ true) → group_headers us ≡ groups_of ps + group_headers rest
groups_counted {us = us} stop k = omega arith
groups_counted {st} {us = []} (step e r) k = absurd (none_more st _ _ e)
groups_counted {st} {us = u ∷ us} {rest = rest} (step {mid = mid} {p = p} {ps = ps} e r) k =
    let part = part_of st u us mid p k e in
    groups_step u us mid p ps (group_headers rest) part (groups_counted r (inl (known_by st u us mid p k part)))
