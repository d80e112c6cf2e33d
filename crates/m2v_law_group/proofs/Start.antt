-- Where a cut begins: its sequence header and the header of its first group; and where it ends.
use Rattle.std.proofs.Common.{◌≡◌, ℕ, ◌≤◌, Bool, true, false, List, [], ◌∷◌, length, Option, Some, None, Ok, Err, inl, inr, refl, sym, ap, subst, ◌∙◌, arith}
use Rattle.std.specs.Prelude.{nat_eq, is_some, ◌&&◌, cond}
use Rattle.std.specs.Bool.{beq}
use Rattle.std.proofs.lemmas.Bool.{cases_Bool, both_ways, eqb-true, cond-true}
use Rattle.m2v_bits.specs.Syntax.{done, seq, rule, choose}
use Rattle.m2v_bits.proofs.SyntaxLaws.{good}
use Rattle.m2v_model.specs.m2v_macroblock.m2v_head.declared.group.GroupInfo.{GroupInfo}
use Rattle.m2v_model.specs.declared.state.Sequence.{Sequence}
use Rattle.m2v_model.specs.declared.state.FirstField.{FirstField}
use Rattle.m2v_model.specs.declared.state.State.{State}
use Rattle.m2v_model.specs.Units.{Units, unit_bits, body, inside}
use Rattle.m2v_model.specs.Headers.{whole_header, group_in}
use Rattle.m2v_model.specs.States.{at_first, is_complete, is_same_sequence, none_waits, first_or, width_of, height_of}
use Rattle.m2v_model.specs.Streams.{Part, Among, sequence, group, ending, after, value_of, close, no_second_field_due, sequence_unit, group_unit, end_unit, onward, final, later_unit, known_unit}
use Rattle.m2v_model.specs.Pictures.{Store, Events, no_frames, told_by}
use Rattle.m2v_model.specs.declared.fault.FaultKind.{FaultKind}
use Rattle.m2v_model.specs.ByPieces.{Course, unit_read, units_read, behind, after_part}
use Rattle.m2v_model.specs.Pieces.{begins_piece}
use Rattle.m2v_model.proofs.StreamLaws.{known_lawful, sequence_unit_lawful, group_unit_lawful, end_unit_lawful, onward_lawful, final_lawful}
use Rattle.m2v_model.proofs.FlowLaws.{read_more, read_last}
use Rattle.m2v_model.proofs.ShiftLaws.{BeginsPiece}
use Rattle.m2v_model.proofs.SplitLaws.{IsKnown, closing}
use Rattle.m2v_law_group.specs.Groups.{is_picture, is_sequence, is_group, broken_header, end_code}
use Rattle.m2v_law_group.proofs.Alike.{AreAlike, closes}
use Rattle.m2v_law_group.proofs.Counted.{Reach, as_whole, none_yet}
use Rattle.m2v_law_group.proofs.Held.{AreHeld}
use Rattle.m2v_law_group.proofs.Steps.{AreBoth}
use Rattle.m2v_law_group.proofs.Runs.{Ends, finish, going}
use Rattle.m2v_law_group.proofs.Heads.{broken_stands}

-- ---- the sequence header

pub none_is : (o : Option FirstField) → none_waits o ≡ true → o ≡ None
none_is None e = refl
none_is (Some f) e = absurd cc

-- what is known where a sequence header was read
pub record IsSequence (a : State) (u : List ℕ) (us mid : Units) (p : Part) : Type 0 where
  pub s : Sequence
  pub part : p ≡ sequence s
  pub again : unit_read at_first (u ∷ us) ≡ good ((true, sequence s), mid)
  pub waiting : a.waiting ≡ None
  pub same : is_same_sequence a.first s ≡ true

onward_at : (s : Among Part) (p : Part) (us mid : Units) → (onward s).Stands (true, p) us mid → s.Stands p us mid
unfolding onward seq done
onward_at s p us mid h =
    let own : p ≡ h.0 = ap (λ (y : Bool × Part). y.1) h.3.0 in
    subst (λ (x : Part). s.Stands x us mid) (sym own) (subst (λ (l : Units). s.Stands h.0 us l) (sym h.3.1) h.2)

onward_back : (s : Among Part) (p : Part) (us mid : Units) → s.Stands p us mid → (onward s).Stands (true, p) us mid
unfolding onward seq done
onward_back s p us mid h = (p, mid, h, (refl, refl))

sequence_at : (a : State) (start : ℕ) (u : List ℕ) (us mid : Units) (p : Part) → (sequence_unit a start u).Stands p us mid
    → (s : Sequence) × (p ≡ sequence s) × ((sequence_unit at_first start u).Stands p us mid) × (none_waits a.waiting ≡ true) × (is_same_sequence a.first s ≡ true)
unfolding sequence_unit close no_second_field_due seq rule done
sequence_at a start u us mid p h =
    let l1 = h.3 in
    let l2 = l1.3 in
    let l3 = l2.3 in
    let l4 = l3.3 in
    let l5 = l4.3 in
    let l6 = l5.3 in (
      record { info = l2.0; extension = l5.0 },
      l6.3.0,
      (h.0, h.1, (refl, h.2.1), (l1.0, l1.1, (refl, l1.2.1), (l2.0, l2.1, l2.2, (l3.0, l3.1, l3.2, (l4.0, l4.1, l4.2, (l5.0, l5.1, l5.2, (l6.0, l6.1, (refl, l6.2.1), l6.3))))))),
      l1.2.0,
      l6.2.0,
    )

pub sequence_back : (st : State) (start : ℕ) (u : List ℕ) (us mid : Units) (p : Part) → is_sequence u ≡ true → (sequence_unit st start u).Stands p us mid → (known_unit st start (value_of u) u).Stands (true, p) us mid
unfolding known_unit choose
sequence_back st start u us mid p on h = inl (on, onward_back _ p us mid h)

pub known_sequence : (st : State) (start : ℕ) (u : List ℕ) (us mid : Units) (p : Part) → is_sequence u ≡ true → (known_unit st start (value_of u) u).Stands (true, p) us mid → (sequence_unit st start u).Stands p us mid
unfolding known_unit choose
known_sequence st start u us mid p on (inl h) = onward_at _ p us mid h.1
known_sequence st start u us mid p on (inr h) = absurd (both_ways _ h.0 on)

pub sequence_start : (a : State) (u : List ℕ) (us mid : Units) (p : Part) → is_sequence u ≡ true → unit_read a (u ∷ us) ≡ good ((true, p), mid) → IsSequence a u us mid p
unfolding unit_read
sequence_start a u us mid p on e =
    let start = unit_bits (u ∷ us) in
    let h = known_sequence a start u us mid p on ((known_lawful a start (value_of u) u).found (true, p) us mid e) in
    let x = sequence_at a start u us mid p h in
    record {
      s = x.0;
      part = x.1;
      again = subst (λ (y : Part). unit_read at_first (u ∷ us) ≡ good ((true, y), mid)) x.1 ((known_lawful at_first start (value_of u) u).only (true, p) us mid (sequence_back at_first start u us mid p on x.2));
      waiting = none_is a.waiting x.3;
      same = x.4;
    }

-- sequence headers that say what another one says, say the same
nat_same : (a b c : ℕ) → nat_eq a b ≡ true → nat_eq a c ≡ true → nat_eq b c ≡ true
nat_same a b c e f = subst (λ (n : ℕ). nat_eq n c ≡ true) (eqb-true a b e) f

bool_same : (a b c : Bool) → beq a b ≡ true → beq a c ≡ true → beq b c ≡ true
bool_same true true c e f = f
bool_same false false c e f = f
bool_same true false c e f = absurd cc
bool_same false true c e f = absurd cc

four_parts : (a b c d : Bool) → (a && b && c && d) ≡ true → (a ≡ true) × (b ≡ true) × (c ≡ true) × (d ≡ true)
four_parts true true true true e = (refl, refl, refl, refl)
four_parts true true true false e = absurd cc
four_parts true true false d e = absurd cc
four_parts true false c d e = absurd cc
four_parts false b c d e = absurd cc

four_true : (a b c d : Bool) → a ≡ true → b ≡ true → c ≡ true → d ≡ true → (a && b && c && d) ≡ true
four_true true true true true p q r s = refl
four_true true true true false p q r s = absurd cc
four_true true true false d p q r s = absurd cc
four_true true false c d p q r s = absurd cc
four_true false b c d p q r s = absurd cc

same_by : (f s x : Sequence) → is_same_sequence (Some f) s ≡ true → is_same_sequence (Some f) x ≡ true → is_same_sequence (Some s) x ≡ true
same_by f s x e g =
    let p = four_parts _ _ _ _ e in
    let q = four_parts _ _ _ _ g in
    four_true _ _ _ _ (nat_same (width_of f) (width_of s) (width_of x) p.0 q.0) (nat_same (height_of f) (height_of s) (height_of x) p.1 q.1)
    (bool_same f.extension.progressive_sequence s.extension.progressive_sequence x.extension.progressive_sequence p.2 q.2)
    (nat_same f.extension.chroma_format s.extension.chroma_format x.extension.chroma_format p.3 q.3)

first_same : (first : Option Sequence) (s x : Sequence) → is_same_sequence first s ≡ true → is_same_sequence (Some (first_or first s)) x ≡ true → is_same_sequence (Some s) x ≡ true
first_same None s x e g = g
first_same (Some f) s x e g = same_by f s x e g

start_reach : (changed : Bool) (anchors : ℕ) (closed : Bool) → (changed ≡ false → anchors ≡ 0) → Reach false changed false anchors 0 closed false None
start_reach true anchors closed none = none_yet refl refl (λ r. absurd cc) (λ f e. absurd cc)
start_reach false anchors closed none = as_whole refl (none refl) (λ r. absurd cc)

start_held : (changed : Bool) (store : Store) → (changed ≡ false → store ≡ no_frames) → AreHeld changed 0 0 None None None store no_frames
start_held true store none = record { count = refl; newer = λ h. absurd cc; older = λ h. absurd cc; «open» = λ f e. absurd cc }
start_held false store none = record { count = refl; newer = λ h. ap (λ (s : Store). s.newer) (none refl); older = λ h. ap (λ (s : Store). s.older) (none refl); «open» = λ f e. absurd cc }

-- behind the sequence header; where no picture was cut off, the whole has no anchor either
pub start_both : (changed : Bool) (a : State) (s : Sequence) (store : Store) → a.waiting ≡ None → a.headers_only ≡ false → is_same_sequence a.first s ≡ true → (changed ≡ false → a.anchors ≡ 0) → (changed ≡ false → store ≡ no_frames)
    → AreBoth false changed false 0 (after a (sequence s)) (after at_first (sequence s)) store no_frames
unfolding after
start_both changed a s store waits headers same anchors frames = record {
  alike = record { first = record { first_whole = first_or a.first s; first_cut = s; whole = refl; cut = refl; firsts = λ x e. first_same a.first s x same e }; known = refl; sequence = refl; intra = refl; non_intra = refl; waiting = waits; headers = headers; pictures = tt };
  reach = start_reach changed a.anchors a.closed_gop anchors;
  held = start_held changed store frames;
}

-- ---- the group header

group_back : (st : State) (start : ℕ) (u : List ℕ) (us mid : Units) (p : Part) → IsKnown st → (group_unit st start u).Stands p us mid → (known_unit st start 0xB8 u).Stands (true, p) us mid
unfolding known_unit later_unit choose
group_back st start u us mid p k h = inr (refl, inl (k, inr (refl, inr (refl, inr (refl, inr (refl, inr (refl, inl (refl, onward_back _ p us mid h))))))))

known_group : (st : State) (start : ℕ) (u : List ℕ) (us mid : Units) (p : Part) → IsKnown st → (known_unit st start 0xB8 u).read us ≡ good ((true, p), mid) → (group_unit st start u).Stands p us mid
unfolding known_unit later_unit choose
known_group st start u us mid p k e = onward_at _ p us mid ((onward_lawful (group_unit_lawful st start u)).found (true, p) us mid (sym (cond-true (is_some st.sequence) _ _ k) ∙ e))

-- the header with which a cut begins its first group
abbrev pub header_by : Bool → List ℕ → List ℕ
header_by true g = broken_header g
header_by false g = g

abbrev pub info_by : Bool → GroupInfo → GroupInfo
info_by true g = record g { closed_gop = false; broken_link = true }
info_by false g = g

header_stands : (changed : Bool) (u : List ℕ) (g : GroupInfo) (end : List Bool) → 8 ≤ length u → (whole_header group_in).Stands g (body u) end → (rest : List Bool) × (whole_header group_in).Stands (info_by changed g) (body (header_by changed u)) rest
header_stands true u g end le h = ([], broken_stands u g end le h)
header_stands false u g end le h = (end, h)

group_at : (b c : State) (start place : ℕ) (changed : Bool) (u : List ℕ) (us mid : Units) (p : Part) → AreAlike b c → 8 ≤ length u → (group_unit b start u).Stands p us mid
    → (g : GroupInfo) × (p ≡ group g) × ((group_unit c place (header_by changed u)).Stands (group (info_by changed g)) us mid) × (none_waits b.waiting ≡ true) × (mid ≡ us)
unfolding group_unit close no_second_field_due seq rule inside done
group_at b c start place changed u us mid p a le h =
    let l1 = h.3 in
    let l2 = l1.3 in
    let waits : none_waits c.waiting ≡ true = ap none_waits (sym a.waiting) ∙ l1.2.0 in
    let own = header_stands changed u l2.0 l2.2.1.0 le l2.2.1.1 in (
      l2.0,
      l2.3.0,
      (h.0, h.1, (closes b c a h.2.0, h.2.1), (l1.0, l1.1, (waits, l1.2.1), (info_by changed l2.0, l2.1, (l2.2.0, own), (refl, l2.3.1)))),
      l1.2.0,
      l2.3.1 ∙ l2.2.0 ∙ l1.2.1 ∙ h.2.1,
    )

same_value : (u : List ℕ) → 8 ≤ length u → value_of (broken_header u) ≡ value_of u
same_value (a ∷ b ∷ c ∷ d ∷ e ∷ f ∷ g ∷ h ∷ w) le = refl
same_value _ le = absurd (omega arith)

pub header_value : (changed : Bool) (u : List ℕ) → 8 ≤ length u → value_of (header_by changed u) ≡ value_of u
header_value true u le = same_value u le
header_value false u le = refl

-- what is known where the group's header was read
pub record IsGroup (b c : State) (changed : Bool) (u : List ℕ) (us mid : Units) (p : Part) : Type 0 where
  pub g : GroupInfo
  pub part : p ≡ group g
  pub again : unit_read c (header_by changed u ∷ us) ≡ good ((true, group (info_by changed g)), us)
  pub waiting : b.waiting ≡ None
  pub rest : mid ≡ us

pub group_start : (b c : State) (changed : Bool) (u : List ℕ) (us mid : Units) (p : Part) → AreAlike b c → IsKnown b → IsKnown c → 8 ≤ length u → is_group u ≡ true → unit_read b (u ∷ us) ≡ good ((true, p), mid) → IsGroup b c changed u us mid p
unfolding unit_read
group_start b c changed u us mid p a kb kc le on e =
    let start = unit_bits (u ∷ us) in
    let v = header_by changed u in
    let place = unit_bits (v ∷ us) in
    let value : value_of u ≡ 0xB8 = eqb-true (value_of u) 0xB8 on in
    let other : value_of v ≡ 0xB8 = header_value changed u le ∙ value in
    let h = known_group b start u us mid p kb (subst (λ (n : ℕ). (known_unit b start n u).read us ≡ good ((true, p), mid)) value e) in
    let x = group_at b c start place changed u us mid p a le h in
    let back = (known_lawful c place 0xB8 v).only (true, group (info_by changed x.0)) us mid (group_back c place v us mid (group (info_by changed x.0)) kc x.2) in
    let own : (known_unit c place (value_of v) v).read us ≡ good ((true, group (info_by changed x.0)), mid) = subst (λ (n : ℕ). (known_unit c place n v).read us ≡ good ((true, group (info_by changed x.0)), mid)) (sym other) back in
    record {
      g = x.0;
      part = x.1;
      again = subst (λ (l : Units). (known_unit c place (value_of v) v).read us ≡ good ((true, group (info_by changed x.0)), l)) x.4 own;
      waiting = none_is b.waiting x.3;
      rest = x.4;
    }

-- ---- the end

end_back : (st : State) (start : ℕ) (u : List ℕ) (us : Units) → IsKnown st → is_complete st.sequence st.picture ≡ true → none_waits st.waiting ≡ true → (known_unit st start 0xB7 u).Stands (false, ending) us us
unfolding known_unit later_unit choose final end_unit close no_second_field_due seq rule done
end_back st start u us k complete paired =
    inr (refl, inl (k, inr (refl, inr (refl, inr (refl, inr (refl, inl (refl, (ending, us, (tt, us, (complete, refl), (tt, us, (paired, refl), (refl, refl))), (refl, refl)))))))))

-- the end code is read where the picture is complete and no second field is due
pub end_read : (st : State) → IsKnown st → is_complete st.sequence st.picture ≡ true → none_waits st.waiting ≡ true → unit_read st (end_code ∷ []) ≡ good ((false, ending), [])
unfolding unit_read
end_read st k complete paired = (known_lawful st (unit_bits (end_code ∷ [])) 0xB7 end_code).only (false, ending) [] [] (end_back st (unit_bits (end_code ∷ [])) end_code [] k complete paired)

abbrev IsGood : Course → Type 0
IsGood (Ok x) = Unit {0}
IsGood (Err f) = ⊥

good_behind : (es : Events) (r : Course) → IsGood r → IsGood (behind es r)
good_behind es (Ok x) h = tt
good_behind es (Err f) h = absurd h

good_cond : (c : Bool) (r : Course) (f : FaultKind × ℕ) → IsGood (cond c r (Err f)) → c ≡ true
good_cond true r f h = refl
good_cond false r f h = absurd h

-- what is read to its end has no fault
ends_ok : {st z : State} {us rest : Units} {ps : List Part} → Ends st us ps z rest → (store : Store) → IsGood (units_read (record { state = st; store = store }) us)
ends_ok {st} {z} {us} {rest} (finish {p = p} e) store =
    subst IsGood (sym (read_last (record { state = st; store = store }) us rest false p e refl)) tt
ends_ok {st} {z} {us} (going {mid = mid} {p = p} e later) store =
    subst IsGood (sym (read_more (record { state = st; store = store }) us mid true p e refl))
    (good_behind (told_by st store p) _ (ends_ok later (after_part (record { state = st; store = store }) p).store))

-- a piece begins behind a complete picture
pub complete_there : {st z : State} {us rest : Units} {ps : List Part} → Ends st us ps z rest → BeginsPiece us → IsKnown st → is_complete st.sequence st.picture ≡ true
complete_there {st} {us = us} h b k =
    let g = subst IsGood (closing (record { state = st; store = no_frames }) us b k) (ends_ok h no_frames) in
    good_cond (is_complete st.sequence st.picture) _ _ g

onward_any : (s : Among Part) (x : Bool × Part) (us mid : Units) → (onward s).Stands x us mid → (p : Part) × (m : Units) × s.Stands p us m
unfolding onward seq done
onward_any s x us mid h = (h.0, h.1, h.2)

final_any : (s : Among Part) (x : Bool × Part) (us mid : Units) → (final s).Stands x us mid → (p : Part) × (m : Units) × s.Stands p us m
unfolding final seq done
final_any s x us mid h = (h.0, h.1, h.2)

group_waits : (st : State) (start : ℕ) (u : List ℕ) (us mid : Units) (p : Part) → (group_unit st start u).Stands p us mid → none_waits st.waiting ≡ true
unfolding group_unit close no_second_field_due seq rule
group_waits st start u us mid p h = h.3.2.0

end_waits : (st : State) (start : ℕ) (us mid : Units) (p : Part) → (end_unit st start).Stands p us mid → none_waits st.waiting ≡ true
unfolding end_unit close no_second_field_due seq rule
end_waits st start us mid p h = h.3.2.0

sequence_waits : (st : State) (start : ℕ) (u : List ℕ) (us mid : Units) (p : Part) → (sequence_unit st start u).Stands p us mid → none_waits st.waiting ≡ true
unfolding sequence_unit close no_second_field_due seq rule
sequence_waits st start u us mid p h = h.3.2.0

read_waits_group : (st : State) (start : ℕ) (u : List ℕ) (us mid : Units) (x : Bool × Part) → IsKnown st → (known_unit st start 0xB8 u).read us ≡ good (x, mid) → none_waits st.waiting ≡ true
unfolding known_unit later_unit choose
read_waits_group st start u us mid x k e =
    let s = onward_any _ x us mid ((onward_lawful (group_unit_lawful st start u)).found x us mid (sym (cond-true (is_some st.sequence) _ _ k) ∙ e)) in
    group_waits st start u us s.1 s.0 s.2

read_waits_end : (st : State) (start : ℕ) (u : List ℕ) (us mid : Units) (x : Bool × Part) → IsKnown st → (known_unit st start 0xB7 u).read us ≡ good (x, mid) → none_waits st.waiting ≡ true
unfolding known_unit later_unit choose
read_waits_end st start u us mid x k e =
    let s = final_any _ x us mid ((final_lawful (end_unit_lawful st start)).found x us mid (sym (cond-true (is_some st.sequence) _ _ k) ∙ e)) in
    end_waits st start us s.1 s.0 s.2

read_waits_sequence : (st : State) (start : ℕ) (u : List ℕ) (us mid : Units) (x : Bool × Part) → (known_unit st start 0xB3 u).read us ≡ good (x, mid) → none_waits st.waiting ≡ true
unfolding known_unit choose
read_waits_sequence st start u us mid x e =
    let s = onward_any _ x us mid ((onward_lawful (sequence_unit_lawful st start u)).found x us mid e) in
    sequence_waits st start u us s.1 s.0 s.2

-- where a unit begins a piece that isn't a picture, no second field is due
pub paired_there : (st : State) (u : List ℕ) (us mid : Units) (x : Bool × Part) → begins_piece (value_of u) ≡ true → is_picture u ≡ false → IsKnown st → unit_read st (u ∷ us) ≡ good (x, mid) → none_waits st.waiting ≡ true
unfolding unit_read begins_piece
paired_there st u us mid x b other k e =
    let start = unit_bits (u ∷ us) in
    let at = λ (n : ℕ). (known_unit st start n u).read us ≡ good (x, mid) in
    elim (cases_Bool (nat_eq (value_of u) 0xB3)) [
      | inl on ↦ read_waits_sequence st start u us mid x (subst at (eqb-true (value_of u) 0xB3 on) e)
      | inr off3 ↦ elim (cases_Bool (nat_eq (value_of u) 0xB7)) [
        | inl on ↦ read_waits_end st start u us mid x k (subst at (eqb-true (value_of u) 0xB7 on) e)
        | inr off7 ↦ read_waits_group st start u us mid x k (subst at (eqb-true (value_of u) 0xB8 (rw (other, off3, off7) at b)) e)
      ]
    ]
