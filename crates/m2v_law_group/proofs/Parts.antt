-- Which part a unit is, and which units are left behind it.
use Rattle.std.proofs.Common.{◌≡◌, ℕ, Bool, true, false, List, ◌∷◌, Option, Some, None, ◌⊎◌, inl, inr, refl, sym, ap, subst, ◌∙◌}
use Rattle.std.specs.Prelude.{nat_eq, nat_le, is_some, ◌-◌}
use Rattle.std.proofs.lemmas.Bool.{cases_Bool, both_ways, eqb-true}
use Rattle.m2v_bits.specs.Syntax.{done, seq, here, rule, choose}
use Rattle.m2v_model.specs.m2v_macroblock.m2v_head.declared.group.GroupInfo.{GroupInfo}
use Rattle.m2v_model.specs.m2v_macroblock.m2v_head.declared.picture.PictureInfo.{PictureInfo}
use Rattle.m2v_model.specs.m2v_macroblock.m2v_head.declared.picture.PictureExtension.{PictureExtension}
use Rattle.m2v_model.specs.declared.fault.FaultKind.{FaultKind}
use Rattle.m2v_model.specs.declared.state.Sequence.{Sequence}
use Rattle.m2v_model.specs.declared.state.Open.{Open}
use Rattle.m2v_model.specs.declared.state.State.{State}
use Rattle.m2v_model.specs.Units.{Units, Next, unit_at, unit_bits, body, inside}
use Rattle.m2v_model.specs.Looking.{refuse, number_from}
use Rattle.m2v_model.specs.Faults.{InUnit}
use Rattle.m2v_model.specs.Headers.{whole_header, group_in}
use Rattle.m2v_model.specs.Streams.{Part, Among, sequence, group, picture, skipped_unit, value_of, close, no_second_field_due, id_at, extension_in, extension_behind, sequence_unit, group_unit, picture_unit, matrix_unit, extension_unit, read_slice, slice_in, slice_unit, onward, final, later_unit, known_unit}
use Rattle.m2v_model.specs.ByPieces.{unit_read}
use Rattle.m2v_bits.proofs.SyntaxLaws.{good}
use Rattle.m2v_model.proofs.StreamLaws.{known_lawful}
use Rattle.m2v_model.proofs.SplitLaws.{IsKnown, IsOther}
use Rattle.m2v_law_group.specs.Groups.{is_picture, is_sequence, is_group}
use Rattle.m2v_law_group.proofs.Heads.{kind_seen, structure_seen}

-- the part that a unit is, where others stand behind it, and what is left of these
pub data PartOf (u : List ℕ) (us : Units) : Part → Units → Type 0 where
  of_sequence : {s : Sequence} {mid : Units} (v : List ℕ) → is_sequence u ≡ true → us ≡ v ∷ mid → nat_eq (value_of v) 0xB5 ≡ true → PartOf u us (sequence s) mid
  of_group : {g : GroupInfo} {mid : Units} (end : List Bool) → is_group u ≡ true → (whole_header group_in).Stands g (body u) end → mid ≡ us → PartOf u us (group g) mid
  of_picture : {info : PictureInfo} {extension : PictureExtension} {mid : Units} (v : List ℕ) → is_picture u ≡ true → us ≡ v ∷ mid → nat_eq (value_of v) 0xB5 ≡ true
      → number_from 10 3 (body u) ≡ Some info.kind → number_from 22 2 (body v) ≡ Some extension.structure → PartOf u us (picture info extension) mid
  of_other : {p : Part} {mid : Units} → is_sequence u ≡ false → is_group u ≡ false → is_picture u ≡ false → IsOther p → mid ≡ us → PartOf u us p mid

-- ---- the extension behind a header

pub record HasExtension {V : Type 0} (s : InUnit V) (e : V) (t rest : Units) : Type 0 where
  pub v : List ℕ
  pub is : t ≡ v ∷ rest
  pub value : nat_eq (value_of v) 0xB5 ≡ true
  pub end : List Bool
  pub stands : s.Stands e (body v) end

pub extension_there : {V : Type 0} (own : ℕ) (v : Option (List ℕ)) (next : ℕ) (s : InUnit V) (e : V) (t m rest : Units) → Next v t m → (extension_behind own v next s).Stands e m rest → HasExtension s e t rest
unfolding extension_behind extension_in id_at refuse choose seq rule inside
extension_there own None next s e t m rest n h = absurd h
extension_there own (Some v) next s e t m rest n (inl h) =
    let x = h.1 in
    let same : rest ≡ m = x.3.3.0 ∙ x.3.2.1 ∙ x.2.0 in
    record { v = v; is = n ∙ ap (λ (l : Units). v ∷ l) (sym same); value = h.0; end = x.3.3.1.0; stands = x.3.3.1.1 }
extension_there own (Some v) next s e t m rest n (inr h) = absurd h.1

-- ---- units

sequence_part : (st : State) (start : ℕ) (u : List ℕ) (p : Part) (us mid : Units) → is_sequence u ≡ true → (sequence_unit st start u).Stands p us mid → PartOf u us p mid
unfolding sequence_unit close no_second_field_due seq here unit_at rule inside done
sequence_part st start u p us mid on (_, _, ended, (_, _, paired, (info, _, own, (next, at, stands, (v, left, there, (x, rest, read, (_, _, same, is))))))) =
    let before : at ≡ us = stands.1 ∙ own.0 ∙ paired.1 ∙ ended.1 in
    let behind : mid ≡ rest = is.1 ∙ same.1 in
    let e = extension_there 1 v next _ x at left rest there read in
    subst (λ (y : Part). PartOf u us y mid) (sym is.0) (of_sequence e.v on (sym before ∙ e.is ∙ ap (λ (l : Units). e.v ∷ l) (sym behind)) e.value)

group_part : (st : State) (start : ℕ) (u : List ℕ) (p : Part) (us mid : Units) → is_group u ≡ true → (group_unit st start u).Stands p us mid → PartOf u us p mid
unfolding group_unit close no_second_field_due seq rule inside done
group_part st start u p us mid on h =
    let l1 = h.3 in
    let l2 = l1.3 in
    subst (λ (x : Part). PartOf u us x mid) (sym l2.3.0) (of_group l2.2.1.0 on l2.2.1.1 (l2.3.1 ∙ l2.2.0 ∙ l1.2.1 ∙ h.2.1))

picture_part : (st : State) (start : ℕ) (u : List ℕ) (p : Part) (us mid : Units) → is_picture u ≡ true → (picture_unit st start u).Stands p us mid → PartOf u us p mid
unfolding picture_unit close seq here unit_at rule inside done
picture_part st start u p us mid on (_, _, ended, (info, _, own, (next, at, stands, (v, left, there, (x, rest, read, (_, _, pair, (_, _, anchor, is))))))) =
    let before : at ≡ us = stands.1 ∙ own.0 ∙ ended.1 in
    let behind : mid ≡ rest = is.1 ∙ anchor.1 ∙ pair.1 in
    let e = extension_there 8 v next _ x at left rest there read in
    subst (λ (y : Part). PartOf u us y mid) (sym is.0)
    (of_picture e.v on (sym before ∙ e.is ∙ ap (λ (l : Units). e.v ∷ l) (sym behind)) e.value (kind_seen info (body u) own.1.0 own.1.1) (structure_seen _ info x (body e.v) e.end e.stands))

other_slice : (st : State) (s : Option Sequence) (o : Option Open) (row start : ℕ) (u : List ℕ) (p : Part) (us mid : Units) → (slice_unit st s o row start u).Stands p us mid → IsOther p × (mid ≡ us)
unfolding slice_unit slice_in read_slice refuse seq rule choose inside done
other_slice st (Some s) (Some o) row start u p us mid (v, m, order, inl h) = (subst IsOther (sym h.1.0) tt, h.1.1 ∙ order.1)
other_slice st (Some s) (Some o) row start u p us mid (v, m, order, inr h) = (subst IsOther (sym h.1.3.0) tt, h.1.3.1 ∙ h.1.2.0 ∙ order.1)
other_slice st (Some s) None row start u p us mid h = absurd h
other_slice st None o row start u p us mid h = absurd h

other_extension : (st : State) (start : ℕ) (u : List ℕ) (p : Part) (us mid : Units) → (extension_unit st start u).Stands p us mid → IsOther p × (mid ≡ us)
unfolding extension_unit matrix_unit id_at refuse seq rule choose inside done
other_extension st start u p us mid (id, m, h, inl x) = absurd x.1
other_extension st start u p us mid (id, m, h, inr x) = elim x.1 [
  | inl y ↦ (subst IsOther (sym y.1.3.3.0) tt, y.1.3.3.1 ∙ y.1.3.2.0 ∙ y.1.2.1 ∙ h.0)
  | inr y ↦ elim y.1 [ inl z ↦ absurd z.1 | inr z ↦ (subst IsOther (sym z.1.0) tt, z.1.1 ∙ h.0) ]
]

-- a value that one test takes, another doesn't
not_this : (value n : ℕ) (test : ℕ → Bool) → test value ≡ true → test n ≡ false → nat_eq value n ≡ false
not_this value n test on off = elim (cases_Bool (nat_eq value n)) [
  | inl same ↦ absurd (both_ways (test value) (ap test (eqb-true value n same) ∙ off) on)
  | inr other ↦ other
]

onward_part : (s : Among Part) (p : Part) (us mid : Units) → (onward s).Stands (true, p) us mid → s.Stands p us mid
unfolding onward seq done
onward_part s p us mid h =
    let own : p ≡ h.0 = ap (λ (y : Bool × Part). y.1) h.3.0 in
    subst (λ (x : Part). s.Stands x us mid) (sym own) (subst (λ (l : Units). s.Stands h.0 us l) (sym h.3.1) h.2)

final_none : (s : Among Part) (p : Part) (us mid : Units) → (final s).Stands (true, p) us mid → ⊥
unfolding final seq done
final_none s p us mid h = let wrong = ap (λ (y : Bool × Part). y.0) h.3.0 in absurd cc

skipped_part : (u : List ℕ) (p : Part) (us mid : Units) → is_sequence u ≡ false → is_group u ≡ false → is_picture u ≡ false → (done {T = Units} {K = FaultKind} (skipped_unit u)).Stands p us mid → PartOf u us p mid
unfolding done
skipped_part u p us mid a b c h = of_other a b c (subst IsOther (sym h.0) tt) h.1

later_part : (st : State) (start : ℕ) (u : List ℕ) (p : Part) (us mid : Units) → is_sequence u ≡ false → (later_unit st start (value_of u) u).Stands (true, p) us mid → PartOf u us p mid
unfolding later_unit choose refuse
later_part st start u p us mid none h = elim h [
  | inl y ↦ picture_part st start u p us mid y.0 (onward_part _ p us mid y.1)
  | inr y ↦ elim y.1 [
    | inl z ↦ let o = other_slice st st.sequence st.picture (value_of u - 1) start u p us mid (onward_part _ p us mid z.1) in of_other none (not_this (value_of u) 0xB8 (λ n. nat_le n 0xAF) z.0 refl) y.0 o.0 o.1
    | inr z ↦ elim z.1 [
      | inl a ↦ let o = onward_part (done (skipped_unit u)) p us mid a.1 in skipped_part u p us mid none (not_this (value_of u) 0xB8 (λ n. nat_eq n 0xB2) a.0 refl) y.0 o
      | inr a ↦ elim a.1 [
        | inl b ↦ let o = other_extension st start u p us mid (onward_part _ p us mid b.1) in of_other none (not_this (value_of u) 0xB8 (λ n. nat_eq n 0xB5) b.0 refl) y.0 o.0 o.1
        | inr b ↦ elim b.1 [
          | inl c ↦ absurd (final_none _ p us mid c.1)
          | inr c ↦ elim c.1 [
            | inl d ↦ group_part st start u p us mid d.0 (onward_part _ p us mid d.1)
            | inr d ↦ elim d.1 [ inl f ↦ absurd f.1 | inr f ↦ absurd f.1 ]
          ]
        ]
      ]
    ]
  ]
]

known_part : (st : State) (start : ℕ) (u : List ℕ) (p : Part) (us mid : Units) → (IsKnown st) ⊎ (is_sequence u ≡ true) → (known_unit st start (value_of u) u).Stands (true, p) us mid → PartOf u us p mid
unfolding known_unit choose
known_part st start u p us mid k (inl y) = sequence_part st start u p us mid y.0 (onward_part _ p us mid y.1)
known_part st start u p us mid k (inr y) = elim y.1 [
  | inl z ↦ later_part st start u p us mid y.0 z.1
  | inr z ↦ elim k [ inl known ↦ absurd (both_ways (is_some st.sequence) z.0 known) | inr on ↦ absurd (both_ways (is_sequence u) y.0 on) ]
]

-- a unit that was read
pub part_of : (st : State) (u : List ℕ) (us mid : Units) (p : Part) → (IsKnown st) ⊎ (is_sequence u ≡ true) → unit_read st (u ∷ us) ≡ good ((true, p), mid) → PartOf u us p mid
unfolding unit_read
part_of st u us mid p k e = known_part st (unit_bits (u ∷ us)) u p us mid k ((known_lawful st (unit_bits (u ∷ us)) (value_of u) u).found (true, p) us mid e)
