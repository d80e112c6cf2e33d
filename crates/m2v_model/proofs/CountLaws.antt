-- A piece tells as many pictures as it has picture units.
use Rattle.std.proofs.Common.{◌≡◌, ℕ, zero, suc, ◌+◌, ◌<◌, Bool, true, false, List, [], ◌∷◌, ◌++◌, length, Option, Some, None, Result, Ok, Err, inl, inr, refl, sym, ap, subst, ◌∙◌, arith}
use Rattle.std.specs.Prelude.{nat_eq, nat_le, if◌then◌else◌}
use Rattle.std.proofs.lemmas.Bool.{cases_Bool, both_ways, eqb-true, leb-true}
use Rattle.std.proofs.lemmas.List.{length-append}
use Rattle.m2v_bits.specs.Syntax.{bind, done, seq, rule, choose, here}
use Rattle.m2v_bits.proofs.SyntaxLaws.{good}
use Rattle.m2v_model.specs.declared.fault.FaultKind.{FaultKind}
use Rattle.m2v_model.specs.declared.state.Sequence.{Sequence}
use Rattle.m2v_model.specs.declared.state.Open.{Open}
use Rattle.m2v_model.specs.declared.state.State.{State}
use Rattle.m2v_model.specs.Units.{Units, unit_bits, unit_at, inside, Next}
use Rattle.m2v_model.specs.Faults.{InUnit}
use Rattle.m2v_model.specs.States.{with_slice, with_unread_slice}
use Rattle.m2v_model.specs.Slices.{large_in}
use Rattle.m2v_model.specs.Looking.{refuse}
use Rattle.m2v_model.specs.Streams.{Part, Among, sequence, group, picture, matrices, slice, unread_slice, skipped_unit, ending, after, value_of, close, no_second_field_due, id_at, extension_in, extension_behind, sequence_unit, group_unit, picture_unit, matrix_unit, extension_unit, read_slice, slice_in, slice_unit, end_unit, onward, final, later_unit, known_unit, text_end}
use Rattle.m2v_model.specs.Pictures.{Store, Events, sequence_header, group_header, closed, told_by, pictures_in}
use Rattle.m2v_model.specs.Pieces.{is_end, picture_units}
use Rattle.m2v_model.specs.ByPieces.{Between, Course, behind, unit_read, after_part, units_read}
use Rattle.m2v_model.proofs.StreamLaws.{known_lawful, text_end_lawful}
use Rattle.m2v_model.proofs.FlowLaws.{part_read, read_once, unit_less}
use Rattle.m2v_model.proofs.SplitLaws.{IsKnown, KnownBy, KnownAt, known_at, known_after, sequence_known}
use Rattle.m2v_model.proofs.EventLaws.{pictures_in-append}

-- ---- parts

abbrev picture_part : Part → ℕ
picture_part (picture info extension) = 1
picture_part _ = 0

abbrev pub open_count : Option Open → ℕ
open_count None = 0
open_count (Some p) = 1

closed_count : (o : Option Open) (store : Store) (es : Events) → length (pictures_in (closed o store ++ es)) ≡ open_count o + length (pictures_in es)
closed_count None store es = omega arith
closed_count (Some p) store es = omega arith

closed_alone : (o : Option Open) (store : Store) → length (pictures_in (closed o store)) ≡ open_count o
closed_alone None store = refl
closed_alone (Some p) store = refl

sliced_count : (o : Option Open) (row covered large : ℕ) → open_count (with_slice o row covered large) ≡ open_count o
sliced_count None row covered large = refl
sliced_count (Some p) row covered large =
    elim (cases_Bool (nat_eq row p.row)) [
      | inl on ↦ rw on refl
      | inr off ↦ rw off refl
    ]

unread_count : (o : Option Open) (row : ℕ) → open_count (with_unread_slice o row) ≡ open_count o
unread_count None row = refl
unread_count (Some p) row = refl

-- what is told and what is open behind a part, against what was open before it
part_counts : (b : Between) (p : Part) → length (pictures_in (told_by b.state b.store p)) + open_count (after b.state p).picture ≡ open_count b.state.picture + picture_part p
unfolding after
part_counts b (sequence s) = omega (arith, closed_count b.state.picture b.store (sequence_header s ∷ []))
part_counts b (group g) = omega (arith, closed_count b.state.picture b.store (group_header g ∷ []))
part_counts b (matrices m) = omega arith
part_counts b (slice row x) = omega (arith, sliced_count b.state.picture row x.covered (large_in x))
part_counts b (unread_slice row u) = omega (arith, unread_count b.state.picture row)
part_counts b (skipped_unit u) = omega arith
part_counts b _ = omega (arith, closed_alone b.state.picture b.store)

-- ---- what takes nothing

record Keeps {V : Type 0} (s : Among V) : Type 0 where
  kept : (v : V) (t rest : Units) → s.Stands v t rest → rest ≡ t

rule_keeps : (b : Bool) (kind : FaultKind) (at : ℕ) → Keeps (rule b kind at)
unfolding rule
rule_keeps b kind at = record { kept = λ v t rest s. s.1 }

here_keeps : (left : Units → ℕ) → Keeps (here left)
unfolding here
here_keeps left = record { kept = λ v t rest s. s.1 }

inside_keeps : {V : Type 0} (u : List ℕ) (s : InUnit V) → Keeps (inside u s)
unfolding inside
inside_keeps u s = record { kept = λ v t rest x. x.0 }

close_keeps : (st : State) (start : ℕ) → Keeps (close st start)
unfolding close
close_keeps st start = rule_keeps _ _ start

due_keeps : (st : State) (start : ℕ) → Keeps (no_second_field_due st start)
unfolding no_second_field_due
due_keeps st start = rule_keeps _ _ start

id_keeps : (u : List ℕ) → Keeps (id_at u)
unfolding id_at
id_keeps u = inside_keeps u _

seq_keeps : {A B : Type 0} {s : Among A} {k : A → Among B} → Keeps s → ((a : A) → Keeps (k a)) → Keeps (seq s k)
unfolding seq
seq_keeps h i = record { kept = λ v t rest x. (i x.0).kept v x.1 rest x.3 ∙ h.kept x.0 t x.1 x.2 }

extension_keeps : {V : Type 0} (own : ℕ) (u : List ℕ) (start : ℕ) (s : InUnit V) → Keeps (extension_in own u start s)
unfolding extension_in
extension_keeps own u start s = seq_keeps (id_keeps u) (λ id. seq_keeps (rule_keeps _ _ start) (λ own_id. inside_keeps u s))

-- ---- what takes nothing, and gives a part with so many pictures

record Ends (n : ℕ) (s : Among Part) : Type 0 where
  ended : (p : Part) (t rest : Units) → s.Stands p t rest → (rest ≡ t) × (picture_part p ≡ n)

done_ends : (n : ℕ) (p : Part) → picture_part p ≡ n → Ends n (done p)
unfolding done
done_ends n p e = record { ended = λ q t rest s. (s.1, ap picture_part s.0 ∙ e) }

refuse_ends : (n : ℕ) (kind : FaultKind) (at : ℕ) → Ends n (refuse kind at)
unfolding refuse
refuse_ends n kind at = record { ended = λ p t rest s. absurd s }

seq_ends : {A : Type 0} {s : Among A} {k : A → Among Part} (n : ℕ) → Keeps s → ((a : A) → Ends n (k a)) → Ends n (seq s k)
unfolding seq
seq_ends n h i = record { ended = λ p t rest x. let y = (i x.0).ended p x.1 rest x.3 in (y.0 ∙ h.kept x.0 t x.1 x.2, y.1) }

choose_ends : {s z : Among Part} (n : ℕ) (b : Bool) → Ends n s → Ends n z → Ends n (choose b s z)
unfolding choose
choose_ends n b h i = record {
  ended = λ p t rest x.
      elim x [
        | inl y ↦ h.ended p t rest y.1
        | inr y ↦ i.ended p t rest y.1
      ];
}

-- what is read inside the unit
inside_ends : {V : Type 0} (u : List ℕ) (s : InUnit V) (k : V → Part) → ((v : V) → picture_part (k v) ≡ 0) → Ends 0 (seq (inside u s) (λ v. done (k v)))
inside_ends u s k none = seq_ends 0 (inside_keeps u s) (λ v. done_ends 0 (k v) (none v))

group_ends : (st : State) (start : ℕ) (u : List ℕ) → Ends 0 (group_unit st start u)
unfolding group_unit
group_ends st start u =
    seq_ends 0 (close_keeps st start) (λ closed.
    seq_ends 0 (due_keeps st start) (λ due.
    inside_ends u _ group (λ g. refl)))

matrix_ends : (st : State) (start : ℕ) (u : List ℕ) → Ends 0 (matrix_unit st start u)
unfolding matrix_unit
matrix_ends st start u =
    seq_ends 0 (rule_keeps _ _ start) (λ allowed. inside_ends u _ matrices (λ m. refl))

extension_ends : (st : State) (start : ℕ) (u : List ℕ) → Ends 0 (extension_unit st start u)
unfolding extension_unit
extension_ends st start u =
    seq_ends 0 (id_keeps u) (λ id.
    choose_ends 0 _ (refuse_ends 0 _ start)
    (choose_ends 0 _ (matrix_ends st start u)
    (choose_ends 0 _ (refuse_ends 0 _ start)
    (done_ends 0 (skipped_unit u) refl))))

read_ends : (st : State) (s : Sequence) (p : Open) (row : ℕ) (u : List ℕ) → Ends 0 (read_slice st s p row u)
unfolding read_slice
read_ends st s p row u = inside_ends u _ (slice row) (λ x. refl)

slice_in_ends : (st : State) (s : Sequence) (p : Open) (row start : ℕ) (u : List ℕ) → Ends 0 (slice_in st s p row start u)
unfolding slice_in
slice_in_ends st s p row start u =
    seq_ends 0 (rule_keeps _ _ start) (λ order.
    choose_ends 0 _ (done_ends 0 (unread_slice row u) refl) (read_ends st s p row u))

slice_ends : (st : State) (s : Option Sequence) (p : Option Open) (row start : ℕ) (u : List ℕ) → Ends 0 (slice_unit st s p row start u)
unfolding slice_unit
slice_ends st (Some s) (Some p) row start u = slice_in_ends st s p row start u
slice_ends st (Some s) None row start u = refuse_ends 0 _ start
slice_ends st None p row start u = refuse_ends 0 _ start

-- ---- what takes the extension unit that follows

record TakesOne (n : ℕ) (s : Among Part) : Type 0 where
  taken : (p : Part) (t rest : Units) → s.Stands p t rest → (w : List ℕ) × (t ≡ w ∷ rest) × (value_of w ≡ 0xB5) × (picture_part p ≡ n)

seq_takes : {A : Type 0} {s : Among A} {k : A → Among Part} (n : ℕ) → Keeps s → ((a : A) → TakesOne n (k a)) → TakesOne n (seq s k)
unfolding seq
seq_takes n h i = record {
  taken = λ p t rest x.
      let y = (i x.0).taken p x.1 rest x.3 in
      (y.0, sym (h.kept x.0 t x.1 x.2) ∙ y.1, y.2, y.3);
}

behind_stands : {V : Type 0} (own : ℕ) (o : Option (List ℕ)) (start : ℕ) (s : InUnit V) (v : V) (t rest : Units) → (extension_behind own o start s).Stands v t rest
    → (w : List ℕ) × (o ≡ Some w) × (value_of w ≡ 0xB5) × (rest ≡ t)
unfolding extension_behind choose refuse
behind_stands own None start s v t rest x = absurd x
behind_stands own (Some w) start s v t rest x =
    elim x [
      | inl y ↦ (w, refl, eqb-true (value_of w) 0xB5 y.0, (extension_keeps own w start s).kept v t rest y.1)
      | inr y ↦ absurd y.1
    ]

next_is : (o : Option (List ℕ)) (w : List ℕ) (t mid : Units) → o ≡ Some w → Next o t mid → t ≡ w ∷ mid
next_is o w t mid e n = subst (λ (x : Option (List ℕ)). Next x t mid) e n

extended_takes : {V : Type 0} (n own : ℕ) (s : InUnit V) (k : V → Among Part) → ((v : V) → Ends n (k v))
    → TakesOne n (seq (here unit_bits) (λ next. seq unit_at (λ v. seq (extension_behind own v next s) k)))
unfolding seq here unit_at
extended_takes n own s k h = record {
  taken = λ p t rest x.
      let y = x.3 in
      let z = y.3 in
      let b = behind_stands own y.0 x.0 s z.0 y.1 z.1 z.2 in
      let e = (h z.0).ended p z.1 rest z.3 in
      let all : t ≡ b.0 ∷ y.1 = sym x.2.1 ∙ next_is y.0 b.0 x.1 y.1 b.1 y.2 in
      let left : rest ≡ y.1 = e.0 ∙ b.3 in
      (b.0, all ∙ ap (λ (l : Units). b.0 ∷ l) (sym left), b.2, e.1);
}

sequence_takes : (st : State) (start : ℕ) (u : List ℕ) → TakesOne 0 (sequence_unit st start u)
unfolding sequence_unit
sequence_takes st start u =
    seq_takes 0 (close_keeps st start) (λ closed.
    seq_takes 0 (due_keeps st start) (λ due.
    seq_takes 0 (inside_keeps u _) (λ info.
    extended_takes 0 1 _ _ (λ extension.
    seq_ends 0 (rule_keeps _ _ start) (λ same.
    done_ends 0 (sequence (record { info = info; extension = extension })) refl)))))

picture_takes : (st : State) (start : ℕ) (u : List ℕ) → TakesOne 1 (picture_unit st start u)
unfolding picture_unit
picture_takes st start u =
    seq_takes 1 (close_keeps st start) (λ closed.
    seq_takes 1 (inside_keeps u _) (λ info.
    extended_takes 1 8 _ _ (λ extension.
    seq_ends 1 (rule_keeps _ _ start) (λ pair.
    seq_ends 1 (rule_keeps _ _ start) (λ anchor.
    done_ends 1 (picture info extension) refl)))))

-- ---- one unit

-- a picture unit is one
abbrev pub own_count : ℕ → ℕ
own_count value = if nat_eq value 0x00 then 1 else 0

pub head_is : (u : List ℕ) (t : Units) → is_end (value_of u) ≡ false → picture_units (u ∷ t) ≡ own_count (value_of u) + picture_units t
unfolding picture_units
head_is u t off = rw off refl

pub end_is : (u : List ℕ) (t : Units) → is_end (value_of u) ≡ true → picture_units (u ∷ t) ≡ 0
unfolding picture_units
end_is u t on = rw on refl

-- the value isn't that of the end code
other_is : (value k : ℕ) → nat_eq value k ≡ true → is_end k ≡ false → is_end value ≡ false
other_is value k on off = ap is_end (eqb-true value k on) ∙ off

slice_is : (value : ℕ) → nat_le value 0xAF ≡ true → is_end value ≡ false
unfolding is_end
slice_is value low =
    elim (cases_Bool (nat_eq value 0xB7)) [
      | inl on ↦ let e = eqb-true value 0xB7 on in let l = leb-true value 0xAF low in absurd (omega arith)
      | inr off ↦ off
    ]

extension_is : (w : List ℕ) (us : Units) → value_of w ≡ 0xB5 → picture_units (w ∷ us) ≡ picture_units us
unfolding is_end
extension_is w us e =
    let h = head_is w us (ap is_end e) in
    let z : own_count (value_of w) ≡ 0 = ap own_count e in
    omega (arith, h, z)

-- what a unit that was read has of pictures, and that a sequence header is in force behind it
record Counts (st : State) (us : Units) (x : Bool × Part) (mid : Units) : Type 0 where
  more : x.0 ≡ true → picture_units us ≡ picture_part x.1 + picture_units mid
  none : x.0 ≡ false → (picture_units us ≡ picture_part x.1) × (open_count (after st x.1).picture ≡ 0)
  known : IsKnown (after st x.1)

plain_counts : (st : State) (u : List ℕ) (t : Units) (x : Bool × Part) (mid : Units) (s : Among Part) → Ends 0 s → is_end (value_of u) ≡ false → nat_eq (value_of u) 0x00 ≡ false → IsKnown (after st x.1)
    → (onward s).Stands x t mid → Counts st (u ∷ t) x mid
unfolding onward seq done
plain_counts st u t x mid s h off other known e =
    let y = h.ended e.0 t e.1 e.2 in
    let part : picture_part x.1 ≡ 0 = ap (λ (z : Bool × Part). picture_part z.1) e.3.0 ∙ y.1 in
    let rest : picture_units mid ≡ picture_units t = ap picture_units (e.3.1 ∙ y.0) in
    let none : own_count (value_of u) ≡ 0 = rw other refl in
    let head : picture_units (u ∷ t) ≡ own_count (value_of u) + picture_units t = head_is u t off in
    record {
      more = λ on. omega (arith, part, rest, head, none);
      none = λ no. absurd (both_ways x.0 no (ap (λ (z : Bool × Part). z.0) e.3.0));
      known = known;
    }

taking_counts : (st : State) (u : List ℕ) (t : Units) (x : Bool × Part) (mid : Units) (s : Among Part) (n : ℕ) → TakesOne n s → is_end (value_of u) ≡ false → own_count (value_of u) ≡ n → IsKnown (after st x.1)
    → (onward s).Stands x t mid → Counts st (u ∷ t) x mid
unfolding onward seq done
taking_counts st u t x mid s n h off own known e =
    let y = h.taken e.0 t e.1 e.2 in
    let part : picture_part x.1 ≡ n = ap (λ (z : Bool × Part). picture_part z.1) e.3.0 ∙ y.3 in
    let rest : picture_units t ≡ picture_units mid = ap picture_units y.1 ∙ extension_is y.0 e.1 y.2 ∙ ap picture_units (sym e.3.1) in
    let head = head_is u t off in
    record {
      more = λ on. head ∙ omega (arith, own, part, rest);
      none = λ no. absurd (both_ways x.0 no (ap (λ (z : Bool × Part). z.0) e.3.0));
      known = known;
    }

end_counts : (st : State) (start : ℕ) (u : List ℕ) (t : Units) (x : Bool × Part) (mid : Units) → is_end (value_of u) ≡ true → IsKnown (after st x.1)
    → (final (end_unit st start)).Stands x t mid → Counts st (u ∷ t) x mid
unfolding final end_unit seq done after
end_counts st start u t x mid on known e =
    let is : x.1 ≡ ending = ap (λ (z : Bool × Part). z.1) e.3.0 ∙ e.2.3.3.0 in
    record {
      more = λ yes. absurd (both_ways x.0 (ap (λ (z : Bool × Part). z.0) e.3.0) yes);
      none = λ no. (end_is u t on ∙ sym (ap picture_part is), ap (λ (p : Part). open_count (after st p).picture) is);
      known = known;
    }

picture_own : (value : ℕ) → nat_eq value 0x00 ≡ true → own_count value ≡ 1
picture_own value on = rw on refl

other_own : (value : ℕ) → nat_eq value 0x00 ≡ false → own_count value ≡ 0
other_own value off = rw off refl

later_counts : (st : State) (start : ℕ) (u : List ℕ) (x : Bool × Part) (t mid : Units) → IsKnown st → (later_unit st start (value_of u) u).Stands x t mid → Counts st (u ∷ t) x mid
unfolding later_unit choose refuse is_end
later_counts st start u x t mid k e =
    let known = known_after st x.1 k in
    elim e [
      | inl y ↦ taking_counts st u t x mid _ 1 (picture_takes st start u) (other_is (value_of u) 0x00 y.0 refl) (picture_own (value_of u) y.0) known y.1
      | inr y ↦ elim y.1 [
        | inl z ↦ plain_counts st u t x mid _ (slice_ends st _ _ _ start u) (slice_is (value_of u) z.0) y.0 known z.1
        | inr z ↦ elim z.1 [
          | inl a ↦ plain_counts st u t x mid _ (done_ends 0 (skipped_unit u) refl) (other_is (value_of u) 0xB2 a.0 refl) y.0 known a.1
          | inr a ↦ elim a.1 [
            | inl b ↦ plain_counts st u t x mid _ (extension_ends st start u) (other_is (value_of u) 0xB5 b.0 refl) y.0 known b.1
            | inr b ↦ elim b.1 [
              | inl c ↦ end_counts st start u t x mid c.0 known c.1
              | inr c ↦ elim c.1 [
                | inl d ↦ plain_counts st u t x mid _ (group_ends st start u) (other_is (value_of u) 0xB8 d.0 refl) y.0 known d.1
                | inr d ↦ elim d.1 [ inl f ↦ absurd f.1 | inr f ↦ absurd f.1 ]
              ]
            ]
          ]
        ]
      ]
    ]

sequence_other : (value : ℕ) → nat_eq value 0xB3 ≡ true → nat_eq value 0x00 ≡ false
sequence_other value on = ap (λ (n : ℕ). nat_eq n 0x00) (eqb-true value 0xB3 on)

known_counts : (st : State) (start : ℕ) (u : List ℕ) (x : Bool × Part) (t mid : Units) → KnownBy st u → (known_unit st start (value_of u) u).Stands x t mid → Counts st (u ∷ t) x mid
unfolding known_unit choose is_end
known_counts st start u x t mid k e =
    elim e [
      | inl y ↦ taking_counts st u t x mid _ 0 (sequence_takes st start u) (other_is (value_of u) 0xB3 y.0 refl) (other_own (value_of u) (sequence_other (value_of u) y.0)) (sequence_known st start u x t mid y.1) y.1
      | inr y ↦ elim y.1 [
        | inl z ↦ later_counts st start u x t mid z.0 z.1
        | inr z ↦ let h = rw (z.0, y.0) at k in absurd cc
      ]
    ]

over_counts : (st : State) (x : Bool × Part) (mid : Units) → IsKnown st → (text_end st 0).Stands x [] mid → Counts st [] x mid
unfolding text_end seq done picture_units after
over_counts st x mid k e =
    let is = e.3.3.0 in
    record {
      more = λ yes. absurd (both_ways x.0 (ap (λ (z : Bool × Part). z.0) is) yes);
      none = λ no. (sym (ap (λ (z : Bool × Part). picture_part z.1) is), ap (λ (z : Bool × Part). open_count (after st z.1).picture) is);
      known = known_after st x.1 k;
    }

unit_counts : (st : State) (us : Units) → KnownAt st us → (x : Bool × Part) (mid : Units) → unit_read st us ≡ good (x, mid) → Counts st us x mid
unfolding unit_read
unit_counts st [] k x mid e = over_counts st x mid k ((text_end_lawful st 0).found x [] mid e)
unit_counts st (u ∷ us) k x mid e = known_counts st (unit_bits (u ∷ us)) u x us mid k ((known_lawful st (unit_bits (u ∷ us)) (value_of u) u).found x us mid e)

-- ---- all units

-- what is told of units has so many pictures; none is open behind them, and a sequence header is in force
abbrev pub Told : Between → Units → Course → Type 0
Told b us (Ok x) =
    (length (pictures_in x.0) ≡ open_count b.state.picture + picture_units us)
    × (open_count (x.1).state.picture ≡ 0) × IsKnown (x.1).state
Told b us (Err f) = Unit {0}

told_behind : (b : Between) (us : Units) (p : Part) (mid : Units) (c : Course) → Told (after_part b p) mid c → picture_units us ≡ picture_part p + picture_units mid → Told b us (behind (told_by b.state b.store p) c)
told_behind b us p mid (Err f) h e = tt
told_behind b us p mid (Ok x) h e =
    let es = told_by b.state b.store p in
    let all : length (pictures_in (es ++ x.0)) ≡ length (pictures_in es) + length (pictures_in x.0) = ap length (pictures_in-append es x.0) ∙ length-append (pictures_in es) (pictures_in x.0) in
    (omega (arith, h.0, e, all, part_counts b p), h.1, h.2)

told_last : (b : Between) (us : Units) (p : Part) → picture_units us ≡ picture_part p → open_count (after b.state p).picture ≡ 0 → IsKnown (after b.state p) → Told b us (behind (told_by b.state b.store p) (Ok ([], after_part b p)))
told_last b us p e none k =
    let es = told_by b.state b.store p in
    let all : length (pictures_in (es ++ [])) ≡ length (pictures_in es) + 0 = ap length (pictures_in-append es []) ∙ length-append (pictures_in es) [] in
    (omega (arith, e, none, all, part_counts b p), none, k)

told_once : (b : Between) (us : Units) (r : Result ((Bool × Part) × Units) (FaultKind × ℕ)) → ((x : Bool × Part) (mid : Units) → r ≡ good (x, mid) → Counts b.state us x mid)
    → ((p : Part) (mid : Units) → r ≡ good ((true, p), mid) → IsKnown (after b.state p) → Told (after_part b p) mid (units_read (after_part b p) mid)) → Told b us (bind r (part_read b))
unfolding bind
told_once b us (Err f) h ih = tt
told_once b us (Ok ((false, p), mid)) h ih =
    let c = h (false, p) mid refl in
    let n = c.none refl in
    told_last b us p n.0 n.1 c.known
told_once b us (Ok ((true, p), mid)) h ih =
    let c = h (true, p) mid refl in
    told_behind b us p mid (units_read (after_part b p) mid) (ih p mid refl c.known) (c.more refl)

told_n : (n : ℕ) (b : Between) (us : Units) → length us < n → KnownAt b.state us → Told b us (units_read b us)
told_n zero b us lt k = absurd (omega arith)
told_n (suc n) b us lt k =
    subst (Told b us) (sym (read_once b us))
    (told_once b us (unit_read b.state us) (unit_counts b.state us k) (λ p mid e known.
    told_n n (after_part b p) mid (let less = unit_less b.state us mid true p e refl in omega arith) (known_at (after b.state p) mid known)))

pub pictures_told : (b : Between) (us : Units) → KnownAt b.state us → Told b us (units_read b us)
pictures_told b us k = told_n (suc (length us)) b us (omega arith) k
