-- What one unit gives: a picture, a sequence or a group from a unit of its own value alone, and nothing of the units before
-- those that are left.
use Rattle.std.proofs.Common.{◌≡◌, ℕ, ◌<◌, ◌^◌, Bool, true, false, List, [], ◌∷◌, ◌++◌, Option, Some, None, inl, inr, sym, ap, subst, ◌∙◌, append_assoc}
use Rattle.std.specs.Prelude.{nat_eq}
use Rattle.std.proofs.lemmas.Bool.{eqb-true}
use Rattle.m2v_bits.specs.Syntax.{done, seq, rule, choose, here, renamed}
use Rattle.m2v_bits.specs.Leaves.{bits_at}
use Rattle.m2v_bits.proofs.SyntaxLaws.{good}
use Rattle.m2v_head.specs.Headers.{picture_at}
use Rattle.m2v_head.specs.declared.picture.PictureInfo.{PictureInfo}
use Rattle.m2v_model.specs.declared.fault.FaultKind.{FaultKind}
use Rattle.m2v_model.specs.declared.state.Sequence.{Sequence}
use Rattle.m2v_model.specs.declared.state.Open.{Open}
use Rattle.m2v_model.specs.declared.state.State.{State}
use Rattle.m2v_model.specs.Units.{Units, unit_bits, unit_at, inside, body, Next}
use Rattle.m2v_model.specs.Faults.{InUnit}
use Rattle.m2v_model.specs.Headers.{whole_header, picture_in}
use Rattle.m2v_model.specs.Looking.{refuse}
use Rattle.m2v_model.specs.Streams.{Part, Among, sequence, group, picture, matrices, slice, unread_slice, skipped_unit, ending, over, value_of, close, no_second_field_due, id_at, extension_in, extension_behind, sequence_unit, group_unit, picture_unit, matrix_unit, extension_unit, read_slice, slice_in, slice_unit, end_unit, onward, final, later_unit, known_unit, text_end}
use Rattle.m2v_model.specs.ByPieces.{unit_read}
use Rattle.m2v_model.proofs.StreamLaws.{known_lawful, text_end_lawful}
use Rattle.m2v_model.proofs.SplitLaws.{IsKnown}

-- units, of which the first ones were taken
abbrev pub IsBehind : Units → Units → Type 0
IsBehind t rest = (taken : Units) × (t ≡ taken ++ rest)

-- a value that stands is so, and some units were taken
record Gives {V : Type 0} (P : V → Type 0) (s : Among V) : Type 0 where
  gives : (v : V) (t rest : Units) → s.Stands v t rest → P v × IsBehind t rest

abbrev Any : {V : Type 0} → V → Type 0
Any v = Unit {0}

-- ---- elements

rule_gives : (b : Bool) (kind : FaultKind) (at : ℕ) → Gives Any (rule b kind at)
unfolding rule
rule_gives b kind at = record { gives = λ v t rest s. (tt, ([], sym s.1)) }

here_gives : (left : Units → ℕ) → Gives Any (here left)
unfolding here
here_gives left = record { gives = λ v t rest s. (tt, ([], sym s.1)) }

inside_gives : {V : Type 0} (P : V → Type 0) (u : List ℕ) (s : InUnit V) → ((v : V) (t end : List Bool) → s.Stands v t end → P v) → Gives P (inside u s)
unfolding inside
inside_gives P u s h = record { gives = λ v t rest x. (h v (body u) x.1.0 x.1.1, ([], sym x.0)) }

inside_any : {V : Type 0} (u : List ℕ) (s : InUnit V) → Gives Any (inside u s)
inside_any u s = inside_gives Any u s (λ v t end x. tt)

next_behind : (o : Option (List ℕ)) (t rest : Units) → Next o t rest → IsBehind t rest
next_behind None t rest n = ([], n.0 ∙ sym n.1)
next_behind (Some u) t rest n = (u ∷ [], n)

unit_gives : Gives Any unit_at
unfolding unit_at
unit_gives = record { gives = λ v t rest s. (tt, next_behind v t rest s) }

done_gives : {V : Type 0} (P : V → Type 0) (v : V) → P v → Gives P (done v)
unfolding done
done_gives P v h = record { gives = λ w t rest s. (subst P (sym s.0) h, ([], sym s.1)) }

refuse_gives : {V : Type 0} (P : V → Type 0) (kind : FaultKind) (at : ℕ) → Gives P (refuse kind at)
unfolding refuse
refuse_gives P kind at = record { gives = λ v t rest s. absurd s }

both_behind : (t mid rest : Units) → IsBehind t mid → IsBehind mid rest → IsBehind t rest
both_behind t mid rest a b = (a.0 ++ b.0, a.1 ∙ ap (λ (l : Units). a.0 ++ l) b.1 ∙ sym (append_assoc a.0 b.0 rest))

seq_gives : {A B : Type 0} {s : Among A} {k : A → Among B} (Q : A → Type 0) (P : B → Type 0) → Gives Q s → ((a : A) → Q a → Gives P (k a)) → Gives P (seq s k)
unfolding seq
seq_gives Q P h i = record {
  gives = λ v t rest x.
      let y = h.gives x.0 t x.1 x.2 in
      let z = (i x.0 y.0).gives v x.1 rest x.3 in
      (z.0, both_behind t x.1 rest y.1 z.1);
}

then_gives : {A B : Type 0} {s : Among A} {k : A → Among B} (P : B → Type 0) → Gives Any s → ((a : A) → Gives P (k a)) → Gives P (seq s k)
then_gives P h i = seq_gives Any P h (λ a any. i a)

choose_gives : {V : Type 0} {s z : Among V} (P : V → Type 0) (b : Bool) → (b ≡ true → Gives P s) → (b ≡ false → Gives P z) → Gives P (choose b s z)
unfolding choose
choose_gives P b h i = record {
  gives = λ v t rest x.
      elim x [
        | inl y ↦ (h y.0).gives v t rest y.1
        | inr y ↦ (i y.0).gives v t rest y.1
      ];
}

close_gives : (st : State) (start : ℕ) → Gives Any (close st start)
unfolding close
close_gives st start = rule_gives _ _ start

due_gives : (st : State) (start : ℕ) → Gives Any (no_second_field_due st start)
unfolding no_second_field_due
due_gives st start = rule_gives _ _ start

-- no picture is left open, and no first field waits
shut_gives : {B : Type 0} (P : B → Type 0) (st : State) (start : ℕ) (k : Unit {0} → Unit {0} → Among B) → ((closed due : Unit {0}) → Gives P (k closed due))
    → Gives P (seq (close st start) (λ closed. seq (no_second_field_due st start) (λ due. k closed due)))
shut_gives P st start k h = then_gives P (close_gives st start) (λ closed. then_gives P (due_gives st start) (λ due. h closed due))

id_gives : (u : List ℕ) → Gives Any (id_at u)
unfolding id_at
id_gives u = inside_any u _

extension_gives : {V : Type 0} (own : ℕ) (u : List ℕ) (start : ℕ) (s : InUnit V) → Gives Any (extension_in own u start s)
unfolding extension_in
extension_gives own u start s = then_gives Any (id_gives u) (λ id. then_gives Any (rule_gives _ _ start) (λ own_id. inside_any u s))

behind_gives : {V : Type 0} (own : ℕ) (o : Option (List ℕ)) (start : ℕ) (s : InUnit V) → Gives Any (extension_behind own o start s)
unfolding extension_behind
behind_gives own None start s = refuse_gives Any _ start
behind_gives own (Some u) start s = choose_gives Any _ (λ on. extension_gives own u start s) (λ off. refuse_gives Any _ start)

-- ---- parts

-- a part with others behind it: what it tells of the unit that gives it, by the value of its start code, where there is a unit
abbrev pub PartFits : State → Option ℕ → Part → Type 0
PartFits st v (sequence s) = v ≡ Some 0xB3
PartFits st v (group g) = v ≡ Some 0xB8
PartFits st v (picture info extension) = (v ≡ Some 0x00) × (info.vbv_delay < 2 ^ 16) × IsKnown st
PartFits st v (matrices m) = Unit {0}
PartFits st v (slice row x) = Unit {0}
PartFits st v (unread_slice row u) = Unit {0}
PartFits st v (skipped_unit u) = Unit {0}
PartFits st v ending = ⊥
PartFits st v over = ⊥

-- nothing follows the part
abbrev pub IsLast : Part → Type 0
IsLast (sequence s) = ⊥
IsLast (group g) = ⊥
IsLast (picture info extension) = ⊥
IsLast (matrices m) = ⊥
IsLast (slice row x) = ⊥
IsLast (unread_slice row u) = ⊥
IsLast (skipped_unit u) = ⊥
IsLast ending = Unit {0}
IsLast over = Unit {0}

abbrev FitsWhere : State → Option ℕ → Bool → Part → Type 0
FitsWhere st v true p = PartFits st v p
FitsWhere st v false p = IsLast p

abbrev UnitFits : State → Option ℕ → Bool × Part → Type 0
UnitFits st v x = FitsWhere st v x.0 x.1

delay_in : (info : PictureInfo) (t end : List Bool) → (whole_header picture_in).Stands info t end → info.vbv_delay < 2 ^ 16
unfolding whole_header picture_in picture_at seq done renamed bits_at
delay_in info t end x =
    let y = x.2 in
    let is : info.vbv_delay ≡ y.3.3.0 = ap (λ (i : PictureInfo). i.vbv_delay) (x.3.3.0 ∙ y.3.3.3.3.3.3.0) in
    subst (λ (n : ℕ). n < 2 ^ 16) (sym is) y.3.3.2.0

sequence_gives : (st : State) (v : Option ℕ) (start : ℕ) (u : List ℕ) → v ≡ Some 0xB3 → Gives (PartFits st v) (sequence_unit st start u)
unfolding sequence_unit
sequence_gives st v start u e =
    shut_gives (PartFits st v) st start _ (λ closed due.
    then_gives _ (inside_any u _) (λ info.
    then_gives _ (here_gives unit_bits) (λ next.
    then_gives _ unit_gives (λ w.
    then_gives _ (behind_gives _ w next _) (λ extension.
    then_gives _ (rule_gives _ _ start) (λ same.
    done_gives _ (sequence (record { info = info; extension = extension })) e))))))

group_gives : (st : State) (v : Option ℕ) (start : ℕ) (u : List ℕ) → v ≡ Some 0xB8 → Gives (PartFits st v) (group_unit st start u)
unfolding group_unit
group_gives st v start u e =
    shut_gives (PartFits st v) st start _ (λ closed due.
    then_gives _ (inside_any u _) (λ g.
    done_gives _ (group g) e))

picture_gives : (st : State) (v : Option ℕ) (start : ℕ) (u : List ℕ) → v ≡ Some 0x00 → IsKnown st → Gives (PartFits st v) (picture_unit st start u)
unfolding picture_unit
picture_gives st v start u e k =
    let P = PartFits st v in
    then_gives P (close_gives st start) (λ closed.
    seq_gives (λ (info : PictureInfo). info.vbv_delay < 2 ^ 16) P (inside_gives (λ (info : PictureInfo). info.vbv_delay < 2 ^ 16) u (whole_header picture_in) delay_in) (λ info small.
    then_gives P (here_gives unit_bits) (λ next.
    then_gives P unit_gives (λ w.
    then_gives P (behind_gives _ w next _) (λ extension.
    then_gives P (rule_gives _ _ start) (λ pair.
    then_gives P (rule_gives _ _ start) (λ anchor.
    done_gives P (picture info extension) (e, small, k))))))))

matrix_gives : (st : State) (v : Option ℕ) (start : ℕ) (u : List ℕ) → Gives (PartFits st v) (matrix_unit st start u)
unfolding matrix_unit
matrix_gives st v start u =
    let P = PartFits st v in
    then_gives P (rule_gives _ _ start) (λ allowed.
    then_gives P (inside_any u _) (λ m.
    done_gives P (matrices m) tt))

other_gives : (st : State) (v : Option ℕ) (start : ℕ) (u : List ℕ) → Gives (PartFits st v) (extension_unit st start u)
unfolding extension_unit
other_gives st v start u =
    let P = PartFits st v in
    then_gives P (id_gives u) (λ id.
    choose_gives P _ (λ on. refuse_gives P _ start) (λ off.
    choose_gives P _ (λ on. matrix_gives st v start u) (λ none.
    choose_gives P _ (λ on. refuse_gives P _ start) (λ no_more.
    done_gives P (skipped_unit u) tt))))

read_gives : (st : State) (v : Option ℕ) (s : Sequence) (p : Open) (row : ℕ) (u : List ℕ) → Gives (PartFits st v) (read_slice st s p row u)
unfolding read_slice
read_gives st v s p row u = let P = PartFits st v in then_gives P (inside_any u _) (λ x. done_gives P (slice row x) tt)

slice_in_gives : (st : State) (v : Option ℕ) (s : Sequence) (p : Open) (row start : ℕ) (u : List ℕ) → Gives (PartFits st v) (slice_in st s p row start u)
unfolding slice_in
slice_in_gives st v s p row start u =
    let P = PartFits st v in
    then_gives P (rule_gives _ _ start) (λ order.
    choose_gives P _ (λ on. done_gives P (unread_slice row u) tt) (λ off. read_gives st v s p row u))

slice_gives : (st : State) (v : Option ℕ) (s : Option Sequence) (p : Option Open) (row start : ℕ) (u : List ℕ) → Gives (PartFits st v) (slice_unit st s p row start u)
unfolding slice_unit
slice_gives st v (Some s) (Some p) row start u = slice_in_gives st v s p row start u
slice_gives st v (Some s) None row start u = refuse_gives (PartFits st v) _ start
slice_gives st v None p row start u = refuse_gives (PartFits st v) _ start

end_gives : (st : State) (start : ℕ) → Gives IsLast (end_unit st start)
unfolding end_unit
end_gives st start = shut_gives IsLast st start _ (λ closed due. done_gives IsLast ending tt)

onward_gives : (st : State) (v : Option ℕ) (s : Among Part) → Gives (PartFits st v) s → Gives (UnitFits st v) (onward s)
unfolding onward
onward_gives st v s h = seq_gives (PartFits st v) (UnitFits st v) h (λ p fits. done_gives (UnitFits st v) (true, p) fits)

final_gives : (st : State) (v : Option ℕ) (s : Among Part) → Gives IsLast s → Gives (UnitFits st v) (final s)
unfolding final
final_gives st v s h = seq_gives IsLast (UnitFits st v) h (λ p l. done_gives (UnitFits st v) (false, p) l)

value_is : (value k : ℕ) → nat_eq value k ≡ true → Some value ≡ Some k
value_is value k on = ap Some (eqb-true value k on)

later_gives : (st : State) (start : ℕ) (u : List ℕ) → IsKnown st → Gives (UnitFits st (Some (value_of u))) (later_unit st start (value_of u) u)
unfolding later_unit
later_gives st start u k =
    let v = Some (value_of u) in
    let P = UnitFits st v in
    choose_gives P _ (λ on. onward_gives st v _ (picture_gives st v start u (value_is (value_of u) 0x00 on) k)) (λ a.
    choose_gives P _ (λ on. onward_gives st v _ (slice_gives st v _ _ _ start u)) (λ b.
    choose_gives P _ (λ on. onward_gives st v _ (done_gives (PartFits st v) (skipped_unit u) tt)) (λ c.
    choose_gives P _ (λ on. onward_gives st v _ (other_gives st v start u)) (λ d.
    choose_gives P _ (λ on. final_gives st v _ (end_gives st start)) (λ e.
    choose_gives P _ (λ on. onward_gives st v _ (group_gives st v start u (value_is (value_of u) 0xB8 on))) (λ f.
    choose_gives P _ (λ on. refuse_gives P _ start) (λ g. refuse_gives P _ start)))))))

known_gives : (st : State) (start : ℕ) (u : List ℕ) → Gives (UnitFits st (Some (value_of u))) (known_unit st start (value_of u) u)
unfolding known_unit
known_gives st start u =
    let v = Some (value_of u) in
    let P = UnitFits st v in
    choose_gives P _ (λ on. onward_gives st v _ (sequence_gives st v start u (value_is (value_of u) 0xB3 on))) (λ off.
    choose_gives P _ (λ k. later_gives st start u k) (λ none. done_gives P (true, skipped_unit u) tt))

over_gives : (st : State) (start : ℕ) → Gives (UnitFits st None) (text_end st start)
unfolding text_end
over_gives st start =
    let P = UnitFits st None in
    then_gives P (rule_gives _ _ start) (λ some.
    then_gives P (close_gives st start) (λ closed.
    done_gives P (false, over) tt))

-- ---- units

abbrev pub first_value : Units → Option ℕ
first_value [] = None
first_value (u ∷ us) = Some (value_of u)

-- units behind the first one
abbrev pub IsOnward : Units → Units → Type 0
IsOnward [] mid = ⊥
IsOnward (u ∷ us) mid = IsBehind us mid

pub record UnitSays (st : State) (us : Units) (x : Bool × Part) (mid : Units) : Type 0 where
  pub more : x.0 ≡ true → PartFits st (first_value us) x.1 × IsOnward us mid
  pub last : x.0 ≡ false → IsLast x.1

last_where : (st : State) (v : Option ℕ) (b : Bool) (p : Part) → FitsWhere st v b p → b ≡ false → IsLast p
last_where st v true p l e = absurd cc
last_where st v false p l e = l

fits_where : (st : State) (v : Option ℕ) (b : Bool) (p : Part) → FitsWhere st v b p → b ≡ true → PartFits st v p
fits_where st v true p l e = l
fits_where st v false p l e = absurd cc

flag_last : (st : State) (x : Bool × Part) (t mid : Units) → (text_end st 0).Stands x t mid → x.0 ≡ false
unfolding text_end seq done
flag_last st x t mid e = ap (λ (z : Bool × Part). z.0) e.3.3.0

pub unit_says : (st : State) (us : Units) (x : Bool × Part) (mid : Units) → unit_read st us ≡ good (x, mid) → UnitSays st us x mid
unfolding unit_read
unit_says st [] x mid e =
    let s = (text_end_lawful st 0).found x [] mid e in
    let g = (over_gives st 0).gives x [] mid s in
    let no = flag_last st x [] mid s in
    record { more = λ on. absurd (let d : true ≡ false = sym on ∙ no in cc); last = last_where st None x.0 x.1 g.0 }
unit_says st (u ∷ us) x mid e =
    let s = (known_lawful st (unit_bits (u ∷ us)) (value_of u) u).found x us mid e in
    let g = (known_gives st (unit_bits (u ∷ us)) u).gives x us mid s in
    record { more = λ on. (fits_where st (Some (value_of u)) x.0 x.1 g.0 on, g.1); last = last_where st (Some (value_of u)) x.0 x.1 g.0 }
