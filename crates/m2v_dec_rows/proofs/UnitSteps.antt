-- What one unit is read as, by what stands in it.
use Rattle.std.proofs.Common.{◌≡◌, ℕ, ◌<◌, ◌≤◌, true, false, List, [], ◌∷◌, Option, Some, is_some, Ok, Err, refl, sym, ap, subst, ◌∙◌, arith}
use Rattle.std.specs.Prelude.{nat_eq, nat_le, nat_lt, ◌&&◌, ◌-◌}
use Rattle.std.proofs.lemmas.Bool.{and_parts, leb-true, ne_eqb, lt-ltb, le-leb}
use Rattle.m2v_bits.specs.Syntax.{seq, bind, rule, done, choose}
use Rattle.m2v_model.specs.declared.fault.FaultKind.{FaultKind}
use Rattle.m2v_model.specs.declared.state.Sequence.{Sequence}
use Rattle.m2v_model.specs.declared.state.Open.{Open}
use Rattle.m2v_model.specs.declared.state.State.{State}
use Rattle.m2v_model.specs.Units.{Units, unit_bits}
use Rattle.m2v_model.specs.States.{picture_rows}
use Rattle.m2v_model.specs.Streams.{Part, value_of, unread_slice, slice_in, slice_unit, later_unit, known_unit, text_end, onward}
use Rattle.m2v_model.specs.ByPieces.{unit_read}
use Rattle.m2v_dec_unit.specs.Among.{is_slice}

-- ---- a unit that is a slice

pub slice_value : (st : State) (value : ℕ) → is_slice st value ≡ true → 1 ≤ value
slice_value st value on = leb-true 1 value (and_parts (nat_le 1 value) (nat_le value 0xAF) (and_parts (is_some st.sequence) (nat_le 1 value && nat_le value 0xAF) on).1).0

slice_known : (st : State) (start value : ℕ) (u : List ℕ) (us : Units) → is_slice st value ≡ true → (known_unit st start value u).read us ≡ (onward (slice_unit st st.sequence st.picture (value - 1) start u)).read us
unfolding known_unit later_unit choose
slice_known st start value u us on =
    let a = and_parts (is_some st.sequence) (nat_le 1 value && nat_le value 0xAF) on in
    let b = and_parts (nat_le 1 value) (nat_le value 0xAF) a.1 in
    let low : 1 ≤ value = leb-true 1 value b.0 in
    let high : value ≤ 0xAF = leb-true value 0xAF b.1 in
    let not_sequence : nat_eq value 0xB3 ≡ false = ne_eqb value 0xB3 (λ e. omega (arith, e)) in
    let not_picture : nat_eq value 0x00 ≡ false = ne_eqb value 0x00 (λ e. omega (arith, e)) in
    rw (not_sequence, a.0, not_picture, b.1) refl

pub slice_ok : (st : State) (start value : ℕ) (u : List ℕ) (us : Units) (p : Part) → is_slice st value ≡ true → (slice_unit st st.sequence st.picture (value - 1) start u).read us ≡ Ok (p, us)
    → (known_unit st start value u).read us ≡ Ok ((true, p), us)
unfolding onward seq bind done
slice_ok st start value u us p on read = slice_known st start value u us on ∙ rw read refl

pub slice_err : (st : State) (start value : ℕ) (u : List ℕ) (us : Units) (f : FaultKind × ℕ) → is_slice st value ≡ true → (slice_unit st st.sequence st.picture (value - 1) start u).read us ≡ Err f
    → (known_unit st start value u).read us ≡ Err f
unfolding onward seq bind done
slice_err st start value u us f on read = slice_known st start value u us on ∙ rw read refl

-- ---- the next unit, or the end of the text

pub unit_some : (st : State) (us : Units) (u : List ℕ) (mid : Units) (start : ℕ) → us ≡ u ∷ mid → start ≡ unit_bits us → (known_unit st start (value_of u) u).read mid ≡ unit_read st us
unfolding unit_read
unit_some st us u mid start e s = ap (λ (n : ℕ). (known_unit st n (value_of u) u).read mid) (s ∙ ap unit_bits e) ∙ sym (ap (unit_read st) e)

pub unit_none : (st : State) (us : Units) → us ≡ [] → (text_end st 0).read [] ≡ unit_read st us
unfolding unit_read
unit_none st us e = sym (ap (unit_read st) e)

-- ---- a slice that stays unread

unread_direct : (st : State) (s : Sequence) (p : Open) (row start : ℕ) (u : List ℕ) (us : Units) → row < picture_rows s p → p.row ≤ row → p.slices_unread ≡ true → (slice_unit st (Some s) (Some p) row start u).read us ≡ Ok (unread_slice row u, us)
unfolding slice_unit slice_in seq bind rule choose done
unread_direct st s p row start u us below behind on =
    let low : nat_lt row (picture_rows s p) ≡ true = lt-ltb row (picture_rows s p) below in
    let high : nat_le p.row row ≡ true = le-leb p.row row behind in
    rw (low, high, on) refl

pub unread_reads : (st : State) (s : Sequence) (p : Open) (row start : ℕ) (u : List ℕ) (us : Units) → st.sequence ≡ Some s → st.picture ≡ Some p → row < picture_rows s p → p.row ≤ row → p.slices_unread ≡ true
    → (slice_unit st st.sequence st.picture row start u).read us ≡ Ok (unread_slice row u, us)
unread_reads st s p row start u us known is below behind on =
    subst (λ (q : Option Sequence). (slice_unit st q st.picture row start u).read us ≡ Ok (unread_slice row u, us)) (sym known)
    (subst (λ (o : Option Open). (slice_unit st (Some s) o row start u).read us ≡ Ok (unread_slice row u, us)) (sym is) (unread_direct st s p row start u us below behind on))
