-- Streams are lawful.
use Rattle.std.proofs.Common.{◌≡◌, sym, ℕ, ◌<◌, Bool, true, false, List, length, Option, Some, None, ap, arith}
use Rattle.std.proofs.lemmas.Bool.{both_ways}
use Rattle.m2v_bits.specs.Syntax.{seq, here, done}
use Rattle.m2v_bits.proofs.SyntaxLaws.{Lawful, done_lawful, here_lawful, rule_lawful, seq_lawful, choose_lawful, repeated_lawful, Onward}
use Rattle.m2v_bits.proofs.LeafLaws.{bits_lawful}
use Rattle.m2v_model.specs.declared.fault.FaultKind.TheVariants.{NoSequence, NotMpeg2, Unsupported, Truncated, Forbidden, SequenceChanged, SliceOrder, MissingMacroblocks, MissingReference, FieldPair}
use Rattle.m2v_model.specs.declared.state.Sequence.{Sequence}
use Rattle.m2v_model.specs.declared.state.Open.{Open}
use Rattle.m2v_model.specs.declared.state.State.{State}
use Rattle.m2v_model.specs.Units.{Units, unit_bits, unit_at, Next}
use Rattle.m2v_model.specs.Faults.{InUnit}
use Rattle.m2v_model.specs.Streams.{Part, Sofar, Among, value_of, close, no_second_field_due, id_at, extension_in, extension_behind, sequence_unit, group_unit, picture_unit, matrix_unit, extension_unit, read_slice, slice_in, slice_unit, end_unit, onward, final, later_unit, known_unit, text_end, next_unit, unit_round, units_from, stream_from, stream_at}
use Rattle.m2v_model.proofs.UnitLaws.{unit_lawful, inside_lawful}
use Rattle.m2v_model.proofs.LookLaws.{looking_lawful, refuse_lawful}
use Rattle.m2v_model.proofs.SliceLaws.{slice_lawful}
use Rattle.m2v_model.proofs.HeaderLaws.{whole_header_lawful, sequence_lawful, sequence_extension_lawful, group_lawful, picture_lawful, picture_extension_lawful, matrices_lawful}

-- ---- units

close_lawful : (st : State) (start : ℕ) → Lawful length (close st start)
unfolding close
close_lawful st start = rule_lawful length _ MissingMacroblocks start

due_lawful : (st : State) (start : ℕ) → Lawful length (no_second_field_due st start)
unfolding no_second_field_due
due_lawful st start = rule_lawful length _ FieldPair start

id_lawful : (u : List ℕ) → Lawful length (id_at u)
unfolding id_at
id_lawful u = inside_lawful u (looking_lawful (bits_lawful Truncated 4))

extension_in_lawful : {V : Type 0} {s : InUnit V} (own : ℕ) (u : List ℕ) (start : ℕ) → Lawful length s → Lawful length (extension_in own u start s)
unfolding extension_in
extension_in_lawful own u start ls =
    seq_lawful (id_lawful u) (λ id.
    seq_lawful (rule_lawful length _ NotMpeg2 start) (λ own_id.
    inside_lawful u ls))

extension_behind_lawful : {V : Type 0} {s : InUnit V} (own : ℕ) (u : Option (List ℕ)) (start : ℕ) → Lawful length s → Lawful length (extension_behind own u start s)
unfolding extension_behind
extension_behind_lawful own None start ls = refuse_lawful length NotMpeg2 start
extension_behind_lawful own (Some u) start ls = choose_lawful _ (extension_in_lawful own u start ls) (refuse_lawful length NotMpeg2 start)

-- what begins where no field waits for its second one
paired_lawful : {V : Type 0} {s : Among V} (st : State) (start : ℕ) → Lawful length s → Lawful length (seq (close st start) (λ closed. seq (no_second_field_due st start) (λ paired. s)))
paired_lawful st start ls = seq_lawful (close_lawful st start) (λ closed. seq_lawful (due_lawful st start) (λ paired. ls))

pub sequence_unit_lawful : (st : State) (start : ℕ) (u : List ℕ) → Lawful length (sequence_unit st start u)
unfolding sequence_unit
sequence_unit_lawful st start u =
    paired_lawful st start (
    seq_lawful (inside_lawful u (whole_header_lawful sequence_lawful)) (λ info.
    seq_lawful (here_lawful length unit_bits) (λ next.
    seq_lawful unit_lawful (λ v.
    seq_lawful (extension_behind_lawful 1 v next (whole_header_lawful (sequence_extension_lawful info))) (λ extension.
    seq_lawful (rule_lawful length _ SequenceChanged start) (λ same.
    done_lawful length _))))))

pub group_unit_lawful : (st : State) (start : ℕ) (u : List ℕ) → Lawful length (group_unit st start u)
unfolding group_unit
group_unit_lawful st start u = paired_lawful st start (seq_lawful (inside_lawful u (whole_header_lawful group_lawful)) (λ g. done_lawful length _))

pub picture_unit_lawful : (st : State) (start : ℕ) (u : List ℕ) → Lawful length (picture_unit st start u)
unfolding picture_unit
picture_unit_lawful st start u =
    seq_lawful (close_lawful st start) (λ closed.
    seq_lawful (inside_lawful u (whole_header_lawful picture_lawful)) (λ info.
    seq_lawful (here_lawful length unit_bits) (λ next.
    seq_lawful unit_lawful (λ v.
    seq_lawful (extension_behind_lawful 8 v next (whole_header_lawful (picture_extension_lawful _ info))) (λ extension.
    seq_lawful (rule_lawful length _ FieldPair start) (λ pair.
    seq_lawful (rule_lawful length _ MissingReference start) (λ anchor.
    done_lawful length _)))))))

matrix_unit_lawful : (st : State) (start : ℕ) (u : List ℕ) → Lawful length (matrix_unit st start u)
unfolding matrix_unit
matrix_unit_lawful st start u =
    seq_lawful (rule_lawful length _ Forbidden start) (λ allowed.
    seq_lawful (inside_lawful u (whole_header_lawful matrices_lawful)) (λ m.
    done_lawful length _))

extension_unit_lawful : (st : State) (start : ℕ) (u : List ℕ) → Lawful length (extension_unit st start u)
unfolding extension_unit
extension_unit_lawful st start u =
    seq_lawful (id_lawful u) (λ id.
    choose_lawful _ (refuse_lawful length Forbidden start)
    (choose_lawful _ (matrix_unit_lawful st start u)
    (choose_lawful _ (refuse_lawful length Unsupported start)
    (done_lawful length _))))

read_slice_lawful : (st : State) (s : Sequence) (p : Open) (row : ℕ) (u : List ℕ) → Lawful length (read_slice st s p row u)
unfolding read_slice
read_slice_lawful st s p row u = seq_lawful (inside_lawful u (slice_lawful _ _ row)) (λ x. done_lawful length _)

slice_unit_lawful : (st : State) (s : Option Sequence) (p : Option Open) (row start : ℕ) (u : List ℕ) → Lawful length (slice_unit st s p row start u)
unfolding slice_unit slice_in
slice_unit_lawful st (Some s) (Some p) row start u =
    seq_lawful (rule_lawful length _ SliceOrder start) (λ order.
    choose_lawful _ (done_lawful length _) (read_slice_lawful st s p row u))
slice_unit_lawful st (Some s) None row start u = refuse_lawful length SliceOrder start
slice_unit_lawful st None p row start u = refuse_lawful length SliceOrder start

pub end_unit_lawful : (st : State) (start : ℕ) → Lawful length (end_unit st start)
unfolding end_unit
end_unit_lawful st start = paired_lawful st start (done_lawful length _)

pub onward_lawful : {s : Among Part} → Lawful length s → Lawful length (onward s)
unfolding onward
onward_lawful ls = seq_lawful ls (λ p. done_lawful length _)

pub final_lawful : {s : Among Part} → Lawful length s → Lawful length (final s)
unfolding final
final_lawful ls = seq_lawful ls (λ p. done_lawful length _)

later_lawful : (st : State) (start value : ℕ) (u : List ℕ) → Lawful length (later_unit st start value u)
unfolding later_unit
later_lawful st start value u =
    choose_lawful _ (onward_lawful (picture_unit_lawful st start u))
    (choose_lawful _ (onward_lawful (slice_unit_lawful st _ _ _ start u))
    (choose_lawful _ (onward_lawful (done_lawful length _))
    (choose_lawful _ (onward_lawful (extension_unit_lawful st start u))
    (choose_lawful _ (final_lawful (end_unit_lawful st start))
    (choose_lawful _ (onward_lawful (group_unit_lawful st start u))
    (choose_lawful _ (refuse_lawful length Forbidden start)
    (refuse_lawful length Unsupported start)))))))

pub known_lawful : (st : State) (start value : ℕ) (u : List ℕ) → Lawful length (known_unit st start value u)
unfolding known_unit
known_lawful st start value u =
    choose_lawful _ (onward_lawful (sequence_unit_lawful st start u))
    (choose_lawful _ (later_lawful st start value u) (done_lawful length _))

pub text_end_lawful : (st : State) (start : ℕ) → Lawful length (text_end st start)
unfolding text_end
text_end_lawful st start =
    seq_lawful (rule_lawful length _ NoSequence start) (λ some.
    seq_lawful (close_lawful st start) (λ closed.
    done_lawful length _))

next_lawful : (st : State) (start : ℕ) (u : Option (List ℕ)) → Lawful length (next_unit st start u)
unfolding next_unit
next_lawful st start None = text_end_lawful st start
next_lawful st start (Some u) = known_lawful st start _ u

pub round_lawful : (s : Sofar) → Lawful length (unit_round s)
unfolding unit_round
round_lawful s =
    seq_lawful (here_lawful length unit_bits) (λ start.
    seq_lawful unit_lawful (λ u.
    seq_lawful (next_lawful s.state start u) (λ x.
    done_lawful length _)))

-- nothing follows the end of the text
text_ends : (st : State) (x : Bool × Part) (start : ℕ) (t mid : Units) → (text_end st start).Stands x t mid → x.0 ≡ false
unfolding text_end seq done
text_ends st x start t mid e = ap (λ (y : Bool × Part). y.0) e.3.3.0

next_takes : (st : State) (x : Bool × Part) (start : ℕ) (u : Option (List ℕ)) (t mid rest : Units) → Next u t mid → (next_unit st start u).Stands x mid rest → x.0 ≡ true → length rest < length t
unfolding next_unit
next_takes st x start None t mid rest n e on = absurd (both_ways x.0 (text_ends st x start mid rest e) on)
next_takes st x start (Some u) t mid rest n e on = let le = (known_lawful st start (value_of u) u).shorter x mid rest e in rw n (omega arith)

pub round_onward : Onward length unit_round
unfolding unit_round seq unit_at here done
round_onward s m t rest e =
    let x = e.3.3 in
    omega (arith, next_takes s.state x.0 e.0 e.3.0 e.1 e.3.1 x.1 e.3.2 x.2 (sym (ap (λ (y : Bool × Sofar). y.0) x.3.0)), ap length e.2.1, ap length x.3.1)

pub units_lawful : (st : State) → Lawful length (units_from st)
unfolding units_from
units_lawful st = repeated_lawful length Truncated unit_round round_lawful round_onward _

pub stream_from_lawful : (st : State) → Lawful length (stream_from st)
unfolding stream_from
stream_from_lawful st =
    seq_lawful (units_lawful st) (λ s.
    seq_lawful (rule_lawful length _ FieldPair 0) (λ paired.
    done_lawful length _))

pub stream_lawful : Lawful length stream_at
unfolding stream_at
stream_lawful = stream_from_lawful _
