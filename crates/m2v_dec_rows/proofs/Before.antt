-- A unit before a picture's headers, read with slices unread and read whole.
use Rattle.std.proofs.Common.{◌≡◌, ℕ, ◌-◌, Bool, true, false, List, [], ◌∷◌, Option, Some, None, refl, sym, subst, ◌∙◌}
use Rattle.std.specs.Prelude.{is_some}
use Rattle.std.proofs.lemmas.Bool.{eqb-true}
use Rattle.m2v_bits.specs.Syntax.{seq, here, rule, renamed, done}
use Rattle.m2v_bits.specs.Leaves.{bits_at}
use Rattle.m2v_bits.proofs.SyntaxLaws.{good}
use Rattle.m2v_plane.specs.Sizes.{IsSize}
use Rattle.m2v_head.specs.declared.sequence.SequenceInfo.{SequenceInfo}
use Rattle.m2v_head.specs.declared.sequence.SequenceExtension.{SequenceExtension}
use Rattle.m2v_head.specs.Headers as head
use Rattle.m2v_head.specs.Fits.{SequenceExtensionFits}
use Rattle.m2v_model.specs.declared.state.Sequence.{Sequence}
use Rattle.m2v_model.specs.declared.state.State.{State}
use Rattle.m2v_model.specs.Units.{Units, unit_bits, body}
use Rattle.m2v_model.specs.States.{dims_of, is_same_sequence, none_waits, is_second_field_due}
use Rattle.m2v_model.specs.Headers.{whole_header, sequence_extension_in}
use Rattle.m2v_model.specs.Streams.{Part, sequence, group, picture, matrices, slice, unread_slice, skipped_unit, ending, over, value_of, id_at, sequence_unit, group_unit, picture_unit, matrix_unit, extension_unit, slice_unit, end_unit, close, no_second_field_due, onward, final, later_unit, known_unit, text_end}
use Rattle.m2v_model.specs.ByPieces.{unit_read}
use Rattle.m2v_model.proofs.HeaderLaws.{whole_header_lawful, sequence_extension_lawful}
use Rattle.m2v_dec_unit.specs.Reads.{IsReadSequence}
use Rattle.m2v_dec_unit.proofs.Judged.{sequence_is}
use Rattle.m2v_dec_rows.specs.OnePicture.{NoneBegins, HasOnePicture}
use Rattle.m2v_dec_rows.proofs.Holding.{OfRead, Holding, FromUnit, rule_then, inside_then, choose_holds, refuse_holds, done_holds, extended_then, onward_holds, final_holds}

-- a state in which no picture is open
abbrev pub shut : State → Option Sequence → Bool → State
shut z q h = record z { sequence = q; headers_only = h; picture = None }

-- ---- no rule looks at whether slices stay unread

pub unit_same : (z : State) (q : Option Sequence) (us : Units) → unit_read (shut z q true) us ≡ unit_read (shut z q false) us
unfolding unit_read known_unit later_unit sequence_unit group_unit picture_unit matrix_unit extension_unit slice_unit end_unit close no_second_field_due text_end
unit_same z q [] = refl
unit_same z (Some s) (u ∷ us) = refl
unit_same z None (u ∷ us) = refl

-- ---- what a sequence header says of frames

extension_fits : (e : SequenceExtension) (t rest : List Bool) → head.sequence_extension_at.Stands e t rest → SequenceExtensionFits e
unfolding head.sequence_extension_at head.chroma_format_at seq here rule done bits_at
extension_fits e t rest st =
    let format = st.3.3.3 in
    let rate = format.3.3.3 in
    let n = rate.3.3.3.3 in
    subst SequenceExtensionFits (sym n.3.3.0) (record {
      profile_and_level = st.3.2.0;
      chroma_format = format.2.3.3.3.3.0 ∙ eqb-true format.2.3.0 1 format.2.3.3.3.2.0;
      horizontal_ext = format.3.2.0;
      vertical_ext = format.3.3.2.0;
      bit_rate_ext = rate.2.0;
      vbv_ext = rate.3.3.2.0;
      rate_n = n.2.0;
      rate_d = n.3.2.0;
    })

header_size : (info : SequenceInfo) (e : SequenceExtension) (t end : List Bool) → (sequence_extension_in info).read t ≡ good (e, end) → (sequence_extension_in info).Stands e t end → IsReadSequence info e
unfolding sequence_extension_in seq renamed
header_size info e t end read st = sequence_is info e t end read (extension_fits e st.3.3.3.3.3.1 end st.3.3.3.3.3.3)

whole_size : (info : SequenceInfo) (e : SequenceExtension) (t end : List Bool) → (whole_header (sequence_extension_in info)).Stands e t end → IsSize (dims_of (record { info = info; extension = e }))
unfolding whole_header seq done
whole_size info e t end st =
    let l = sequence_extension_lawful info in
    let got = header_size info st.0 t st.1 (l.only st.0 t st.1 st.2) st.2 in
    subst (λ (x : SequenceExtension). IsSize (dims_of (record { info = info; extension = x }))) (sym st.3.3.0) got.size

read_size : (info : SequenceInfo) (e : SequenceExtension) → FromUnit (whole_header (sequence_extension_in info)) e → IsSize (dims_of (record { info = info; extension = e }))
read_size info e f = whole_size info e (body f.unit) f.end ((whole_header_lawful (sequence_extension_lawful info)).found e (body f.unit) f.end f.is)

-- ---- what a unit is, and what stands behind it

abbrev pub FirstPart : State → Option Sequence → Bool → Part → Units → Type 0
FirstPart z q m (sequence s) mid = (m ≡ true) × HasOnePicture mid × IsSize (dims_of s) × (is_same_sequence z.first s ≡ true)
FirstPart z q m (group g) mid = (m ≡ true) × HasOnePicture mid × (none_waits z.waiting ≡ true)
FirstPart z q m (picture info extension) mid = (m ≡ true) × NoneBegins mid × (is_some q ≡ true) × (is_second_field_due z.waiting info extension ≡ true)
FirstPart z q m (matrices x) mid = ⊥
FirstPart z q m (slice row x) mid = ⊥
FirstPart z q m (unread_slice row u) mid = ⊥
FirstPart z q m (skipped_unit u) mid = (m ≡ true) × HasOnePicture mid
FirstPart z q m ending mid = m ≡ false
FirstPart z q m over mid = m ≡ false

abbrev pub First : State → Option Sequence → Bool × Part → Units → Type 0
First z q x mid = FirstPart z q x.0 x.1 mid

none_tail : (u : List ℕ) (us : Units) → NoneBegins (u ∷ us) → NoneBegins us
none_tail u us n = n.1

one_tail : (u : List ℕ) (us : Units) → HasOnePicture (u ∷ us) → HasOnePicture us
one_tail u us n = n.1

sequence_first : (z : State) (q : Option Sequence) (start : ℕ) (u : List ℕ) (t : Units) → HasOnePicture t → Holding (First z q) (onward (sequence_unit (shut z q false) start u)) t
unfolding sequence_unit close no_second_field_due
sequence_first z q start u t h =
    onward_holds (rule_then _ _ _ _ (λ closed. rule_then _ _ _ _ (λ paired. inside_then _ _ _ (λ info end got.
    extended_then HasOnePicture _ _ _ h one_tail (λ extension mid one from. rule_then _ _ _ _ (λ same. done_holds _ (refl, one, read_size info extension from, same)))))))

group_first : (z : State) (q : Option Sequence) (start : ℕ) (u : List ℕ) (t : Units) → HasOnePicture t → Holding (First z q) (onward (group_unit (shut z q false) start u)) t
unfolding group_unit close no_second_field_due
group_first z q start u t h =
    onward_holds (rule_then _ _ _ _ (λ closed. rule_then _ _ _ _ (λ paired. inside_then _ _ _ (λ g end got. done_holds _ (refl, h, paired)))))

picture_first : (z : State) (q : Option Sequence) (start : ℕ) (u : List ℕ) (t : Units) → NoneBegins t → is_some q ≡ true → Holding (First z q) (onward (picture_unit (shut z q false) start u)) t
unfolding picture_unit close
picture_first z q start u t n known =
    onward_holds (rule_then _ _ _ _ (λ closed. inside_then _ _ _ (λ info end got.
    extended_then NoneBegins _ _ _ n none_tail (λ extension mid none from. rule_then _ _ _ _ (λ pair. rule_then _ _ _ _ (λ anchor. done_holds _ (refl, none, known, pair)))))))

extension_first : (z : State) (q : Option Sequence) (start : ℕ) (u : List ℕ) (t : Units) → HasOnePicture t → Holding (First z q) (onward (extension_unit (shut z q false) start u)) t
unfolding extension_unit matrix_unit id_at
extension_first z q start u t h =
    onward_holds (inside_then _ _ _ (λ id end read.
    choose_holds _ (λ e. refuse_holds _ _) (λ e.
    choose_holds _ (λ e. rule_then _ _ _ _ (λ allowed. absurd cc))
    (λ e. choose_holds _ (λ e. refuse_holds _ _) (λ e. done_holds _ (refl, h))))))

slice_first : (z : State) (q : Option Sequence) (row start : ℕ) (u : List ℕ) (t : Units) → Holding (First z q) (onward (slice_unit (shut z q false) q None row start u)) t
unfolding slice_unit
slice_first z (Some s) row start u t = onward_holds (refuse_holds _ _)
slice_first z None row start u t = onward_holds (refuse_holds _ _)

end_first : (z : State) (q : Option Sequence) (start : ℕ) (t : Units) → Holding (First z q) (final (end_unit (shut z q false) start)) t
unfolding end_unit close no_second_field_due
end_first z q start t = final_holds (rule_then _ _ _ _ (λ closed. rule_then _ _ _ _ (λ paired. done_holds _ refl)))

later_first : (z : State) (q : Option Sequence) (start value : ℕ) (u : List ℕ) (t : Units) → (value ≡ 0x00 → NoneBegins t) → HasOnePicture t → is_some q ≡ true
    → Holding (First z q) (later_unit (shut z q false) start value u) t
unfolding later_unit
later_first z q start value u t n h known =
    choose_holds _ (λ e. picture_first z q start u t (n (eqb-true value 0x00 e)) known) (λ e.
    choose_holds _ (λ e. slice_first z q (value - 1) start u t) (λ e.
    choose_holds _ (λ e. onward_holds (done_holds _ (refl, h))) (λ e.
    choose_holds _ (λ e. extension_first z q start u t h) (λ e.
    choose_holds _ (λ e. end_first z q start t) (λ e.
    choose_holds _ (λ e. group_first z q start u t h) (λ e.
    choose_holds _ (λ e. refuse_holds _ _) (λ e. refuse_holds _ _)))))))

known_first : (z : State) (q : Option Sequence) (start value : ℕ) (u : List ℕ) (t : Units) → (value ≡ 0x00 → NoneBegins t) → HasOnePicture t
    → Holding (First z q) (known_unit (shut z q false) start value u) t
unfolding known_unit
known_first z q start value u t n h =
    choose_holds _ (λ e. sequence_first z q start u t h) (λ e.
    choose_holds _ (λ known. later_first z q start value u t n h known) (λ e. done_holds _ (refl, h)))

end_of_text : (z : State) (q : Option Sequence) → Holding (First z q) (text_end (shut z q false) 0) []
unfolding text_end close
end_of_text z q = rule_then _ _ _ _ (λ some. rule_then _ _ _ _ (λ closed. done_holds _ refl))

pub unit_first : (z : State) (q : Option Sequence) (us : Units) → HasOnePicture us → OfRead (First z q) (unit_read (shut z q false) us)
unfolding unit_read
unit_first z q [] h = (end_of_text z q).is
unit_first z q (u ∷ us) h = (known_first z q (unit_bits (u ∷ us)) (value_of u) u us h.0 h.1).is
