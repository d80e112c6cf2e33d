-- The stricter rules have other numbers than those that the verifier looks at: nothing that they find is one of its breaches.
use Rattle.std.proofs.Common.{◌≡◌, ℕ, Bool, true, false, List, [], ◌∷◌, ◌++◌, map, Option, Some, None, refl, ◌∙◌}
use Rattle.std.specs.Prelude.{nat_le, not, filter, if◌then◌else◌}
use Rattle.std.specs.List.{AllByRecursion}
use Rattle.std.proofs.ByRecursion.{All-append}
use Rattle.std.proofs.lemmas.List.Elements.{filter-append}
use Rattle.m2v_model.specs.m2v_macroblock.m2v_head.declared.group.GroupInfo.{GroupInfo}
use Rattle.m2v_model.specs.m2v_macroblock.m2v_head.declared.picture.PictureInfo.{PictureInfo}
use Rattle.m2v_model.specs.declared.state.Sequence.{Sequence}
use Rattle.m2v_model.specs.States.{is_frame}
use Rattle.m2v_audit.specs.m2v_check.declared.coded.CodedPicture.{CodedPicture}
use Rattle.m2v_audit.specs.m2v_strict.declared.element.Element.{Element}
use Rattle.m2v_audit.specs.m2v_strict.declared.element.Element.TheVariants as elements
use Rattle.m2v_audit.specs.m2v_strict.declared.remark.Remark.{Remark}
use Rattle.m2v_audit.specs.m2v_strict.declared.rule_set.RuleSet.{RuleSet}
use Rattle.m2v_audit.specs.m2v_strict.declared.rule_set.RuleSet.TheVariants as sets
use Rattle.m2v_audit.specs.m2v_strict.declared.leading.Leading.{Leading}
use Rattle.m2v_audit.specs.m2v_strict.declared.preceding.Arrival.{Arrival}
use Rattle.m2v_audit.specs.m2v_strict.declared.preceding.Preceding.{Preceding}
use Rattle.m2v_audit.specs.m2v_strict.declared.runs.Runs.{Runs}
use Rattle.m2v_audit.specs.m2v_strict.Remarks.{Remarks, is_warning, judge, looked_at, unset, within}
use Rattle.m2v_audit.specs.m2v_strict.SequenceRules.{coded_luma_rule, aspect_rule, constrained_rule, first_number_rule, header_rule, extension_rule, aspect_warning, size_warning, height_warning, level_remarks, sequence_warnings}
use Rattle.m2v_audit.specs.m2v_strict.GroupRules.{time_code_rule, drop_rule, passing_rule, broken_link_warning, group_remarks}
use Rattle.m2v_audit.specs.m2v_strict.PictureRules.{low_delay_rule, delay_rule, f_code_rule, full_pel_rule, is_judged, field_rule, prediction_rule, top_first_rule, interlaced_rule, repeat_by_rate_rule, chroma_rule, dropped_warning, b_repeat_warning, delay_remarks, frame_remarks, picture_warnings}
use Rattle.m2v_audit.specs.m2v_strict.DvdRules.{size_rule, format_rule, form_warning, wide_warning, dvd_remarks, like_warning, headed_warning}
use Rattle.m2v_audit.specs.m2v_strict.DvdRules.{fields_rule, b_frames_warning, first_group_warning, dvd_picture_remarks}
use Rattle.m2v_audit.specs.m2v_strict.BroadcastRules.{dvb_rate_rule, dvb_size_rule, dvb_aspect_rule, dvb_remarks}
use Rattle.m2v_audit.specs.m2v_strict.BroadcastRules.{dvb_level_warning, dvb_rate_warning, dvb_size_warning}
use Rattle.m2v_audit.specs.m2v_strict.BroadcastRules.{atsc_size_rule, square_or_wide, aspect_at, atsc_aspect_rule, atsc_remarks}
use Rattle.m2v_audit.specs.m2v_strict.BroadcastRules.{progressive_rate_rule, atsc_rate_rule, atsc_form_rule, atsc_buffer_rule}
use Rattle.m2v_audit.specs.m2v_strict.BroadcastRules.{atsc_delay_warning}
use Rattle.m2v_audit.specs.m2v_strict.TimeRules.{counted_rate, pictures_warning, continuity_warning, time_warnings}
use Rattle.m2v_audit.specs.m2v_strict.ArrivalRules.{arrival_rule}
use Rattle.m2v_audit.specs.m2v_strict.OrderRules.{sequence_order_rule, group_order_rule, late_header_rule, first_type_rule, end_code_warning, end_remarks}
use Rattle.m2v_audit.specs.m2v_strict.SetRules.{set_remarks, set_group_remarks, set_picture_remarks}
use Rattle.m2v_audit.specs.declared.auditing.PieceEnd.{PieceEnd}
use Rattle.m2v_audit.specs.declared.records.Finding.{Finding}
use Rattle.m2v_audit.specs.declared.remarks.Behind.{Behind}
use Rattle.m2v_audit.specs.HeaderRecords.{bit_of}
use Rattle.m2v_audit.specs.Findings.{remarked_at}
use Rattle.m2v_audit.specs.Times.{fields_of}
use Rattle.m2v_audit.specs.Report.{finding_of}
use Rattle.m2v_law_audit.specs.Found.{remarks_found, sequence_found, group_found, last_found, picture_found, judged_in}

-- ---- remarks of rules from 16 on

abbrev pub IsStricter : Remark → Type 0
IsStricter m = nat_le m.rule 15 ≡ false

pub record AreStricter (ms : Remarks) : Type 0 where
  pub each : AllByRecursion IsStricter ms

pub none : AreStricter []
none = record { each = tt }

one : {m : Remark} → IsStricter m → AreStricter (m ∷ [])
one e = record { each = (e, tt) }

pub both : {xs ys : Remarks} → AreStricter xs → AreStricter ys → AreStricter (xs ++ ys)
both {xs} {ys} h k = record { each = All-append IsStricter xs ys h.each k.each }

chosen : (b : Bool) (xs ys : Remarks) → AreStricter xs → AreStricter ys → AreStricter (if b then xs else ys)
chosen true xs ys h k = h
chosen false xs ys h k = k

-- a rule that may hold, and one that is looked at in some headers alone
pub judged : (holds : Bool) (m : Remark) → IsStricter m → AreStricter (judge holds m)
judged holds m e = chosen holds [] (m ∷ []) none (one e)

looked : (b : Bool) (ms : Remarks) → AreStricter ms → AreStricter (looked_at b ms)
looked b ms h = chosen b ms [] h none

-- a number that lies between two others
bounded : (rule : ℕ) (element : Element) (have low high : ℕ) → nat_le rule 15 ≡ false → AreStricter (within rule element have low high)
bounded rule element have low high e = chosen _ _ _ (one e) (judged _ _ e)

-- ---- a sequence header

pub first_number_is : (matrix : Option (List ℕ)) → AreStricter (first_number_rule matrix)
unfolding first_number_rule
first_number_is None = none
first_number_is (Some numbers) = judged _ _ refl

level_are : (s : Sequence) → AreStricter (level_remarks s)
unfolding coded_luma_rule aspect_rule constrained_rule
level_are s =
    both (both (both (looked _ _ (judged _ _ refl)) (chosen _ _ _ (one refl) (judged _ _ refl))) (judged _ _ refl))
    (first_number_is s.info.load_intra)

header_are : (first s : Sequence) → AreStricter (header_rule first s)
unfolding header_rule
header_are first s = both (both (both (both (judged _ _ refl) (judged _ _ refl)) (judged _ _ refl)) (judged _ _ refl)) (judged _ _ refl)

extension_are : (first s : Sequence) → AreStricter (extension_rule first s)
unfolding extension_rule
extension_are first s = both (both (both (judged _ _ refl) (judged _ _ refl)) (judged _ _ refl)) (judged _ _ refl)

warned_are : (rules : RuleSet) (s : Sequence) → AreStricter (sequence_warnings rules s)
unfolding aspect_warning size_warning height_warning
warned_are rules s = both (both (looked _ _ (judged _ _ refl)) (both (judged _ _ refl) (judged _ _ refl))) (looked _ _ (judged _ _ refl))

-- ---- a group header

broken_link_is : (g : GroupInfo) → AreStricter (broken_link_warning g)
unfolding broken_link_warning
broken_link_is g = judged _ _ refl

group_are : (code : ℕ) (g : GroupInfo) → AreStricter (group_remarks code g)
unfolding time_code_rule drop_rule passing_rule
group_are code g =
    both
    (both (both (both (both (judged _ _ refl) (judged _ _ refl)) (judged _ _ refl)) (judged _ _ refl)) (looked _ _ (judged _ _ refl)))
    (judged _ _ refl)

pictures_is : (rate : ℕ) (g : GroupInfo) → AreStricter (pictures_warning rate g)
unfolding pictures_warning
pictures_is rate g = judged _ _ refl

continuity_is : (rate : ℕ) (last : Option GroupInfo) (fields : ℕ) (g : GroupInfo) → AreStricter (continuity_warning rate last fields g)
unfolding continuity_warning
continuity_is rate None fields g = none
continuity_is rate (Some last) fields g = judged _ _ refl

times_are : (code : ℕ) (last : Option GroupInfo) (fields : ℕ) (g : GroupInfo) → AreStricter (time_warnings code last fields g)
unfolding time_warnings
times_are code last fields g = looked _ _ (both (pictures_is (counted_rate code) g) (continuity_is (counted_rate code) last fields g))

-- ---- a picture

delays_are : (constant : Bool) (p : CodedPicture) → AreStricter (delay_remarks constant p)
unfolding low_delay_rule delay_rule
delays_are constant p = both (looked _ _ (judged _ _ refl)) (chosen _ _ _ (judged _ _ refl) (judged _ _ refl))

f_code_are : (p : CodedPicture) → AreStricter (f_code_rule p)
unfolding f_code_rule
f_code_are p = both (looked _ _ (both (judged _ _ refl) (judged _ _ refl))) (looked _ _ (both (judged _ _ refl) (judged _ _ refl)))

full_pel_are : (i : PictureInfo) → AreStricter (full_pel_rule i)
unfolding full_pel_rule
full_pel_are i = both (looked _ _ (both (judged _ _ refl) (judged _ _ refl))) (looked _ _ (both (judged _ _ refl) (judged _ _ refl)))

unset_in_field : (element : Element) (flag : Bool) → AreStricter (unset 33 element flag)
unset_in_field element flag = judged _ _ refl

field_are : (constant : Bool) (p : CodedPicture) → AreStricter (field_rule constant p)
unfolding field_rule
field_are constant p =
    let e = p.note.extension in
    looked (not (is_frame e)) _
    (both
    (both
    (both (unset_in_field elements.TopFieldFirst e.top_field_first) (unset_in_field elements.FramePredFrameDct e.frame_pred_frame_dct))
    (unset_in_field elements.ProgressiveFrame e.progressive_frame))
    (looked (not (is_judged constant p)) _ (unset_in_field elements.RepeatFirstField e.repeat_first_field)))

frame_are : (constant : Bool) (p : CodedPicture) → AreStricter (frame_remarks constant p)
unfolding prediction_rule top_first_rule interlaced_rule repeat_by_rate_rule chroma_rule
frame_are constant p =
    both
    (both
    (both (both (looked _ _ (judged _ _ refl)) (looked _ _ (judged _ _ refl))) (looked _ _ (judged _ _ refl)))
    (looked _ _ (judged _ _ refl)))
    (judged _ _ refl)

picture_warned : (p : CodedPicture) → AreStricter (picture_warnings p)
unfolding dropped_warning b_repeat_warning
picture_warned p = both (judged _ _ refl) (looked _ _ (judged _ _ refl))

-- ---- the rules of a disc

format_are : (s : Sequence) → AreStricter (format_rule s)
unfolding format_rule
format_are s =
    both
    (both
    (both (bounded 61 elements.FrameRateCode s.info.frame_rate_code 3 4 refl)
    (bounded 62 elements.AspectRatioInformation s.info.aspect 2 3 refl))
    (judged _ _ refl))
    (judged _ _ refl)

dvd_are : (s : Sequence) → AreStricter (dvd_remarks s)
unfolding size_rule form_warning wide_warning
dvd_are s =
    both (both (both (judged _ _ refl) (format_are s)) (both (judged _ _ refl) (judged _ _ refl))) (looked _ _ (judged _ _ refl))

like_warned : (like : Option Sequence) (s : Sequence) → AreStricter (like_warning like s)
unfolding like_warning
like_warned None s = none
like_warned (Some first) s = both (both (judged _ _ refl) (judged _ _ refl)) (judged _ _ refl)

-- ---- the order of headers

sequence_order_is : (before : Leading) → AreStricter (sequence_order_rule before)
unfolding sequence_order_rule
sequence_order_is before = judged _ _ refl

group_order_is : (before : Leading) → AreStricter (group_order_rule before)
unfolding group_order_rule
group_order_is before = judged _ _ refl

first_type_is : (headed : Bool) (p : CodedPicture) → AreStricter (first_type_rule headed p)
unfolding first_type_rule
first_type_is headed p = judged _ _ refl

arrival_is : (rate : ℕ) (before : Option Arrival) (p : CodedPicture) → AreStricter (arrival_rule rate before p)
unfolding arrival_rule
arrival_is rate None p = none
arrival_is rate (Some d) p = looked _ _ (judged _ _ refl)

end_are : (before : Leading) (closed : Bool) → AreStricter (end_remarks before closed)
unfolding late_header_rule end_code_warning
end_are before closed = both (judged _ _ refl) (judged _ _ refl)

-- ---- the pictures of a disc

headed_is : (headed : Bool) → AreStricter (headed_warning headed)
unfolding headed_warning
headed_is headed = judged _ _ refl

dvd_picture_are : (before : Runs) (p : CodedPicture) (fields : ℕ) → AreStricter (dvd_picture_remarks before p fields)
unfolding fields_rule b_frames_warning first_group_warning
dvd_picture_are before p fields =
    both (both (looked _ _ (judged _ _ refl)) (looked _ _ (judged _ _ refl))) (both (judged _ _ refl) (judged _ _ refl))

-- ---- the rules of broadcasts

dvb_are : (s : Sequence) → AreStricter (dvb_remarks s)
unfolding dvb_rate_rule dvb_size_rule dvb_aspect_rule dvb_level_warning dvb_rate_warning dvb_size_warning
dvb_are s =
    both
    (both
    (both
    (both (both (looked _ _ (judged _ _ refl)) (looked _ _ (judged _ _ refl))) (bounded 82 elements.AspectRatioInformation s.info.aspect 2 4 refl))
    (judged _ _ refl))
    (looked _ _ (judged _ _ refl)))
    (looked _ _ (judged _ _ refl))

aspect_at_is : (width height aspect : ℕ) → AreStricter (aspect_at width height aspect)
unfolding aspect_at square_or_wide
aspect_at_is width height aspect =
    let within_is : (low high : ℕ) → AreStricter (within 91 elements.AspectRatioInformation aspect low high) =
    λ low high. bounded 91 elements.AspectRatioInformation aspect low high refl in
    chosen _ _ _ (judged _ _ refl) (chosen _ _ _ (within_is 1 2) (within_is 2 3))

atsc_are : (s : Sequence) → AreStricter (atsc_remarks s)
unfolding atsc_size_rule atsc_aspect_rule atsc_rate_rule progressive_rate_rule atsc_form_rule atsc_buffer_rule
atsc_are s =
    both
    (both
    (both (both (judged _ _ refl) (looked _ _ (aspect_at_is _ _ _)))
    (chosen _ _ _ (judged _ _ refl) (bounded 92 elements.FrameRateCode s.info.frame_rate_code 4 5 refl)))
    (looked _ _ (judged _ _ refl)))
    (both (judged _ _ refl) (judged _ _ refl))

atsc_delay_warned : (delay : ℕ) → AreStricter (atsc_delay_warning delay)
unfolding atsc_delay_warning
atsc_delay_warned delay = judged _ _ refl

-- ---- each set of rules

set_are : (rules : RuleSet) (like : Option Sequence) (s : Sequence) → AreStricter (set_remarks rules like s)
unfolding set_remarks
set_are sets.Main like s = none
set_are sets.Dvd like s = both (dvd_are s) (like_warned like s)
set_are sets.Dvb like s = dvb_are s
set_are sets.Atsc like s = atsc_are s

set_group_are : (rules : RuleSet) (headed : Bool) → AreStricter (set_group_remarks rules headed)
unfolding set_group_remarks
set_group_are sets.Main headed = none
set_group_are sets.Dvd headed = headed_is headed
set_group_are sets.Dvb headed = none
set_group_are sets.Atsc headed = none

set_picture_are : (rules : RuleSet) (before : Runs) (p : CodedPicture) (fields : ℕ)
    → AreStricter (set_picture_remarks rules before p fields)
unfolding set_picture_remarks
set_picture_are sets.Main before p fields = none
set_picture_are sets.Dvd before p fields = dvd_picture_are before p fields
set_picture_are sets.Dvb before p fields = none
set_picture_are sets.Atsc before p fields = atsc_delay_warned p.note.info.vbv_delay

-- ---- none of what is found is the verifier's

first_out : (n picture bit : ℕ) (warns : Bool) (m : Remark) (ms : Remarks) → IsStricter m →
    let found : Remark → Finding = λ x. finding_of n (remarked_at picture bit x) in
    judged_in (map found ms) ≡ [] → judged_in (map found (if not warns then m ∷ ms else ms)) ≡ []
first_out n picture bit true m ms e rest = rest
first_out n picture bit false m ms e rest = rw e rest

all_out : (n picture bit : ℕ) (ms : Remarks) → AllByRecursion IsStricter ms → judged_in (remarks_found n picture bit ms) ≡ []
unfolding remarks_found
all_out n picture bit [] h = refl
all_out n picture bit (m ∷ ms) h =
    first_out n picture bit (is_warning m.rule) m (filter (λ (x : Remark). not (is_warning x.rule)) ms) h.0 (all_out n picture bit ms h.1)

pub record NoneJudged (fs : List Finding) : Type 0 where
  pub is : judged_in fs ≡ []

pub none_of : (n picture bit : ℕ) {ms : Remarks} → AreStricter ms → NoneJudged (remarks_found n picture bit ms)
none_of n picture bit {ms} h = record { is = all_out n picture bit ms h.each }

pub none_both : {xs ys : List Finding} → NoneJudged xs → NoneJudged ys → NoneJudged (xs ++ ys)
none_both {xs} {ys} h k = record { is = filter-append (λ (x : Finding). nat_le x.rule 15) xs ys ∙ (λ i. h.is i ++ k.is i) }

of_sequence : (n : ℕ) (rules : RuleSet) (like : Option Sequence) (before : Leading) (picture bit : ℕ) (first s : Sequence)
    → NoneJudged (sequence_found n rules like before picture bit first s)
of_sequence n rules like before picture bit first s =
    none_both
    (none_both
    (none_both
    (none_both
    (none_both (none_of n picture bit (level_are s)) (none_of n picture bit (header_are first s)))
    (none_of n picture bit (extension_are first s)))
    (none_of n picture bit (sequence_order_is before)))
    (none_of n picture bit (warned_are rules s)))
    (none_of n picture bit (set_are rules like s))

pub sequence_stricter : (n : ℕ) (rules : RuleSet) (like : Option Sequence) (before : Leading) (picture bit : ℕ) (first s : Sequence)
    → judged_in (sequence_found n rules like before picture bit first s) ≡ []
sequence_stricter n rules like before picture bit first s = (of_sequence n rules like before picture bit first s).is

of_group : (n : ℕ) (rules : RuleSet) (before : Behind) (picture bit : ℕ) (s : Option Sequence) (g : GroupInfo)
    → NoneJudged (group_found n rules before picture bit s g)
of_group n rules before picture bit None g = record { is = refl }
of_group n rules before picture bit (Some s) g =
    let code = s.info.frame_rate_code in
    none_both
    (none_both
    (none_both
    (none_both (none_of n picture bit (group_order_is before.headers)) (none_of n picture bit (group_are code g)))
    (none_of n picture bit (times_are code before.group before.fields g)))
    (none_of n picture bit (broken_link_is g)))
    (none_of n picture bit (set_group_are rules before.headers.sequence))

pub group_stricter : (n : ℕ) (rules : RuleSet) (before : Behind) (picture bit : ℕ) (s : Option Sequence) (g : GroupInfo)
    → judged_in (group_found n rules before picture bit s g) ≡ []
group_stricter n rules before picture bit s g = (of_group n rules before picture bit s g).is

-- of the end of a sequence
pub last_stricter : (n : ℕ) (before : Leading) (picture : ℕ) (end : Option PieceEnd) → judged_in (last_found n before picture end) ≡ []
last_stricter n before picture None = refl
last_stricter n before picture (Some e) = (none_of n picture e.bit (end_are before e.closed)).is

of_picture : (n : ℕ) (rules : RuleSet) (before : Preceding) (constant : Bool) (runs : Runs) (p : CodedPicture)
    → NoneJudged (picture_found n rules before constant runs p)
of_picture n rules before constant runs p =
    let bit = bit_of p.note in
    none_both
    (none_both
    (none_both
    (none_both
    (none_both
    (none_both
    (none_both
    (none_both
    (none_of n p.number bit (first_type_is before.headed p))
    (none_of n p.number bit (delays_are constant p)))
    (none_of n p.number bit (arrival_is before.rate before.picture p)))
    (none_of n p.number bit (f_code_are p)))
    (none_of n p.number bit (full_pel_are p.note.info)))
    (none_of n p.number bit (field_are constant p)))
    (none_of n p.number bit (frame_are constant p)))
    (none_of n p.number bit (picture_warned p)))
    (none_of n p.number bit (set_picture_are rules runs p (fields_of p.sequence p.note)))

pub picture_stricter : (n : ℕ) (rules : RuleSet) (before : Preceding) (constant : Bool) (runs : Runs) (p : CodedPicture)
    → judged_in (picture_found n rules before constant runs p) ≡ []
picture_stricter n rules before constant runs p = (of_picture n rules before constant runs p).is
