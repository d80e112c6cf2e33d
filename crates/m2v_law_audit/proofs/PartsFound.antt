-- What each call of a report adds to it: lines, and the breaches and failures that they tell.
use Rattle.std.proofs.Common.{◌≡◌, ℕ, zero, suc, Bool, true, false, List, [], ◌∷◌, ◌++◌, map, Option, Some, None, refl, sym, subst}
use Rattle.std.specs.Prelude.{nat_eq, not, filter, if◌then◌else◌}
use Rattle.std.specs.List.{flat_map}
use Rattle.std.proofs.lemmas.List.{append-nil, map-append}
use Rattle.m2v_vbv.specs.declared.removed.Removed.{Removed}
use Rattle.m2v_model.specs.m2v_macroblock.m2v_head.declared.group.GroupInfo.{GroupInfo}
use Rattle.m2v_model.specs.declared.state.Sequence.{Sequence}
use Rattle.m2v_model.specs.Lawful.{Breaches, horizontal_rule, vertical_rule, intra_rule, crowd_rule, repeat_rule, progressive_rule, precision_rule}
use Rattle.m2v_audit.specs.m2v_check.declared.coded.CodedPicture.{CodedPicture}
use Rattle.m2v_audit.specs.m2v_check.Breaking.{numbered_of}
use Rattle.m2v_audit.specs.m2v_strict.declared.element.Element.TheVariants as elements
use Rattle.m2v_audit.specs.m2v_strict.declared.parity.ShownFrame.{ShownFrame}
use Rattle.m2v_audit.specs.m2v_strict.declared.remark.Remark.{Remark}
use Rattle.m2v_audit.specs.m2v_strict.declared.rule_set.RuleSet.{RuleSet}
use Rattle.m2v_audit.specs.m2v_strict.declared.leading.Leading.{Leading}
use Rattle.m2v_audit.specs.m2v_strict.declared.preceding.Preceding.{Preceding}
use Rattle.m2v_audit.specs.m2v_strict.declared.runs.Runs.{Runs}
use Rattle.m2v_audit.specs.m2v_strict.Remarks.{Remarks, is_warning, judge, remark, number_of}
use Rattle.m2v_audit.specs.m2v_strict.SequenceRules.{level_remarks, header_rule, extension_rule, sequence_warnings}
use Rattle.m2v_audit.specs.m2v_strict.GroupRules.{group_remarks, broken_link_warning}
use Rattle.m2v_audit.specs.m2v_strict.PictureRules.{delay_remarks, f_code_rule, full_pel_rule, field_rule, frame_remarks, picture_warnings}
use Rattle.m2v_audit.specs.m2v_strict.TimeRules.{time_warnings}
use Rattle.m2v_audit.specs.m2v_strict.ParityRules.{differ, parity_warning}
use Rattle.m2v_audit.specs.m2v_strict.ArrivalRules.{arrival_rule}
use Rattle.m2v_audit.specs.m2v_strict.OrderRules.{sequence_order_rule, group_order_rule, first_type_rule, end_remarks}
use Rattle.m2v_audit.specs.m2v_strict.SetRules.{set_remarks, set_group_remarks, set_picture_remarks}
use Rattle.m2v_audit.specs.declared.account.Due.{Due}
use Rattle.m2v_audit.specs.declared.auditing.PieceEnd.{PieceEnd}
use Rattle.m2v_audit.specs.declared.others.Other.{Other}
use Rattle.m2v_audit.specs.declared.places.Misplaced.{Misplaced}
use Rattle.m2v_audit.specs.declared.records.Finding.{Finding}
use Rattle.m2v_audit.specs.declared.records.FailureRecord.{FailureRecord}
use Rattle.m2v_audit.specs.declared.records.SequenceRecord.{SequenceRecord}
use Rattle.m2v_audit.specs.declared.records.GroupRecord.{GroupRecord}
use Rattle.m2v_audit.specs.declared.records.PictureRecord.{PictureRecord}
use Rattle.m2v_audit.specs.declared.records.CountRecord.{CountRecord}
use Rattle.m2v_audit.specs.declared.report.Broken.{Broken}
use Rattle.m2v_audit.specs.declared.remarks.Behind.{Behind}
use Rattle.m2v_audit.specs.declared.report.Rate.{Rate}
use Rattle.m2v_audit.specs.declared.report.SequenceTotals.{SequenceTotals}
use Rattle.m2v_audit.specs.Account.{Account, Told}
use Rattle.m2v_audit.specs.Auditing.{with_sequence_remarks, with_group_by, with_rules, with_all_remarks, with_shown, with_left, with_end_remarks}
use Rattle.m2v_audit.specs.HeaderRecords.{bit_of}
use Rattle.m2v_audit.specs.Findings.{broken_at, remarked_at, misplaced_at, with_breaches, with_remarks, with_misplaced, with_removals}
use Rattle.m2v_audit.specs.Others.{own_bit, own_remarks, with_own_remarks}
use Rattle.m2v_audit.specs.Lines.{skipped_line, sequence_line, group_line, picture_line, held_line, warning_line, count_line, end_line}
use Rattle.m2v_audit.specs.Times.{fields_of}
use Rattle.m2v_audit.specs.Report.{Report, with_text, with_warned, finding_of, with_warning, with_finding, with_due, held_of}
use Rattle.m2v_audit.specs.Report.{under_of, over_of, with_failure, with_held, with_under, with_over, is_far, far_at, with_far, with_removal, with_begin}
use Rattle.m2v_audit.specs.Report.{with_group_line, with_picture_line, count_of, with_counts, end_of, with_end, with_breach}
use Rattle.m2v_law_audit.specs.Parts.{Adds}
use Rattle.m2v_law_audit.specs.Found.{found_at, remarks_found, sequence_found, group_found, last_found, picture_found, found_misplaced, failures_of, rules_of, left_in, others_found}
use Rattle.m2v_law_audit.proofs.PartsJoined.{IsOf, adds_on, of_then, adds_none, adds_counted, empty_adds, line_adds, maybe_adds, breach_adds, failure_adds}
use Rattle.m2v_law_audit.proofs.PartsLines.{skipped_is, sequence_is, group_is, picture_is, held_is, warning_is, count_is, end_is}

-- ---- breaches

pub breaches_add : {n : ℕ} (r : Report) (picture bit : ℕ) (bs : Breaches) → IsOf n r → Adds r (with_breaches r picture bit bs) (found_at n picture bit bs) []
unfolding with_breaches
breaches_add r picture bit [] of = adds_none r of
breaches_add r picture bit (b ∷ bs) of =
    let first = breach_adds r (broken_at picture bit b) of in
    adds_on first (breaches_add (with_breach r (broken_at picture bit b)) picture bit bs (of_then of first))

pub misplaced_add : {n : ℕ} (r : Report) (ms : List (Option Misplaced)) → IsOf n r → Adds r (with_misplaced r ms) (found_misplaced n ms) []
unfolding with_misplaced
misplaced_add r [] of = adds_none r of
misplaced_add r (None ∷ ms) of = misplaced_add r ms of
misplaced_add r (Some m ∷ ms) of =
    let first = breach_adds r (misplaced_at m) of in
    adds_on first (misplaced_add (with_breach r (misplaced_at m)) ms (of_then of first))

-- a picture's rules, by number
pub rules_add : {n : ℕ} (r : Report) (constant : Bool) (p : CodedPicture) → IsOf n r → Adds r (with_rules r constant p) (found_at n p.number (bit_of p.note) (rules_of constant p)) []
rules_add {n} r constant p of =
    let c = numbered_of p in
    let xs : Breaches = horizontal_rule c ++ vertical_rule c ++ intra_rule c in
    let ys : Breaches = crowd_rule c ++ repeat_rule constant c ++ progressive_rule c ++ precision_rule c in
    let first = breaches_add r p.number (bit_of p.note) xs of in
    let next = breaches_add (with_breaches r p.number (bit_of p.note) xs) p.number (bit_of p.note) ys (of_then of first) in
    subst (λ (l : List Finding). Adds r (with_rules r constant p) l []) (sym (map-append _ xs ys)) (adds_on first next)

-- ---- what the stricter rules remark

-- a warning is told, and counted apart from the breaches
warning_adds : {n : ℕ} (r : Report) (b : Broken) → IsOf n r → Adds r (with_warning r b) [] []
warning_adds r b of =
    let f : Finding = finding_of r.sequence b in
    adds_counted (with_warned r.tally b.rule b.picture) (line_adds r (warning_line f) of refl (warning_is f)) refl refl

-- a breach, or a warning
abbrev found_of : ℕ → Bool → Broken → List Finding
found_of n warns b = if warns then [] else finding_of n b ∷ []

finding_adds : {n : ℕ} (warns : Bool) (r : Report) (b : Broken) → IsOf n r
    → Adds r (if warns then with_warning r b else with_breach r b) (found_of n warns b) []
finding_adds true r b of = warning_adds r b of
finding_adds false r b of = breach_adds r b of

first_found : (n picture bit : ℕ) (warns : Bool) (m : Remark) (ms : Remarks) →
    let found : Remark → Finding = λ x. finding_of n (remarked_at picture bit x) in
    map found (if not warns then m ∷ ms else ms) ≡ found_of n warns (remarked_at picture bit m) ++ map found ms
first_found n picture bit true m ms = refl
first_found n picture bit false m ms = refl

pub remarks_add : {n : ℕ} (r : Report) (picture bit : ℕ) (ms : Remarks) → IsOf n r
    → Adds r (with_remarks r picture bit ms) (remarks_found n picture bit ms) []
unfolding with_remarks remarks_found
remarks_add r picture bit [] of = adds_none r of
remarks_add {n} r picture bit (m ∷ ms) of =
    let b : Broken = remarked_at picture bit m in
    let first = finding_adds (is_warning m.rule) r b of in
    let later = remarks_add (with_finding r b) picture bit ms (of_then of first) in
    subst (λ (l : List Finding). Adds r (with_remarks r picture bit (m ∷ ms)) l [])
    (sym (first_found n picture bit (is_warning m.rule) m (filter (λ (x : Remark). not (is_warning x.rule)) ms)))
    (adds_on first later)

-- of a sequence header
pub sequence_remarks_add : {n : ℕ} (r : Report) (rules : RuleSet) (like : Option Sequence) (before : Leading) (picture bit : ℕ) (first s : Sequence) → IsOf n r
    → Adds r (with_sequence_remarks r rules like before picture bit first s) (sequence_found n rules like before picture bit first s) []
sequence_remarks_add r rules like before picture bit first s of =
    let level = remarks_add r picture bit (level_remarks s) of in
    let header = adds_on level (remarks_add _ picture bit (header_rule first s) (of_then of level)) in
    let extension = adds_on header (remarks_add _ picture bit (extension_rule first s) (of_then of header)) in
    let order = adds_on extension (remarks_add _ picture bit (sequence_order_rule before) (of_then of extension)) in
    let warnings = adds_on order (remarks_add _ picture bit (sequence_warnings rules s) (of_then of order)) in
    adds_on warnings (remarks_add _ picture bit (set_remarks rules like s) (of_then of warnings))

-- of a group header, where a sequence header came before it
pub group_remarks_add : {n : ℕ} (r : Report) (rules : RuleSet) (before : Behind) (picture bit : ℕ) (s : Option Sequence) (g : GroupInfo)
    → IsOf n r → Adds r (with_group_by r rules before picture bit s g) (group_found n rules before picture bit s g) []
group_remarks_add r rules before picture bit None g of = adds_none r of
group_remarks_add r rules before picture bit (Some s) g of =
    let code = s.info.frame_rate_code in
    let order = remarks_add r picture bit (group_order_rule before.headers) of in
    let numbers = adds_on order (remarks_add _ picture bit (group_remarks code g) (of_then of order)) in
    let times = adds_on numbers (remarks_add _ picture bit (time_warnings code before.group before.fields g) (of_then of numbers)) in
    let links = adds_on times (remarks_add _ picture bit (broken_link_warning g) (of_then of times)) in
    adds_on links (remarks_add _ picture bit (set_group_remarks rules before.headers.sequence) (of_then of links))

-- of the end of a sequence
pub last_remarks_add : {n : ℕ} (r : Report) (before : Leading) (picture : ℕ) (end : Option PieceEnd) → IsOf n r
    → Adds r (with_end_remarks r before picture end) (last_found n before picture end) []
last_remarks_add r before picture None of = adds_none r of
last_remarks_add r before picture (Some e) of = remarks_add r picture e.bit (end_remarks before e.closed) of

-- of the frame that is shown, where one is, which is a warning
parity_warned : (n picture bit have need : ℕ) (holds : Bool) → remarks_found n picture bit (judge holds (remark 58 elements.FieldParity have need)) ≡ []
unfolding remarks_found
parity_warned n picture bit have need true = refl
parity_warned n picture bit have need false = refl

parity_found : (n picture bit : ℕ) (last : Option Bool) (f : ShownFrame) → remarks_found n picture bit (parity_warning last f) ≡ []
unfolding remarks_found parity_warning
parity_found n picture bit None f = refl
parity_found n picture bit (Some last) f =
    parity_warned n picture bit (number_of f.first_top) (number_of (not f.first_top)) (differ last f.first_top)

pub shown_adds : {n : ℕ} (r : Report) (last : Option Bool) (shown : Option ShownFrame) → IsOf n r → Adds r (with_shown r last shown) [] []
shown_adds r last None of = adds_none r of
shown_adds {n} r last (Some f) of =
    subst (λ (l : List Finding). Adds r (with_shown r last (Some f)) l []) (parity_found n f.picture f.bit last f)
    (remarks_add r f.picture f.bit (parity_warning last f) of)

-- of what else stands before the first slice of a picture
pub others_add : {n : ℕ} (r : Report) (picture : ℕ) (os : List Other) → IsOf n r → Adds r (with_own_remarks r picture os) (others_found n picture os) []
unfolding with_own_remarks
others_add r picture [] of = adds_none r of
others_add r picture (o ∷ os) of =
    let first = remarks_add r picture (own_bit o) (own_remarks o) of in
    adds_on first (others_add (with_remarks r picture (own_bit o) (own_remarks o)) picture os (of_then of first))

-- of a picture, behind what the pictures before it come to
pub picture_remarks_add : {n : ℕ} (r : Report) (rules : RuleSet) (before : Preceding) (constant : Bool) (runs : Runs) (p : CodedPicture) → IsOf n r
    → Adds r (with_all_remarks r rules before constant runs p) (picture_found n rules before constant runs p) []
picture_remarks_add r rules before constant runs p of =
    let bit = bit_of p.note in
    let type = remarks_add r p.number bit (first_type_rule before.headed p) of in
    let delays = adds_on type (remarks_add _ p.number bit (delay_remarks constant p) (of_then of type)) in
    let arrivals = adds_on delays (remarks_add _ p.number bit (arrival_rule before.rate before.picture p) (of_then of delays)) in
    let codes = adds_on arrivals (remarks_add _ p.number bit (f_code_rule p) (of_then of arrivals)) in
    let vectors = adds_on codes (remarks_add _ p.number bit (full_pel_rule p.note.info) (of_then of codes)) in
    let fields = adds_on vectors (remarks_add _ p.number bit (field_rule constant p) (of_then of vectors)) in
    let frames = adds_on fields (remarks_add _ p.number bit (frame_remarks constant p) (of_then of fields)) in
    let warnings = adds_on frames (remarks_add _ p.number bit (picture_warnings p) (of_then of frames)) in
    adds_on warnings (remarks_add _ p.number bit (set_picture_remarks rules runs p (fields_of p.sequence p.note)) (of_then of warnings))

-- ---- removals

held_adds : {n : ℕ} (r : Report) (rate : Rate) (d : Due) (t : Removed) → IsOf n r → Adds r (with_held r rate d t) [] []
held_adds r rate d t of = maybe_adds r.pictures r (held_line (held_of r.sequence rate d t)) of refl (held_is (held_of r.sequence rate d t))

failed : {n : ℕ} (b : Bool) (r : Report) (f : ℕ → FailureRecord) → IsOf n r → Adds r (if b then with_failure r (f r.sequence) else r) [] (if b then f n ∷ [] else [])
failed true r f of = subst (λ (k : ℕ). Adds r (with_failure r (f r.sequence)) [] (f k ∷ [])) of.is (failure_adds r (f r.sequence) of)
failed false r f of = adds_none r of

-- a warning, where the delay is far from that which the removal implies
far_adds : {n : ℕ} (b : Bool) (r : Report) (x : Broken) → IsOf n r → Adds r (if b then with_warning r x else r) [] []
far_adds true r x of = warning_adds r x of
far_adds false r x of = adds_none r of

pub removal_adds : {n : ℕ} (r : Report) (rate : Rate) (t : Told) → IsOf n r → Adds r (with_removal r rate t.0 t.1) [] (failures_of n rate t)
removal_adds {n} r rate t of =
    let held = with_held r rate t.0 t.1 in
    let under = with_under held rate t.0 t.1 in
    let over = with_over under rate t.0 t.1 in
    let first : Adds r held [] [] = held_adds r rate t.0 t.1 of in
    let of_held : IsOf n held = of_then of first in
    let next : Adds held under [] (if t.1.is_under then under_of n rate t.0 t.1 ∷ [] else []) = failed t.1.is_under held (λ k. under_of k rate t.0 t.1) of_held in
    let of_under : IsOf n under = of_then of_held next in
    let last : Adds under over [] (if t.1.is_over then over_of n rate t.0 t.1 ∷ [] else []) = failed t.1.is_over under (λ k. over_of k rate t.0 t.1) of_under in
    let far : Adds over (with_far over rate t.0 t.1) [] [] = far_adds (is_far rate.constant t.0 t.1) over (far_at t.0 t.1) (of_then of_under last) in
    let fails = adds_on first (adds_on next last) in
    let all = subst (λ (fs : List FailureRecord). Adds r (with_far over rate t.0 t.1) [] fs) (append-nil (failures_of n rate t)) (adds_on fails far) in
    adds_counted (with_due (with_far over rate t.0 t.1).tally rate.constant t.0 t.1) all refl refl

pub removals_add : {n : ℕ} (r : Report) (rate : Rate) (ts : List Told) → IsOf n r → Adds r (with_removals r rate ts) [] (flat_map (failures_of n rate) ts)
unfolding with_removals
removals_add r rate [] of = adds_none r of
removals_add r rate (t ∷ ts) of =
    let first = removal_adds r rate t of in
    adds_on first (removals_add (with_removal r rate t.0 t.1) rate ts (of_then of first))

-- those that are left at the end
pub left_add : {n : ℕ} (r : Report) (rate : Rate) (x : Option Account) → IsOf n r → Adds r (with_left r rate x) [] (flat_map (failures_of n rate) (left_in x))
left_add r rate None of = adds_none r of
left_add r rate (Some x) of = removals_add r rate _ of

-- ---- other lines

skipped_adds : {n : ℕ} (b : Bool) (r : Report) (sequence start skipped : ℕ) → IsOf n r → Adds r (with_text r (if b then [] else skipped_line sequence start skipped)) [] []
skipped_adds true r sequence start skipped of = empty_adds r of
skipped_adds false r sequence start skipped of = line_adds r (skipped_line sequence start skipped) of refl (skipped_is sequence start skipped)

pub begin_adds : {n : ℕ} (r : Report) (skipped start : ℕ) (s : SequenceRecord) → IsOf n r → Adds r (with_begin r skipped start s) [] []
begin_adds r skipped start s of =
    let first = skipped_adds (nat_eq skipped 0) r r.sequence start skipped of in
    adds_on first (line_adds _ (sequence_line s) (of_then of first) refl (sequence_is s))

pub group_adds : {n : ℕ} (r : Report) (g : GroupRecord) → IsOf n r → Adds r (with_group_line r g) [] []
group_adds r g of = maybe_adds r.pictures r (group_line g) of refl (group_is g)

pub picture_adds : {n : ℕ} (r : Report) (p : PictureRecord) → IsOf n r → Adds r (with_picture_line r p) [] []
picture_adds r p of = maybe_adds r.pictures r (picture_line p) of refl (picture_is p)

-- how often a rule was broken, where it was
counted : {n : ℕ} (none : Bool) (r : Report) (c : CountRecord) → IsOf n r → Adds r (if none then r else with_text r (count_line c)) [] []
counted true r c of = adds_none r of
counted false r c of = line_adds r (count_line c) of refl (count_is c)

counts_add : {n : ℕ} (rules : ℕ) (r : Report) → IsOf n r → Adds r (with_counts rules r) [] []
unfolding with_counts
counts_add zero r of = adds_none r of
counts_add (suc rules) r of =
    let first = counts_add rules r of in
    adds_on first (counted (nat_eq (count_of (with_counts rules r).tally (suc rules)).how_often 0) (with_counts rules r) _ (of_then of first))

pub end_adds : {n : ℕ} (r : Report) (totals : SequenceTotals) → IsOf n r → Adds r (with_end r totals) [] []
end_adds r totals of =
    let first = counts_add 95 r of in
    adds_on first (line_adds (with_counts 95 r) (end_line (end_of r totals)) (of_then of first) refl (end_is (end_of r totals)))
