-- Two reports of which one has the records of the other, moved on: what each call of a report does to both.
use Rattle.std.proofs.Common.{◌≡◌, ℕ, zero, suc, ◌+◌, ◌-◌, ◌*◌, Bool, true, false, List, [], ◌∷◌, ◌++◌, Option, Some, None, refl, sym, ap, subst, ◌∙◌, arith}
use Rattle.std.specs.Prelude.{◌&&◌, not, nat_eq, nat_lt, map, if◌then◌else◌}
use Rattle.std.specs.List.{flat_map}
use Rattle.std.specs.Option.{option_map}
use Rattle.std.proofs.lemmas.List.{append-nil, map-append}
use Rattle.std.proofs.lemmas.Grind.{flat_map-append}
use Rattle.m2v_vbv.specs.declared.removed.Removed.{Removed}
use Rattle.m2v_model.specs.m2v_macroblock.m2v_head.declared.group.GroupInfo.{GroupInfo}
use Rattle.m2v_model.specs.declared.state.Sequence.{Sequence}
use Rattle.m2v_model.specs.declared.notes.PictureNote.{PictureNote}
use Rattle.m2v_model.specs.Lawful.{Breaches, horizontal_rule, vertical_rule, intra_rule, crowd_rule, repeat_rule, progressive_rule, precision_rule}
use Rattle.m2v_audit.specs.m2v_check.declared.coded.CodedPicture.{CodedPicture}
use Rattle.m2v_audit.specs.m2v_check.Breaking.{numbered_of}
use Rattle.m2v_audit.specs.m2v_strict.declared.rule_set.RuleSet.{RuleSet}
use Rattle.m2v_audit.specs.m2v_strict.declared.rule_set.RuleSet.TheVariants as sets
use Rattle.m2v_audit.specs.m2v_strict.declared.leading.Leading.{Leading}
use Rattle.m2v_audit.specs.m2v_strict.declared.preceding.Arrival.{Arrival}
use Rattle.m2v_audit.specs.m2v_strict.declared.preceding.Preceding.{Preceding}
use Rattle.m2v_audit.specs.m2v_strict.declared.runs.Runs.{Runs}
use Rattle.m2v_audit.specs.m2v_strict.declared.element.Element.TheVariants as elements
use Rattle.m2v_audit.specs.m2v_strict.Remarks.{Remarks, remark, judge, looked_at, is_warning}
use Rattle.m2v_audit.specs.m2v_strict.SequenceRules.{level_remarks, header_rule, extension_rule, sequence_warnings}
use Rattle.m2v_audit.specs.m2v_strict.GroupRules.{group_remarks, broken_link_warning}
use Rattle.m2v_audit.specs.m2v_strict.PictureRules.{low_delay_rule, f_code_rule, full_pel_rule, field_rule, prediction_rule, top_first_rule, interlaced_rule, repeat_by_rate_rule, dropped_warning, b_repeat_warning, delay_remarks, frame_remarks, picture_warnings}
use Rattle.m2v_audit.specs.m2v_strict.DvdRules.{b_frames_with, fields_rule, b_frames_warning, first_group_warning, runs_with}
use Rattle.m2v_audit.specs.m2v_strict.TimeRules.{time_warnings}
use Rattle.m2v_audit.specs.m2v_strict.ParityRules.{parity_warning}
use Rattle.m2v_audit.specs.m2v_strict.ArrivalRules.{time_between, arrival_rule}
use Rattle.m2v_audit.specs.m2v_strict.OrderRules.{sequence_order_rule, group_order_rule, first_type_rule, end_remarks}
use Rattle.m2v_audit.specs.m2v_strict.SetRules.{set_remarks, set_group_remarks, set_picture_remarks}
use Rattle.m2v_audit.specs.declared.auditing.PieceEnd.{PieceEnd}
use Rattle.m2v_audit.specs.declared.remarks.Behind.{Behind}
use Rattle.m2v_audit.specs.m2v_strict.declared.parity.ShownFrame.{ShownFrame}
use Rattle.m2v_audit.specs.declared.account.Due.{Due}
use Rattle.m2v_audit.specs.declared.places.Misplaced.{Misplaced}
use Rattle.m2v_audit.specs.declared.records.SequenceRecord.{SequenceRecord}
use Rattle.m2v_audit.specs.declared.records.GroupRecord.{GroupRecord}
use Rattle.m2v_audit.specs.declared.records.PictureRecord.{PictureRecord}
use Rattle.m2v_audit.specs.declared.records.FailureRecord.{FailureRecord}
use Rattle.m2v_audit.specs.declared.report.Broken.{Broken}
use Rattle.m2v_audit.specs.declared.report.Rate.{Rate}
use Rattle.m2v_audit.specs.declared.report.SequenceTotals.{SequenceTotals}
use Rattle.m2v_audit.specs.declared.tally.RuleCount.{RuleCount}
use Rattle.m2v_audit.specs.declared.tally.Tally.{Tally}
use Rattle.m2v_audit.specs.Account.{Told}
use Rattle.m2v_audit.specs.Auditing.{with_shown, with_end_remarks, with_sequence_remarks, with_group_by, with_rules, with_picture_remarks, with_all_remarks}
use Rattle.m2v_audit.specs.HeaderRecords.{bit_of}
use Rattle.m2v_audit.specs.declared.records.Finding.{Finding}
use Rattle.m2v_audit.specs.Findings.{broken_at, remarked_at, misplaced_at, with_breaches, with_remarks, with_misplaced, with_removals}
use Rattle.m2v_audit.specs.Lines.{skipped_line, sequence_line, group_line, picture_line, held_line, failure_line, count_line, end_line}
use Rattle.m2v_audit.specs.Report.{Report, with_text, with_rule, with_warned, with_failing, with_due, finding_of, with_breach, with_warning, with_finding, held_of, under_of, over_of, with_failure, with_held, with_under, with_over, is_far, far_at, with_far, with_removal, with_begin, with_group_line, with_picture_line, count_of, with_count, with_counts, end_of, with_end}
use Rattle.m2v_audit.specs.Times.{fields_of}
use Rattle.m2v_law_audit.specs.Moved.{Record, of_skipped, of_sequence, of_group, of_picture, of_held, of_breach, of_warning, of_failure, of_count, of_end, record_text, moved}

-- a report's records, and another report that has them, so many sequences and so many bytes further on; both count the same
pub record Together (n k : ℕ) (r s : Report) : Type 0 where
  pub records : List Record
  pub own : r.text ≡ flat_map record_text records
  pub other : s.text ≡ flat_map record_text (map (moved n k) records)
  pub tally : s.tally ≡ r.tally
  pub sequence : s.sequence ≡ r.sequence + n
  pub pictures : s.pictures ≡ r.pictures

-- ---- one record

one_behind : (rs : List Record) (x : Record) → flat_map record_text rs ++ record_text x ≡ flat_map record_text (rs ++ x ∷ [])
one_behind rs x =
    ap (λ (l : List ℕ). flat_map record_text rs ++ l) (sym (append-nil (record_text x))) ∙ sym (flat_map-append record_text rs (x ∷ []))

-- a record comes, and other things may be counted then
counted_line : {n k : ℕ} {r s : Report} (x : Record) (line : List ℕ) (t u : Tally) → Together n k r s → line ≡ record_text (moved n k x) → u ≡ t
    → Together n k (record r { text = r.text ++ record_text x; tally = t }) (record s { text = s.text ++ line; tally = u })
counted_line {n} {k} {r} {s} x line t u h e same = record {
  records = h.records ++ x ∷ [];
  own = ap (λ (l : List ℕ). l ++ record_text x) h.own ∙ one_behind h.records x;
  other =
      ap (λ (l : List ℕ). s.text ++ l) e
      ∙ ap (λ (l : List ℕ). l ++ record_text (moved n k x)) h.other
      ∙ one_behind (map (moved n k) h.records) (moved n k x)
      ∙ ap (λ (rs : List Record). flat_map record_text rs) (sym (map-append (moved n k) h.records (x ∷ [])));
  tally = same;
  sequence = h.sequence;
  pictures = h.pictures;
}

line_comes : {n k : ℕ} {r s : Report} (x : Record) (line : List ℕ) → Together n k r s → line ≡ record_text (moved n k x) → Together n k (with_text r (record_text x)) (with_text s line)
line_comes {n} {k} {r} {s} x line h e = counted_line x line r.tally s.tally h e h.tally

-- where there is one
line_chosen : {n k : ℕ} {r s : Report} (b : Bool) (x : Record) (line : List ℕ) → Together n k r s → line ≡ record_text (moved n k x)
    → Together n k (if b then with_text r (record_text x) else r) (if b then with_text s line else s)
line_chosen true x line h e = line_comes x line h e
line_chosen false x line h e = h

-- where each picture is told
each_line : {n k : ℕ} {r s : Report} (x : Record) (line : List ℕ) → Together n k r s → line ≡ record_text (moved n k x)
    → Together n k (if r.pictures then with_text r (record_text x) else r) (if s.pictures then with_text s line else s)
each_line {n} {k} {r} {s} x line h e =
    subst (λ (b : Bool). Together n k (if r.pictures then with_text r (record_text x) else r) (if b then with_text s line else s))
    (sym h.pictures) (line_chosen r.pictures x line h e)

no_line : {n k : ℕ} {r s : Report} → Together n k r s → Together n k (with_text r []) (with_text s [])
no_line {n} {k} {r} {s} h = record {
  records = h.records;
  own = append-nil r.text ∙ h.own;
  other = append-nil s.text ∙ h.other;
  tally = h.tally;
  sequence = h.sequence;
  pictures = h.pictures;
}

-- both count something
both_count : {n k : ℕ} {r s : Report} (f : Tally → Tally) → Together n k r s → Together n k (record r { tally = f r.tally }) (record s { tally = f s.tally })
both_count f h = record {
  records = h.records;
  own = h.own;
  other = h.other;
  tally = ap f h.tally;
  sequence = h.sequence;
  pictures = h.pictures;
}

-- ---- breaches

abbrev pub broken_on : ℕ → Broken → Broken
broken_on k b = record b { bit = b.bit + 8 * k }

-- one that is told by a record, and counted
finding_comes : {n k : ℕ} {r s : Report} (of : Finding → Record) (count : Tally → Tally) (b : Broken)
    → of (finding_of (r.sequence + n) (broken_on k b)) ≡ moved n k (of (finding_of r.sequence b)) → Together n k r s
    → Together n k (record r { text = r.text ++ record_text (of (finding_of r.sequence b)); tally = count r.tally })
    (record s { text = s.text ++ record_text (of (finding_of s.sequence (broken_on k b))); tally = count s.tally })
finding_comes {n} {k} {r} {s} of count b is h =
    counted_line (of (finding_of r.sequence b)) (record_text (of (finding_of s.sequence (broken_on k b)))) (count r.tally) (count s.tally) h
    (ap (λ (q : ℕ). record_text (of (finding_of q (broken_on k b)))) h.sequence ∙ ap record_text is)
    (ap count h.tally)

breach_comes : {n k : ℕ} {r s : Report} (b : Broken) → Together n k r s → Together n k (with_breach r b) (with_breach s (broken_on k b))
breach_comes b h = finding_comes of_breach (λ (t : Tally). with_rule t b.rule b.picture) b refl h

breaches_come : {n k : ℕ} (r s : Report) (picture bit : ℕ) (bs : Breaches) → Together n k r s → Together n k (with_breaches r picture bit bs) (with_breaches s picture (bit + 8 * k) bs)
unfolding with_breaches
breaches_come r s picture bit [] h = h
breaches_come {n} {k} r s picture bit (b ∷ bs) h =
    breaches_come (with_breach r (broken_at picture bit b)) (with_breach s (broken_at picture (bit + 8 * k) b)) picture bit bs (breach_comes (broken_at picture bit b) h)

-- the same at a bit that is so many bytes further on
pub breaches_at : {n k : ℕ} {r s : Report} (picture bit other : ℕ) (bs : Breaches) → other ≡ bit + 8 * k → Together n k r s → Together n k (with_breaches r picture bit bs) (with_breaches s picture other bs)
breaches_at {n} {k} {r} {s} picture bit other bs e h =
    subst (λ (b : ℕ). Together n k (with_breaches r picture bit bs) (with_breaches s picture b bs)) (sym e) (breaches_come r s picture bit bs h)

-- ---- what the stricter rules remark

warning_comes : {n k : ℕ} {r s : Report} (b : Broken) → Together n k r s → Together n k (with_warning r b) (with_warning s (broken_on k b))
warning_comes b h = finding_comes of_warning (λ (t : Tally). with_warned t b.rule b.picture) b refl h

-- a warning, or else a breach
finding_chosen : {n k : ℕ} {r s : Report} (warns : Bool) (b : Broken) → Together n k r s
    → Together n k (if warns then with_warning r b else with_breach r b)
    (if warns then with_warning s (broken_on k b) else with_breach s (broken_on k b))
finding_chosen true b h = warning_comes b h
finding_chosen false b h = breach_comes b h

remarks_come : {n k : ℕ} (r s : Report) (picture bit : ℕ) (ms : Remarks) → Together n k r s
    → Together n k (with_remarks r picture bit ms) (with_remarks s picture (bit + 8 * k) ms)
unfolding with_remarks
remarks_come r s picture bit [] h = h
remarks_come {n} {k} r s picture bit (m ∷ ms) h =
    remarks_come (with_finding r (remarked_at picture bit m)) (with_finding s (remarked_at picture (bit + 8 * k) m)) picture bit ms
    (finding_chosen (is_warning m.rule) (remarked_at picture bit m) h)

-- the same remarks at a bit that is so many bytes further on
pub remarks_at : {n k : ℕ} {r s : Report} (picture bit other : ℕ) (ms same : Remarks) → other ≡ bit + 8 * k → same ≡ ms → Together n k r s
    → Together n k (with_remarks r picture bit ms) (with_remarks s picture other same)
remarks_at {n} {k} {r} {s} picture bit other ms same e f h =
    subst (λ (b : ℕ). Together n k (with_remarks r picture bit ms) (with_remarks s picture b same)) (sym e)
    (subst (λ (l : Remarks). Together n k (with_remarks r picture bit ms) (with_remarks s picture (bit + 8 * k) l)) (sym f)
    (remarks_come r s picture bit ms h))

-- of a sequence header, beside the first one of its sequence
pub sequence_remarks_come : {n k : ℕ} {r s : Report} (rules : RuleSet) (like : Option Sequence) (before : Leading) (picture bit : ℕ) (first x : Sequence) → Together n k r s
    → Together n k (with_sequence_remarks r rules like before picture bit first x) (with_sequence_remarks s rules like before picture (bit + 8 * k) first x)
sequence_remarks_come {n} {k} rules like before picture bit first x h =
    let to = bit + 8 * k in
    remarks_at picture bit to (set_remarks rules like x) (set_remarks rules like x) refl refl
    (remarks_at picture bit to (sequence_warnings rules x) (sequence_warnings rules x) refl refl
    (remarks_at picture bit to (sequence_order_rule before) (sequence_order_rule before) refl refl
    (remarks_at picture bit to (extension_rule first x) (extension_rule first x) refl refl
    (remarks_at picture bit to (header_rule first x) (header_rule first x) refl refl
    (remarks_at picture bit to (level_remarks x) (level_remarks x) refl refl h)))))

-- of a group header, in a sequence with this header, where one came
pub group_remarks_come : {n k : ℕ} {r s : Report} (rules : RuleSet) (before : Behind) (picture bit : ℕ) (x : Option Sequence) (g : GroupInfo)
    → Together n k r s
    → Together n k (with_group_by r rules before picture bit x g) (with_group_by s rules before picture (bit + 8 * k) x g)
group_remarks_come rules before picture bit None g h = h
group_remarks_come {n} {k} rules before picture bit (Some x) g h =
    let code = x.info.frame_rate_code in
    remarks_come _ _ picture bit (set_group_remarks rules before.headers.sequence)
    (remarks_come _ _ picture bit (broken_link_warning g)
    (remarks_come _ _ picture bit (time_warnings code before.group before.fields g)
    (remarks_come _ _ picture bit (group_remarks code g) (remarks_come _ _ picture bit (group_order_rule before.headers) h))))

-- a frame as it is shown, so many bytes further on
abbrev pub shown_on : ℕ → ShownFrame → ShownFrame
shown_on k f = record f { bit = f.bit + 8 * k }

same_parity : (k : ℕ) (last : Option Bool) (f : ShownFrame) → parity_warning last (shown_on k f) ≡ parity_warning last f
unfolding parity_warning
same_parity k None f = refl
same_parity k (Some t) f = refl

-- of the frame that is shown, where one is
pub shown_come : {n k : ℕ} {r s : Report} (last : Option Bool) (f : Option ShownFrame) → Together n k r s
    → Together n k (with_shown r last f) (with_shown s last (option_map (shown_on k) f))
shown_come last None h = h
shown_come {n} {k} last (Some f) h =
    remarks_at f.picture f.bit (f.bit + 8 * k) (parity_warning last f) (parity_warning last (shown_on k f)) refl (same_parity k last f) h

-- how a piece ends, so many bytes further on
abbrev pub end_on : ℕ → PieceEnd → PieceEnd
end_on k e = record e { bit = e.bit + 8 * k }

-- of the end of a sequence
pub last_remarks_come : {n k : ℕ} {r s : Report} (before : Leading) (picture : ℕ) (end : Option PieceEnd) → Together n k r s
    → Together n k (with_end_remarks r before picture end) (with_end_remarks s before picture (option_map (end_on k) end))
last_remarks_come before picture None h = h
last_remarks_come {n} {k} before picture (Some e) h =
    let ms : Remarks = end_remarks before e.closed in
    remarks_at picture e.bit (e.bit + 8 * k) ms ms refl refl h

-- ---- frames that stand at another place than they say

abbrev pub misplaced_on : ℕ → Misplaced → Misplaced
misplaced_on k m = record m { bit = m.bit + 8 * k }

abbrev pub maybe_on : ℕ → Option Misplaced → Option Misplaced
maybe_on k m = option_map (misplaced_on k) m

misplaced_come : {n k : ℕ} (r s : Report) (ms : List (Option Misplaced)) → Together n k r s → Together n k (with_misplaced r ms) (with_misplaced s (map (maybe_on k) ms))
unfolding with_misplaced
misplaced_come r s [] h = h
misplaced_come r s (None ∷ ms) h = misplaced_come r s ms h
misplaced_come {n} {k} r s (Some m ∷ ms) h =
    misplaced_come (with_breach r (misplaced_at m)) (with_breach s (misplaced_at (misplaced_on k m))) ms (breach_comes (misplaced_at m) h)

pub misplaced_told : {n k : ℕ} {r s : Report} (ms other : List (Option Misplaced)) → other ≡ map (maybe_on k) ms → Together n k r s → Together n k (with_misplaced r ms) (with_misplaced s other)
misplaced_told {n} {k} {r} {s} ms other e h =
    subst (λ (l : List (Option Misplaced)). Together n k (with_misplaced r ms) (with_misplaced s l)) (sym e) (misplaced_come r s ms h)

-- ---- removals

abbrev pub due_on : ℕ → Due → Due
due_on k d = record d { bit = d.bit + 8 * k }

abbrev pub told_on : ℕ → Told → Told
told_on k t = (due_on k t.0, t.1)

failure_chosen : {n k : ℕ} {r s : Report} (b : Bool) (f g : FailureRecord) → Together n k r s → failure_line g ≡ record_text (moved n k (of_failure f))
    → Together n k (if b then with_failure r f else r) (if b then with_failure s g else s)
failure_chosen {n} {k} {r} {s} true f g h e =
    counted_line (of_failure f) (failure_line g) (with_failing r.tally) (with_failing s.tally) h e (ap (λ (t : Tally). with_failing t) h.tally)
failure_chosen false f g h e = h

warning_chosen : {n k : ℕ} {r s : Report} (b : Bool) (x : Broken) → Together n k r s
    → Together n k (if b then with_warning r x else r) (if b then with_warning s (broken_on k x) else s)
warning_chosen true x h = warning_comes x h
warning_chosen false x h = h

module _ (k : ℕ) (rate : Rate) (d : Due) (t : Removed) where
  held_comes : {n : ℕ} {r s : Report} → Together n k r s → Together n k (with_held r rate d t) (with_held s rate (due_on k d) t)
  held_comes {n} {r} {s} h =
      each_line (of_held (held_of r.sequence rate d t)) (held_line (held_of s.sequence rate (due_on k d) t)) h
      (ap (λ (q : ℕ). held_line (held_of q rate (due_on k d) t)) h.sequence)

  under_comes : {n : ℕ} {r s : Report} → Together n k r s → Together n k (with_under r rate d t) (with_under s rate (due_on k d) t)
  under_comes {n} {r} {s} h =
      failure_chosen t.is_under (under_of r.sequence rate d t) (under_of s.sequence rate (due_on k d) t) h
      (ap (λ (q : ℕ). failure_line (under_of q rate (due_on k d) t)) h.sequence)

  over_comes : {n : ℕ} {r s : Report} → Together n k r s → Together n k (with_over r rate d t) (with_over s rate (due_on k d) t)
  over_comes {n} {r} {s} h =
      failure_chosen t.is_over (over_of r.sequence rate d t) (over_of s.sequence rate (due_on k d) t) h
      (ap (λ (q : ℕ). failure_line (over_of q rate (due_on k d) t)) h.sequence)

  far_comes : {n : ℕ} {r s : Report} → Together n k r s → Together n k (with_far r rate d t) (with_far s rate (due_on k d) t)
  far_comes h = warning_chosen (is_far rate.constant d t) (far_at d t) h

  removal_comes : {n : ℕ} {r s : Report} → Together n k r s → Together n k (with_removal r rate d t) (with_removal s rate (due_on k d) t)
  removal_comes h = both_count (λ (x : Tally). with_due x rate.constant d t) (far_comes (over_comes (under_comes (held_comes h))))

removals_come : {n k : ℕ} (r s : Report) (rate : Rate) (ts : List Told) → Together n k r s → Together n k (with_removals r rate ts) (with_removals s rate (map (told_on k) ts))
unfolding with_removals
removals_come r s rate [] h = h
removals_come {n} {k} r s rate (t ∷ ts) h =
    removals_come (with_removal r rate t.0 t.1) (with_removal s rate (due_on k t.0) t.1) rate ts (removal_comes k rate t.0 t.1 h)

pub removals_told : {n k : ℕ} {r s : Report} (rate : Rate) (ts other : List Told) → other ≡ map (told_on k) ts → Together n k r s → Together n k (with_removals r rate ts) (with_removals s rate other)
removals_told {n} {k} {r} {s} rate ts other e h =
    subst (λ (l : List Told). Together n k (with_removals r rate ts) (with_removals s rate l)) (sym e) (removals_come r s rate ts h)

-- ---- other lines

skipped_chosen : {n k : ℕ} {r s : Report} (none : Bool) (start skipped : ℕ) → Together n k r s
    → Together n k (with_text r (if none then [] else skipped_line r.sequence start skipped)) (with_text s (if none then [] else skipped_line s.sequence (start + k) skipped))
skipped_chosen true start skipped h = no_line h
skipped_chosen {n} {k} {r} {s} false start skipped h =
    line_comes (of_skipped r.sequence start skipped) (skipped_line s.sequence (start + k) skipped) h
    (ap (λ (q : ℕ). skipped_line q (start + k) skipped) h.sequence)

pub begin_comes : {n k : ℕ} {r s : Report} (skipped other start : ℕ) (x y : SequenceRecord) → other ≡ skipped → sequence_line y ≡ record_text (moved n k (of_sequence x)) → Together n k r s
    → Together n k (with_begin r skipped start x) (with_begin s other (start + k) y)
begin_comes {n} {k} {r} {s} skipped other start x y e f h =
    subst (λ (m : ℕ). Together n k (with_begin r skipped start x) (with_begin s m (start + k) y)) (sym e)
    (line_comes (of_sequence x) (sequence_line y) (skipped_chosen (nat_eq skipped 0) start skipped h) f)

pub group_comes : {n k : ℕ} {r s : Report} (g other : GroupRecord) → group_line other ≡ record_text (moved n k (of_group g)) → Together n k r s → Together n k (with_group_line r g) (with_group_line s other)
group_comes g other e h = each_line (of_group g) (group_line other) h e

pub picture_comes : {n k : ℕ} {r s : Report} (p other : PictureRecord) → picture_line other ≡ record_text (moved n k (of_picture p)) → Together n k r s → Together n k (with_picture_line r p) (with_picture_line s other)
picture_comes p other e h = each_line (of_picture p) (picture_line other) h e

-- ---- the end

-- how often a rule was broken, where it was
abbrev count_by : RuleCount → Report → ℕ → Report
count_by c r rule =
    if nat_eq c.how_often 0 then r
    else with_text r (count_line (record { sequence = r.sequence; rule = rule; how_often = c.how_often; picture = c.picture }))

count_chosen : {n k : ℕ} {r s : Report} (none : Bool) (c : RuleCount) (rule : ℕ) → Together n k r s
    → Together n k (if none then r else with_text r (count_line (record { sequence = r.sequence; rule = rule; how_often = c.how_often; picture = c.picture })))
    (if none then s else with_text s (count_line (record { sequence = s.sequence; rule = rule; how_often = c.how_often; picture = c.picture })))
count_chosen true c rule h = h
count_chosen {n} {k} {r} {s} false c rule h =
    line_comes (of_count (record { sequence = r.sequence; rule = rule; how_often = c.how_often; picture = c.picture })) _ h
    (ap (λ (q : ℕ). count_line (record { sequence = q; rule = rule; how_often = c.how_often; picture = c.picture })) h.sequence)

count_comes : {n k : ℕ} {r s : Report} (rule : ℕ) → Together n k r s → Together n k (with_count r rule) (with_count s rule)
count_comes {n} {k} {r} {s} rule h =
    let c = count_of r.tally rule in
    subst (λ (t : Tally). Together n k (with_count r rule) (count_by (count_of t rule) s rule)) (sym h.tally) (count_chosen (nat_eq c.how_often 0) c rule h)

counts_come : {n k : ℕ} {r s : Report} (rules : ℕ) → Together n k r s → Together n k (with_counts rules r) (with_counts rules s)
unfolding with_counts
counts_come zero h = h
counts_come (suc rules) h = count_comes (suc rules) (counts_come rules h)

-- the end of a sequence of this number, by what was counted
abbrev end_by : ℕ → Tally → SequenceTotals → List ℕ
end_by sequence tally totals = end_line (end_of (record { text = []; tally = tally; sequence = sequence; pictures = true }) totals)

pub end_comes : {n k : ℕ} {r s : Report} (totals : SequenceTotals) → Together n k r s → Together n k (with_end r totals) (with_end s totals)
end_comes {n} {k} {r} {s} totals h =
    line_comes (of_end (end_of r totals)) (end_line (end_of s totals)) (counts_come 95 h)
    (ap (λ (q : ℕ). end_by q s.tally totals) h.sequence ∙ ap (λ (t : Tally). end_by (r.sequence + n) t totals) h.tally)

-- ---- a picture's rules

abbrev pub note_on : ℕ → PictureNote → PictureNote
note_on k n = record n { code_end = n.code_end + 8 * k }

abbrev pub coded_on : ℕ → CodedPicture → CodedPicture
coded_on k p = record p { note = note_on k p.note }

pub rules_come : {n k : ℕ} {r s : Report} (constant : Bool) (p : CodedPicture) → bit_of (note_on k p.note) ≡ bit_of p.note + 8 * k → Together n k r s
    → Together n k (with_rules r constant p) (with_rules s constant (coded_on k p))
rules_come {n} {k} constant p e h =
    let c = numbered_of p in
    let xs : Breaches = horizontal_rule c ++ vertical_rule c ++ intra_rule c in
    let ys : Breaches = crowd_rule c ++ repeat_rule constant c ++ progressive_rule c ++ precision_rule c in
    breaches_at p.number (bit_of p.note) (bit_of (note_on k p.note)) ys e (breaches_at p.number (bit_of p.note) (bit_of (note_on k p.note)) xs e h)

-- ---- what the stricter rules remark of a picture: where its start code ends is of no matter to them

module _ (k : ℕ) (constant : Bool) (p : CodedPicture) where
  same_delays : delay_remarks constant (coded_on k p) ≡ delay_remarks constant p
  unfolding low_delay_rule
  same_delays = refl

  same_type : (headed : Bool) → first_type_rule headed (coded_on k p) ≡ first_type_rule headed p
  unfolding first_type_rule
  same_type headed = refl

  same_codes : f_code_rule (coded_on k p) ≡ f_code_rule p
  unfolding f_code_rule
  same_codes = refl

  same_fields : field_rule constant (coded_on k p) ≡ field_rule constant p
  unfolding field_rule
  same_fields = refl

  same_frames : frame_remarks constant (coded_on k p) ≡ frame_remarks constant p
  unfolding prediction_rule top_first_rule interlaced_rule repeat_by_rate_rule
  same_frames = refl

  same_warnings : picture_warnings (coded_on k p) ≡ picture_warnings p
  unfolding dropped_warning b_repeat_warning
  same_warnings = refl

-- what comes before a picture, so many bytes further on
abbrev pub arrival_on : ℕ → Arrival → Arrival
arrival_on k d = record d { code_end = d.code_end + 8 * k }

abbrev pub preceding_on : ℕ → Preceding → Preceding
preceding_on k before = record before { picture = option_map (arrival_on k) before.picture }

far_apart : (k a b : ℕ) → (a + 8 * k) - (b + 8 * k) ≡ a - b
far_apart k a b = omega arith

same_arrival : (k : ℕ) (p : CodedPicture) (rate : ℕ) (before : Option Arrival)
    → arrival_rule rate (option_map (arrival_on k) before) (coded_on k p) ≡ arrival_rule rate before p
unfolding arrival_rule
same_arrival k p rate None = refl
same_arrival k p rate (Some d) =
    let need = rate * time_between d p in
    ap (λ (bits : ℕ). looked_at (not (nat_eq d.delay 65535) && not (nat_eq p.note.info.vbv_delay 65535))
    (judge (nat_lt (1800 * bits) need) (remark 29 elements.ArrivalRate (1800 * bits) need)))
    (far_apart k p.note.code_end d.code_end)

picture_remarks_come : {n k : ℕ} {r s : Report} (before : Preceding) (constant : Bool) (p : CodedPicture)
    → bit_of (note_on k p.note) ≡ bit_of p.note + 8 * k → Together n k r s
    → Together n k (with_picture_remarks r before constant p) (with_picture_remarks s (preceding_on k before) constant (coded_on k p))
picture_remarks_come {n} {k} before constant p e h =
    let bit = bit_of p.note in
    let to = bit_of (note_on k p.note) in
    remarks_at p.number bit to (picture_warnings p) (picture_warnings (coded_on k p)) e (same_warnings k constant p)
    (remarks_at p.number bit to (frame_remarks constant p) (frame_remarks constant (coded_on k p)) e (same_frames k constant p)
    (remarks_at p.number bit to (field_rule constant p) (field_rule constant (coded_on k p)) e (same_fields k constant p)
    (remarks_at p.number bit to (full_pel_rule p.note.info) (full_pel_rule p.note.info) e refl
    (remarks_at p.number bit to (f_code_rule p) (f_code_rule (coded_on k p)) e (same_codes k constant p)
    (remarks_at p.number bit to (arrival_rule before.rate before.picture p) _ e (same_arrival k p before.rate before.picture)
    (remarks_at p.number bit to (delay_remarks constant p) (delay_remarks constant (coded_on k p)) e (same_delays k constant p)
    (remarks_at p.number bit to (first_type_rule before.headed p) (first_type_rule before.headed (coded_on k p)) e (same_type k constant p before.headed) h)))))))

-- what a set of rules remarks of it, behind the same pictures
set_same : (k : ℕ) (rules : RuleSet) (before : Runs) (p : CodedPicture) (fields : ℕ)
    → set_picture_remarks rules before (coded_on k p) fields ≡ set_picture_remarks rules before p fields
unfolding set_picture_remarks fields_rule b_frames_with b_frames_warning first_group_warning
set_same k sets.Main before p fields = refl
set_same k sets.Dvd before p fields = refl
set_same k sets.Dvb before p fields = refl
set_same k sets.Atsc before p fields = refl

pub all_remarks_come : {n k : ℕ} {r s : Report} (rules : RuleSet) (before : Preceding) (constant : Bool) (runs : Runs) (p : CodedPicture)
    → bit_of (note_on k p.note) ≡ bit_of p.note + 8 * k → Together n k r s
    → Together n k (with_all_remarks r rules before constant runs p) (with_all_remarks s rules (preceding_on k before) constant runs (coded_on k p))
all_remarks_come {n} {k} rules before constant runs p e h =
    let fields = fields_of p.sequence p.note in
    let ms = set_picture_remarks rules runs p fields in
    let same = set_picture_remarks rules runs (coded_on k p) fields in
    remarks_at p.number (bit_of p.note) (bit_of (note_on k p.note)) ms same e (set_same k rules runs p fields)
    (picture_remarks_come before constant p e h)

-- what the pictures come to, with this one
pub same_runs : (k : ℕ) (before : Runs) (p : CodedPicture) (fields : ℕ) → runs_with before (coded_on k p) fields ≡ runs_with before p fields
unfolding b_frames_with
same_runs k before p fields = refl
