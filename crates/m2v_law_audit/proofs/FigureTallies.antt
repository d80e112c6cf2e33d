-- What a report keeps of the removals that it tells: the least that is left and the most that is held, and how many delays are
-- off. Nothing else that is told changes it.
use Rattle.std.proofs.Common.{◌≡◌, ℕ, ◌*◌, zero, suc, ◌+◌, max, Bool, true, false, List, [], ◌∷◌, ◌++◌, length, Option, Some, None, Ok, Err, refl, sym, ap, ◌∙◌}
use Rattle.std.specs.Prelude.{nat_eq, slice_get, if◌then◌else◌}
use Rattle.m2v_model.specs.m2v_macroblock.m2v_head.declared.sequence.SequenceInfo.{SequenceInfo}
use Rattle.m2v_model.specs.m2v_macroblock.m2v_head.declared.sequence.SequenceExtension.{SequenceExtension}
use Rattle.m2v_model.specs.m2v_macroblock.m2v_head.declared.group.GroupInfo.{GroupInfo}
use Rattle.m2v_model.specs.declared.state.Sequence.{Sequence}
use Rattle.m2v_model.specs.declared.notes.PictureNote.{PictureNote}
use Rattle.m2v_model.specs.Lawful.{Breaches, sequence_breaches, horizontal_rule, vertical_rule, intra_rule, crowd_rule, repeat_rule, progressive_rule, precision_rule}
use Rattle.m2v_model.specs.States.{first_or, is_b}
use Rattle.m2v_model.specs.Pieces.{pieces, zeros_last}
use Rattle.m2v_model.specs.PieceNotes.{PieceNotes, notes_of}
use Rattle.m2v_model.specs.ByPieces.{Between, Course, at_start, piece_read}
use Rattle.m2v_audit.specs.m2v_check.declared.coded.CodedPicture.{CodedPicture}
use Rattle.m2v_audit.specs.m2v_check.Breaking.{numbered_of}
use Rattle.m2v_audit.specs.m2v_check.Running.{ends_frame}
use Rattle.m2v_audit.specs.m2v_strict.declared.rule_set.RuleSet.{RuleSet}
use Rattle.m2v_audit.specs.m2v_strict.declared.leading.Leading.{Leading}
use Rattle.m2v_audit.specs.m2v_strict.declared.preceding.Preceding.{Preceding}
use Rattle.m2v_audit.specs.m2v_strict.declared.runs.Runs.{Runs}
use Rattle.m2v_audit.specs.m2v_strict.Remarks.{Remarks, is_warning}
use Rattle.m2v_audit.specs.m2v_strict.SequenceRules.{level_remarks, header_rule, extension_rule, sequence_warnings}
use Rattle.m2v_audit.specs.m2v_strict.GroupRules.{group_remarks, broken_link_warning}
use Rattle.m2v_audit.specs.m2v_strict.PictureRules.{delay_remarks, f_code_rule, full_pel_rule, field_rule, frame_remarks, picture_warnings}
use Rattle.m2v_audit.specs.m2v_strict.TimeRules.{time_warnings}
use Rattle.m2v_audit.specs.m2v_strict.ParityRules.{has_parity, parity_warning, shown_with}
use Rattle.m2v_audit.specs.m2v_strict.ArrivalRules.{arrival_rule}
use Rattle.m2v_audit.specs.m2v_strict.OrderRules.{sequence_order_rule, group_order_rule, first_type_rule, end_remarks}
use Rattle.m2v_audit.specs.m2v_strict.SetRules.{set_remarks, set_group_remarks, set_picture_remarks}
use Rattle.m2v_audit.specs.declared.auditing.Auditing.{Auditing}
use Rattle.m2v_audit.specs.declared.auditing.PieceEnd.{PieceEnd}
use Rattle.m2v_audit.specs.declared.remarks.Behind.{Behind}
use Rattle.m2v_audit.specs.m2v_strict.declared.parity.ShownFrame.{ShownFrame}
use Rattle.m2v_audit.specs.declared.headers.PieceHeader.{PieceHeader}
use Rattle.m2v_audit.specs.declared.headers.PieceHeader.TheVariants as headers
use Rattle.m2v_audit.specs.declared.others.Other.{Other}
use Rattle.m2v_audit.specs.declared.places.Misplaced.{Misplaced}
use Rattle.m2v_audit.specs.declared.report.Broken.{Broken}
use Rattle.m2v_audit.specs.declared.report.Rate.{Rate}
use Rattle.m2v_audit.specs.declared.report.SequenceTotals.{SequenceTotals}
use Rattle.m2v_audit.specs.Account.{Account, Told, settled}
use Rattle.m2v_audit.specs.Auditing.{nothing, sequence_of, leading, behind, frame_at, with_shown, with_parity, with_waiting, with_ending, with_end_remarks, longer, begun, begun_by, with_sequence_remarks, with_group_by, with_header, sequences_of, with_headers, coded, preceding, counted, with_rules, with_picture_remarks, with_all_remarks, with_told, with_place, with_coded, with_note, settled_by, with_others, fronted, pictured, after_piece, cleared, totals_of, with_left, finished, ended}
use Rattle.m2v_audit.specs.HeaderRecords.{group_record, bit_of, picture_record}
use Rattle.m2v_audit.specs.Findings.{broken_at, remarked_at, misplaced_at, with_breaches, with_remarks, with_misplaced, with_removals}
use Rattle.m2v_audit.specs.Front.{front_of}
use Rattle.m2v_audit.specs.Others.{others_of, display_of, own_bit, own_remarks, with_own_remarks, headed_remarks}
use Rattle.m2v_audit.specs.Places.{told_at_close}
use Rattle.m2v_audit.specs.Report.{Report, one_more, before_of, after_of, least, is_off, with_breach, with_warning, with_finding, with_held, with_under, with_over, is_far, with_far, with_removal, with_group_line, with_picture_line, count_of, with_counts, with_end}
use Rattle.m2v_audit.specs.Times.{fields_of}
use Rattle.m2v_audit.specs.declared.asked.Asked.{Asked}
use Rattle.m2v_law_audit.specs.Found.{piece_removals, settled_in, left_in, along, all_along, all_removals}
use Rattle.m2v_law_audit.specs.Sequences.{SequenceReport, at_end, by_piece, reported, first_byte, sequence_report}
use Rattle.m2v_law_audit.proofs.PartsKept.{beginning_of, stays_after, IsBare, bare_behind, none_removed, none_left}
use Rattle.m2v_law_audit.proofs.ReportParts.{end_by}

-- ---- what is kept

-- the least that a removal left, the most that was held, and how many delays are off
abbrev pub Levels : Type 0
Levels = Option ℕ × ℕ × ℕ

abbrev pub levels_in : Report → Levels
levels_in r = (r.tally.low, r.tally.high, r.tally.delays)

abbrev pub with_one : Bool → Levels → Told → Levels
with_one constant x t = (
  Some (least x.0 (after_of t.1)),
  max x.1 (before_of t.1),
  if is_off constant t.0 t.1 then one_more x.2 else x.2,
)

-- behind removals, in turn
abbrev pub with_all : Bool → Levels → List Told → Levels
with_all constant x [] = x
with_all constant x (t ∷ ts) = with_all constant (with_one constant x t) ts

all_on : (constant : Bool) (x : Levels) (ts us : List Told) → with_all constant x (ts ++ us) ≡ with_all constant (with_all constant x ts) us
all_on constant x [] us = refl
all_on constant x (t ∷ ts) us = all_on constant (with_one constant x t) ts us

-- ---- calls of a report

either : (b : Bool) (r s : Report) (x : Levels) → levels_in r ≡ x → levels_in s ≡ x → levels_in (if b then r else s) ≡ x
either true r s x e f = e
either false r s x e f = f

breaches_keep : (r : Report) (picture bit : ℕ) (bs : Breaches) → levels_in (with_breaches r picture bit bs) ≡ levels_in r
unfolding with_breaches
breaches_keep r picture bit [] = refl
breaches_keep r picture bit (b ∷ bs) = breaches_keep (with_breach r (broken_at picture bit b)) picture bit bs

finding_keeps : (r : Report) (b : Broken) → levels_in (with_finding r b) ≡ levels_in r
finding_keeps r b = either (is_warning b.rule) (with_warning r b) (with_breach r b) (levels_in r) refl refl

remarks_keep : (r : Report) (picture bit : ℕ) (ms : Remarks) → levels_in (with_remarks r picture bit ms) ≡ levels_in r
unfolding with_remarks
remarks_keep r picture bit [] = refl
remarks_keep r picture bit (m ∷ ms) =
    let b : Broken = remarked_at picture bit m in
    remarks_keep (with_finding r b) picture bit ms ∙ finding_keeps r b

-- what is remarked of a sequence header, of a group header and of a picture
sequence_remarks_keep : (r : Report) (rules : RuleSet) (like : Option Sequence) (before : Leading) (picture bit : ℕ) (first s : Sequence)
    → levels_in (with_sequence_remarks r rules like before picture bit first s) ≡ levels_in r
sequence_remarks_keep r rules like before picture bit first s =
    let level : Report = with_remarks r picture bit (level_remarks s) in
    let header : Report = with_remarks level picture bit (header_rule first s) in
    let extension : Report = with_remarks header picture bit (extension_rule first s) in
    let order : Report = with_remarks extension picture bit (sequence_order_rule before) in
    let warnings : Report = with_remarks order picture bit (sequence_warnings rules s) in
    remarks_keep warnings picture bit (set_remarks rules like s)
    ∙ remarks_keep order picture bit (sequence_warnings rules s)
    ∙ remarks_keep extension picture bit (sequence_order_rule before)
    ∙ remarks_keep header picture bit (extension_rule first s)
    ∙ remarks_keep level picture bit (header_rule first s)
    ∙ remarks_keep r picture bit (level_remarks s)

group_remarks_keep : (r : Report) (rules : RuleSet) (before : Behind) (picture bit : ℕ) (s : Option Sequence) (g : GroupInfo)
    → levels_in (with_group_by r rules before picture bit s g) ≡ levels_in r
group_remarks_keep r rules before picture bit None g = refl
group_remarks_keep r rules before picture bit (Some s) g =
    let code = s.info.frame_rate_code in
    let order : Report = with_remarks r picture bit (group_order_rule before.headers) in
    let numbers : Report = with_remarks order picture bit (group_remarks code g) in
    let times : Report = with_remarks numbers picture bit (time_warnings code before.group before.fields g) in
    let links : Report = with_remarks times picture bit (broken_link_warning g) in
    remarks_keep links picture bit (set_group_remarks rules before.headers.sequence)
    ∙ remarks_keep times picture bit (broken_link_warning g)
    ∙ remarks_keep numbers picture bit (time_warnings code before.group before.fields g)
    ∙ remarks_keep order picture bit (group_remarks code g)
    ∙ remarks_keep r picture bit (group_order_rule before.headers)

-- of what else stands before the first slice of a picture
others_keep : (r : Report) (picture : ℕ) (os : List Other) → levels_in (with_own_remarks r picture os) ≡ levels_in r
unfolding with_own_remarks
others_keep r picture [] = refl
others_keep r picture (o ∷ os) =
    others_keep (with_remarks r picture (own_bit o) (own_remarks o)) picture os ∙ remarks_keep r picture (own_bit o) (own_remarks o)

-- of the frame that is shown, where one is
shown_keeps : (r : Report) (last : Option Bool) (f : Option ShownFrame) → levels_in (with_shown r last f) ≡ levels_in r
shown_keeps r last None = refl
shown_keeps r last (Some f) = remarks_keep r f.picture f.bit (parity_warning last f)

-- of the end of a sequence
last_remarks_keep : (r : Report) (before : Leading) (picture : ℕ) (end : Option PieceEnd)
    → levels_in (with_end_remarks r before picture end) ≡ levels_in r
last_remarks_keep r before picture None = refl
last_remarks_keep r before picture (Some e) = remarks_keep r picture e.bit (end_remarks before e.closed)

picture_remarks_keep : (r : Report) (before : Preceding) (constant : Bool) (p : CodedPicture) → levels_in (with_picture_remarks r before constant p) ≡ levels_in r
picture_remarks_keep r before constant p =
    let bit = bit_of p.note in
    let type : Report = with_remarks r p.number bit (first_type_rule before.headed p) in
    let delays : Report = with_remarks type p.number bit (delay_remarks constant p) in
    let arrivals : Report = with_remarks delays p.number bit (arrival_rule before.rate before.picture p) in
    let codes : Report = with_remarks arrivals p.number bit (f_code_rule p) in
    let vectors : Report = with_remarks codes p.number bit (full_pel_rule p.note.info) in
    let fields : Report = with_remarks vectors p.number bit (field_rule constant p) in
    let frames : Report = with_remarks fields p.number bit (frame_remarks constant p) in
    remarks_keep frames p.number bit (picture_warnings p)
    ∙ remarks_keep fields p.number bit (frame_remarks constant p)
    ∙ remarks_keep vectors p.number bit (field_rule constant p)
    ∙ remarks_keep codes p.number bit (full_pel_rule p.note.info)
    ∙ remarks_keep arrivals p.number bit (f_code_rule p)
    ∙ remarks_keep delays p.number bit (arrival_rule before.rate before.picture p)
    ∙ remarks_keep type p.number bit (delay_remarks constant p)
    ∙ remarks_keep r p.number bit (first_type_rule before.headed p)

all_remarks_keep : (r : Report) (rules : RuleSet) (before : Preceding) (constant : Bool) (runs : Runs) (p : CodedPicture)
    → levels_in (with_all_remarks r rules before constant runs p) ≡ levels_in r
all_remarks_keep r rules before constant runs p =
    let stricter : Report = with_picture_remarks r before constant p in
    remarks_keep stricter p.number (bit_of p.note) (set_picture_remarks rules runs p (fields_of p.sequence p.note))
    ∙ picture_remarks_keep r before constant p

misplaced_keep : (r : Report) (ms : List (Option Misplaced)) → levels_in (with_misplaced r ms) ≡ levels_in r
unfolding with_misplaced
misplaced_keep r [] = refl
misplaced_keep r (None ∷ ms) = misplaced_keep r ms
misplaced_keep r (Some m ∷ ms) = misplaced_keep (with_breach r (misplaced_at m)) ms

rules_keep : (r : Report) (constant : Bool) (p : CodedPicture) → levels_in (with_rules r constant p) ≡ levels_in r
rules_keep r constant p =
    let c = numbered_of p in
    let xs : Breaches = horizontal_rule c ++ vertical_rule c ++ intra_rule c in
    let ys : Breaches = crowd_rule c ++ repeat_rule constant c ++ progressive_rule c ++ precision_rule c in
    breaches_keep (with_breaches r p.number (bit_of p.note) xs) p.number (bit_of p.note) ys ∙ breaches_keep r p.number (bit_of p.note) xs

removal_kept : (r : Report) (rate : Rate) (t : Told) → levels_in (with_removal r rate t.0 t.1) ≡ with_one rate.constant (levels_in r) t
removal_kept r rate t =
    let held : Report = with_held r rate t.0 t.1 in
    let under : Report = with_under held rate t.0 t.1 in
    let first : levels_in held ≡ levels_in r = either r.pictures _ r (levels_in r) refl refl in
    let next : levels_in under ≡ levels_in held = either t.1.is_under _ held (levels_in held) refl refl in
    let over : Report = with_over under rate t.0 t.1 in
    let last : levels_in over ≡ levels_in under = either t.1.is_over _ under (levels_in under) refl refl in
    let far : levels_in (with_far over rate t.0 t.1) ≡ levels_in over = either (is_far rate.constant t.0 t.1) _ over (levels_in over) refl refl in
    ap (λ (x : Levels). with_one rate.constant x t) (far ∙ last ∙ next ∙ first)

removals_kept : (r : Report) (rate : Rate) (ts : List Told) → levels_in (with_removals r rate ts) ≡ with_all rate.constant (levels_in r) ts
unfolding with_removals
removals_kept r rate [] = refl
removals_kept r rate (t ∷ ts) = removals_kept (with_removal r rate t.0 t.1) rate ts ∙ ap (λ (x : Levels). with_all rate.constant x ts) (removal_kept r rate t)

left_kept : (r : Report) (rate : Rate) (x : Option Account) → levels_in (with_left r rate x) ≡ with_all rate.constant (levels_in r) (left_in x)
left_kept r rate None = refl
left_kept r rate (Some x) = removals_kept r rate _

counts_keep : (n : ℕ) (r : Report) → levels_in (with_counts n r) ≡ levels_in r
unfolding with_counts
counts_keep zero r = refl
counts_keep (suc n) r =
    either (nat_eq (count_of (with_counts n r).tally (suc n)).how_often 0) (with_counts n r) _ (levels_in r) (counts_keep n r) (counts_keep n r)

end_keeps : (r : Report) (totals : SequenceTotals) → levels_in (with_end r totals) ≡ levels_in r
end_keeps r totals = counts_keep 95 r

-- ---- a piece

begun_keeps : (first : Option Sequence) (a : Auditing) (place : ℕ) (notes : PieceNotes) → levels_in (begun first a place notes).report ≡ levels_in a.report
begun_keeps (Some s) a place notes = refl
begun_keeps None a place notes = by (slice_get notes.sequences 0)
  where
    by : (s : Option (SequenceInfo × SequenceExtension)) → levels_in (begun_by a place s notes.picture).report ≡ levels_in a.report
    by None = refl
    by (Some s) = refl

header_keeps : (a : Auditing) (h : PieceHeader) (s : Option (SequenceInfo × SequenceExtension)) → levels_in (with_header a h s).report ≡ levels_in a.report
unfolding with_header
header_keeps a (headers.Sequence bit) None = refl
header_keeps a (headers.Sequence bit) (Some s) =
    let bs : Breaches = sequence_breaches (sequence_of s ∷ []) in
    let r : Report = with_breaches a.report a.pictures bit bs in
    sequence_remarks_keep r a.rules a.like (leading a) a.pictures bit (first_or a.first (sequence_of s)) (sequence_of s)
    ∙ breaches_keep a.report a.pictures bit bs
header_keeps a (headers.Group bit g) s =
    let r : Report = with_misplaced a.report (told_at_close a.places) in
    let line : Report = with_group_line r (group_record a.report.sequence a.groups bit a.pictures g) in
    group_remarks_keep line a.rules (behind a) a.pictures bit a.sequence g
    ∙ either r.pictures _ r (levels_in r) refl refl ∙ misplaced_keep a.report (told_at_close a.places)

headers_keep : (a : Auditing) (ss : List (SequenceInfo × SequenceExtension)) (k : ℕ) (hs : List PieceHeader) → levels_in (with_headers a ss k hs).report ≡ levels_in a.report
unfolding with_headers
headers_keep a ss k [] = refl
headers_keep a ss k (h ∷ hs) = headers_keep (with_header a h (slice_get ss k)) ss (k + sequences_of h) hs ∙ header_keeps a h (slice_get ss k)

either_place : (b : Bool) (a c : Auditing) (x : Levels) → levels_in a.report ≡ x → levels_in c.report ≡ x → levels_in (if b then a else c).report ≡ x
either_place true a c x e f = e
either_place false a c x e f = f

coded_keeps : (a : Auditing) (p : CodedPicture) (place bytes zeros : ℕ) → levels_in (with_coded a p place bytes zeros).report ≡ levels_in a.report
coded_keeps a p place bytes zeros =
    let c : Auditing = counted a p in
    let line : Report = with_picture_line a.report (picture_record a.report.sequence p bytes zeros) in
    let told : Auditing = with_told c p bytes zeros in
    let placed : levels_in (with_place told p).report ≡ levels_in told.report = either_place (ends_frame p.note) _ _ (levels_in told.report) (misplaced_keep told.report _) refl in
    let fields : levels_in (with_parity (with_place told p) p).report ≡ levels_in (with_place told p).report =
    either (has_parity p) _ (with_place told p).report (levels_in (with_place told p).report)
    (shown_keeps (with_place told p).report (with_place told p).parity.last (shown_with (with_place told p).parity (frame_at p) (is_b p.note.info.kind))) refl in
    fields ∙ placed ∙ all_remarks_keep (with_rules line c.constant p) c.rules (preceding c p.sequence) c.constant c.runs p ∙ rules_keep line c.constant p
    ∙ either a.report.pictures _ a.report (levels_in a.report) refl refl

note_keeps : (a : Auditing) (s : Option Sequence) (n : Option PictureNote) (place bytes ending : ℕ) → levels_in (with_note a s n place bytes ending).report ≡ levels_in a.report
note_keeps a s None place bytes ending = refl
note_keeps a None (Some n) place bytes ending = refl
note_keeps a (Some s) (Some n) place bytes ending = coded_keeps a (coded a s n) place bytes ending

settled_kept : (a : Auditing) (x : Option Account) → levels_in (settled_by a x).report ≡ with_all (settled_by a x).rate.constant (levels_in a.report) (settled_in x)
settled_kept a None = refl
settled_kept a (Some x) = removals_kept a.report a.rate (settled x)

piece_kept : (a : Auditing) (place : ℕ) (piece : List ℕ) (notes : PieceNotes)
    → levels_in (after_piece a place piece notes).report ≡ with_all (after_piece a place piece notes).rate.constant (levels_in a.report) (piece_removals a place piece notes)
unfolding after_piece
piece_kept a place piece notes =
    let b : Auditing = longer (length piece) a in
    let c : Auditing = begun b.first b place notes in
    let d : Auditing = fronted b place piece notes in
    let os : List Other = others_of place piece in
    let headed : Auditing = with_headers c notes.sequences 0 (front_of place piece) in
    let e : Auditing = pictured d place (length piece) (zeros_last piece) notes.picture in
    let last : Auditing = with_others d.pictures os e in
    let before : levels_in last.report ≡ levels_in a.report =
    others_keep e.report d.pictures os
    ∙ note_keeps d d.sequence notes.picture place (length piece) (zeros_last piece)
    ∙ remarks_keep headed.report headed.pictures (8 * place) (headed_remarks headed.headed headed.display (display_of os))
    ∙ headers_keep c notes.sequences 0 (front_of place piece) ∙ begun_keeps b.first b place notes in
    let f : Auditing = with_ending place piece last in
    settled_kept f f.account ∙ ap (λ (x : Levels). with_all (settled_by f f.account).rate.constant x (settled_in f.account)) before

-- ---- the end

finished_kept : (a : Auditing) → levels_in (finished a).report ≡ with_all a.rate.constant (levels_in a.report) (left_in a.account)
finished_kept a =
    let waits : Report = with_waiting a in
    let placed : Report = with_misplaced a.report (told_at_close a.places) in
    end_keeps (with_end_remarks (with_left waits a.rate a.account) (leading a) a.pictures a.last) (totals_of a)
    ∙ last_remarks_keep (with_left waits a.rate a.account) (leading a) a.pictures a.last
    ∙ left_kept waits a.rate a.account
    ∙ ap (λ (x : Levels). with_all a.rate.constant x (left_in a.account))
    (shown_keeps placed a.parity.last a.parity.anchor ∙ misplaced_keep a.report (told_at_close a.places))

-- ---- pieces

-- from here on these removals are told, at the rate that stands at the end; and a sequence that began stays
record Sums (a : Auditing) (r : SequenceReport) (ts : List Told) : Type 0 where
  levels : levels_in r.kept.report ≡ with_all r.kept.rate.constant (levels_in a.report) ts
  stays : (s : Sequence) → a.first ≡ Some s → beginning_of r.kept ≡ beginning_of a

ends_by : (a : Auditing) (first : Option Sequence) → a.first ≡ first → (a.first ≡ None → IsBare a) → Sums a (end_by a first) (left_in a.account)
ends_by a None e bare =
    record {
      levels = ap (with_all a.rate.constant (levels_in a.report)) (sym (none_left a (bare e)));
      stays = λ s f. refl;
    }
ends_by a (Some s) e bare = record { levels = finished_kept a; stays = λ t f. refl }

ends : (a : Auditing) → (a.first ≡ None → IsBare a) → Sums a (at_end a) (left_in a.account)
unfolding ended
ends a bare = ends_by a a.first refl bare

-- where no sequence began, no removal is told; else the rate stays
same_levels : (x : Levels) (first : Option Sequence) (rate last : Rate) (ts : List Told) → (first ≡ None → ts ≡ []) → ((s : Sequence) → first ≡ Some s → last ≡ rate) → with_all rate.constant x ts ≡ with_all last.constant x ts
same_levels x None rate last ts none same = ap (with_all rate.constant x) (none refl) ∙ sym (ap (with_all last.constant x) (none refl))
same_levels x (Some s) rate last ts none same = sym (ap (λ (r : Rate). with_all r.constant x ts) (same s refl))

sums_on : (a : Auditing) (place : ℕ) (piece : List ℕ) (notes : PieceNotes) (lines : List ℕ) (r : SequenceReport) (ts : List Told) → (a.first ≡ None → IsBare a) → Sums (cleared (after_piece a place piece notes)) r ts
    → Sums a (record { lines = lines; kept = r.kept }) (piece_removals a place piece notes ++ ts)
sums_on a place piece notes lines r ts bare rest =
    let b : Auditing = after_piece a place piece notes in
    let gone = piece_removals a place piece notes in
    let x : Levels = levels_in a.report in
    let constant = r.kept.rate.constant in
    let here : levels_in b.report ≡ with_all constant x gone =
    piece_kept a place piece notes ∙ same_levels x b.first b.rate r.kept.rate gone (none_removed a place piece notes bare) (λ s e. ap (λ (y : Option Sequence × Rate). y.1) (rest.stays s e)) in
    record {
      levels = rest.levels ∙ ap (λ (y : Levels). with_all constant y ts) here ∙ sym (all_on constant x gone ts);
      stays = λ s e.
          let stays = stays_after a place piece notes s e in
          rest.stays s (ap (λ (y : Option Sequence × Rate). y.0) stays ∙ e) ∙ stays;
    }

-- what holds from a byte on, whatever was read and told before
abbrev Onward : ℕ → List (List ℕ) → Type 0
Onward at ps = (a : Auditing) (b : Between) → (a.first ≡ None → IsBare a) → Sums a (reported a b at ps) (all_removals a b at ps)

one_on : (a : Auditing) (at : ℕ) (p : List ℕ) (ps : List (List ℕ)) (read : Course) → (a.first ≡ None → IsBare a) → Onward (at + length p) ps
    → Sums a (by_piece a at p read (λ a' b'. reported a' b' (at + length p) ps)) (along piece_removals (λ x. left_in x.account) a at p read (λ a' b'. all_removals a' b' (at + length p) ps))
one_on a at p ps (Ok read) bare rest =
    let to = at + length p in
    let notes = notes_of at p read.0 in
    let next : Auditing = cleared (after_piece a at p notes) in
    sums_on a at p notes _ (reported next read.1 to ps) (all_removals next read.1 to ps) bare (rest next read.1 (bare_behind a at p notes bare))
one_on a at p ps (Err f) bare rest = ends a bare

onward : (at : ℕ) (ps : List (List ℕ)) → Onward at ps
unfolding reported all_along
onward at [] a b bare = ends a bare
onward at (p ∷ ps) a b bare = one_on a at p ps (piece_read b (at + length p) p) bare (onward (at + length p) ps)

-- what is kept of all removals of a sequence
pub levels_told : (asked : Asked) (number start : ℕ) (text : List ℕ) →
    let r = sequence_report asked number start text in
    levels_in r.kept.report ≡ with_all r.kept.rate.constant (None, 0, 0) (all_removals (nothing number asked start) at_start (first_byte start text) (pieces text))
levels_told asked number start text =
    (onward (first_byte start text) (pieces text) (nothing number asked start) at_start (λ none. record { sequence = refl; anchor = refl; begun = refl; account = refl })).levels
