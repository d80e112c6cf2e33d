-- The report of a sequence as it grows: each call appends its lines, and counts what they tell.
use Rattle.std.specs.Prelude.{ℕ, zero, suc, ◌+◌, ◌-◌, ◌/◌, ◌^◌, min, max, Bool, ◌&&◌, not, nat_eq, nat_le, nat_lt, if◌then◌else◌, List, ◌++◌, replicate, slice_index_or, slice_set, Option, Some, None}
use Rattle.std.specs.Option.{unwrap_or}
use Rattle.m2v_vbv.specs.declared.removed.Removed.{Removed}
use Rattle.m2v_strict.specs.declared.element.Element.TheVariants as elements
use Rattle.m2v_strict.specs.Remarks.{is_warning}
use Rattle.m2v_audit.specs.declared.account.Due.{Due}
use Rattle.m2v_audit.specs.declared.words.FailureKind.TheVariants as failures
use Rattle.m2v_audit.specs.declared.records.SequenceRecord.{SequenceRecord}
use Rattle.m2v_audit.specs.declared.records.GroupRecord.{GroupRecord}
use Rattle.m2v_audit.specs.declared.records.PictureRecord.{PictureRecord}
use Rattle.m2v_audit.specs.declared.records.HeldRecord.{HeldRecord}
use Rattle.m2v_audit.specs.declared.records.Finding.{Finding}
use Rattle.m2v_audit.specs.declared.records.FailureRecord.{FailureRecord}
use Rattle.m2v_audit.specs.declared.records.EndRecord.{EndRecord}
use Rattle.m2v_audit.specs.declared.tally.RuleCount.{RuleCount}
use Rattle.m2v_audit.specs.declared.tally.Tally.{Tally}
use Rattle.m2v_audit.specs.declared.report.Broken.{Broken}
use Rattle.m2v_audit.specs.declared.report.Rate.{Rate}
use Rattle.m2v_audit.specs.declared.report.SequenceTotals.{SequenceTotals}
use Rattle.m2v_audit.specs.Lines.{skipped_text, sequence_line, group_line, picture_line, held_line, breach_line, warning_line, failure_line, count_line, end_line}

-- ---- what is counted

-- once more; no input has as many of anything as 64 bits can't count
abbrev pub one_more : ℕ → ℕ
one_more n = min (n + 1) (2 ^ 64 - 1)

-- a rule that wasn't broken
abbrev pub never : RuleCount
never = record { how_often = 0; picture = 0 }

-- a rule is broken once more, at this picture
abbrev pub once_more : RuleCount → ℕ → RuleCount
once_more c picture = record {
  how_often = one_more c.how_often;
  picture = if nat_eq c.how_often 0 then picture else c.picture;
}

abbrev pub no_tally : Tally
no_tally = record {
  counts = replicate 96 never;
  breaches = 0;
  failures = 0;
  warnings = 0;
  low = None;
  high = 0;
  delays = 0;
  time = 0;
}

abbrev pub count_of : Tally → ℕ → RuleCount
count_of t rule = slice_index_or t.counts rule never

-- a rule is told once more, at a picture; there is none from 96 on
abbrev pub counts_with : Tally → ℕ → ℕ → List RuleCount
counts_with t rule picture =
    if nat_lt rule 96 then slice_set t.counts rule (once_more (count_of t rule) picture) else t.counts

-- a rule is broken at a picture
abbrev pub with_rule : Tally → ℕ → ℕ → Tally
with_rule t rule picture = record t {
  counts = counts_with t rule picture;
  breaches = one_more t.breaches;
}

-- a warning comes at a picture
abbrev pub with_warned : Tally → ℕ → ℕ → Tally
with_warned t rule picture = record t {
  counts = counts_with t rule picture;
  warnings = one_more t.warnings;
}

-- the buffer fails once more
abbrev pub with_failing : Tally → Tally
with_failing t = record t { failures = one_more t.failures }

-- amounts are told in bits, rounded down: what is held when a picture is due, and what of it isn't the picture's (nothing
-- where the decoder waits for the picture)
abbrev pub before_of : Removed → ℕ
before_of t = t.have / 1800

abbrev pub after_of : Removed → ℕ
after_of t = (t.have - t.need) / 1800

abbrev pub least : Option ℕ → ℕ → ℕ
least None n = n
least (Some low) n = min low n

-- a delay other than that which the removal implies; the first one says when the account begins, and at variable rate none
-- is implied
abbrev pub is_off : Bool → Due → Removed → Bool
is_off constant d t = constant && not (nat_eq d.number 0) && not (nat_eq d.delay t.delay)

-- a picture is removed
abbrev pub with_due : Tally → Bool → Due → Removed → Tally
with_due tally constant d t = record tally {
  low = Some (least tally.low (after_of t));
  high = max tally.high (before_of t);
  delays = if is_off constant d t then one_more tally.delays else tally.delays;
  time = t.time;
}

-- ---- the report

-- its lines so far, what is counted of the sequence, the sequence's number, and whether each picture is told
pub record Report : Type 0 where
  pub text : List ℕ
  pub tally : Tally
  pub sequence : ℕ
  pub pictures : Bool

-- lines are appended
abbrev pub with_text : Report → List ℕ → Report
with_text r lines = record r { text = r.text ++ lines }

-- ---- a breach

abbrev pub finding_of : ℕ → Broken → Finding
finding_of sequence b = record {
  sequence = sequence;
  picture = b.picture;
  bit = b.bit;
  rule = b.rule;
  element = b.element;
  have = b.have;
  need = b.need;
}

abbrev pub with_breach : Report → Broken → Report
with_breach r b = record r {
  text = r.text ++ breach_line (finding_of r.sequence b);
  tally = with_rule r.tally b.rule b.picture;
}

-- ---- a warning

abbrev pub with_warning : Report → Broken → Report
with_warning r b = record r {
  text = r.text ++ warning_line (finding_of r.sequence b);
  tally = with_warned r.tally b.rule b.picture;
}

abbrev pub with_finding : Report → Broken → Report
with_finding r b = if is_warning b.rule then with_warning r b else with_breach r b

-- ---- a removal

-- at variable rate no delay is implied
abbrev pub held_of : ℕ → Rate → Due → Removed → HeldRecord
held_of sequence rate d t = record {
  sequence = sequence;
  picture = d.number;
  time = t.time;
  before = before_of t;
  taken = d.bits;
  after = after_of t;
  delay = if rate.constant then t.delay else 65535;
  wait = t.wait;
}

-- the picture isn't whole when it is due
abbrev pub under_of : ℕ → Rate → Due → Removed → FailureRecord
under_of sequence rate d t = record {
  sequence = sequence;
  picture = d.number;
  bit = d.bit;
  kind = if rate.low_delay then failures.Big else failures.Under;
  time = t.time;
  have = t.have;
  need = t.need;
  wait = t.wait;
}

-- more is held than the buffer takes
abbrev pub over_of : ℕ → Rate → Due → Removed → FailureRecord
over_of sequence rate d t = record (under_of sequence rate d t) { kind = failures.Over; need = rate.size; wait = 0 }

abbrev pub with_failure : Report → FailureRecord → Report
with_failure r f = record r { text = r.text ++ failure_line f; tally = with_failing r.tally }

-- in turn: what is held, where each picture is told; what fails; the warning; and what is counted of it
abbrev pub with_held : Report → Rate → Due → Removed → Report
with_held r rate d t =
    if r.pictures then with_text r (held_line (held_of r.sequence rate d t)) else r

abbrev pub with_under : Report → Rate → Due → Removed → Report
with_under r rate d t = if t.is_under then with_failure r (under_of r.sequence rate d t) else r

abbrev pub with_over : Report → Rate → Due → Removed → Report
with_over r rate d t = if t.is_over then with_failure r (over_of r.sequence rate d t) else r

-- 54, a warning: at constant rate a delay that is more than a tick from that which the removal implies (C.3.1); the first one
-- says when the account begins
abbrev pub is_near : ℕ → ℕ → Bool
is_near a b = nat_le a (b + 1) && nat_le b (a + 1)

abbrev pub is_far : Bool → Due → Removed → Bool
is_far constant d t = constant && not (nat_eq d.number 0) && (not (nat_eq d.delay 65535) && not (is_near d.delay t.delay))

abbrev pub far_at : Due → Removed → Broken
far_at d t = record {
  picture = d.number;
  bit = d.bit;
  rule = 54;
  element = Some elements.VbvDelay;
  have = d.delay;
  need = t.delay;
}

abbrev pub with_far : Report → Rate → Due → Removed → Report
with_far r rate d t = if is_far rate.constant d t then with_warning r (far_at d t) else r

abbrev pub with_removal : Report → Rate → Due → Removed → Report
with_removal r rate d t =
    let failed = with_over (with_under (with_held r rate d t) rate d t) rate d t in
    let told = with_far failed rate d t in
    record told { tally = with_due told.tally rate.constant d t }

-- ---- the beginning of a sequence

-- behind so many bytes that are no part of a sequence, the first of them at `start`
abbrev pub with_begin : Report → ℕ → ℕ → SequenceRecord → Report
with_begin r skipped start s = with_text (with_text r (skipped_text r.sequence start skipped)) (sequence_line s)

-- ---- headers and pictures, where each picture is told

abbrev pub with_group_line : Report → GroupRecord → Report
with_group_line r g = if r.pictures then with_text r (group_line g) else r

abbrev pub with_picture_line : Report → PictureRecord → Report
with_picture_line r p = if r.pictures then with_text r (picture_line p) else r

-- ---- its end

-- a rule, where it was broken
abbrev pub with_count : Report → ℕ → Report
with_count r rule =
    let count = count_of r.tally rule in
    if nat_eq count.how_often 0 then r
    else with_text r (count_line (record {
      sequence = r.sequence;
      rule = rule;
      how_often = count.how_often;
      picture = count.picture;
    }))

-- the rules from 1 to n, by their number
unfoldable pub with_counts : ℕ → Report → Report
with_counts zero r = r
with_counts (suc n) r = with_count (with_counts n r) (suc n)

abbrev pub end_of : Report → SequenceTotals → EndRecord
end_of r totals = record {
  sequence = r.sequence;
  pictures = totals.pictures;
  frames = totals.frames;
  groups = totals.groups;
  bytes = totals.bytes;
  breaches = r.tally.breaches;
  failures = r.tally.failures;
  warnings = r.tally.warnings;
  low = unwrap_or r.tally.low 0;
  high = r.tally.high;
  delays = r.tally.delays;
  time = r.tally.time;
}

abbrev pub with_end : Report → SequenceTotals → Report
with_end r totals = with_text (with_counts 95 r) (end_line (end_of r totals))
