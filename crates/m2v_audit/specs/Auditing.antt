-- A sequence that is audited, piece by piece: what is kept of it, and what each piece tells.
use Rattle.std.specs.Prelude.{ℕ, ◌+◌, ◌-◌, ◌*◌, ◌≤◌, ◌≡◌, ◌^◌, ◌++◌, Bool, true, false, ◌&&◌, not, nat_eq, if◌then◌else◌, List, [], ◌∷◌, length, slice_get, is_some, Option, Some, None}
use Rattle.std.specs.List.{ends_with}
use Rattle.std.specs.Option.{option_map}
use Rattle.m2v_model.specs.m2v_macroblock.m2v_head.declared.sequence.SequenceInfo.{SequenceInfo}
use Rattle.m2v_model.specs.m2v_macroblock.m2v_head.declared.sequence.SequenceExtension.{SequenceExtension}
use Rattle.m2v_model.specs.m2v_macroblock.m2v_head.declared.group.GroupInfo.{GroupInfo}
use Rattle.m2v_model.specs.declared.state.Sequence.{Sequence}
use Rattle.m2v_model.specs.declared.notes.PictureNote.{PictureNote}
use Rattle.m2v_model.specs.States.{first_or, is_b}
use Rattle.m2v_model.specs.Pieces.{zeros_last}
use Rattle.m2v_model.specs.PieceNotes.{PieceNotes}
use Rattle.m2v_model.specs.Lawful.{rate_of, sequence_breaches, horizontal_rule, vertical_rule, intra_rule, crowd_rule, repeat_rule, progressive_rule, precision_rule}
use Rattle.m2v_strict.specs.m2v_check.declared.coded.CodedPicture.{CodedPicture}
use Rattle.m2v_strict.specs.m2v_check.Breaking.{numbered_of}
use Rattle.m2v_strict.specs.m2v_check.Running.{ends_frame}
use Rattle.m2v_strict.specs.declared.rule_set.RuleSet.{RuleSet}
use Rattle.m2v_strict.specs.declared.leading.Leading.{Leading}
use Rattle.m2v_strict.specs.declared.parity.Parity.{Parity}
use Rattle.m2v_strict.specs.declared.parity.ShownFrame.{ShownFrame}
use Rattle.m2v_strict.specs.declared.preceding.Arrival.{Arrival}
use Rattle.m2v_strict.specs.declared.preceding.Preceding.{Preceding}
use Rattle.m2v_strict.specs.declared.runs.Runs.{Runs}
use Rattle.m2v_strict.specs.Remarks.{Remarks}
use Rattle.m2v_strict.specs.SequenceRules.{level_remarks, header_rule, extension_rule, sequence_warnings}
use Rattle.m2v_strict.specs.GroupRules.{group_remarks, broken_link_warning}
use Rattle.m2v_strict.specs.TimeRules.{time_warnings}
use Rattle.m2v_strict.specs.ParityRules.{shown_frame, has_parity, parity_warning, no_parity, shown_with, parity_with}
use Rattle.m2v_strict.specs.PictureRules.{delay_remarks, f_code_rule, full_pel_rule, field_rule, frame_remarks, picture_warnings}
use Rattle.m2v_strict.specs.ArrivalRules.{arrival_rule}
use Rattle.m2v_strict.specs.OrderRules.{sequence_order_rule, group_order_rule, first_type_rule, end_remarks}
use Rattle.m2v_strict.specs.DvdRules.{no_runs, runs_at_group, runs_with}
use Rattle.m2v_strict.specs.SetRules.{set_remarks, set_group_remarks, set_picture_remarks}
use Rattle.m2v_vbv.specs.Buffer.{Buffer}
use Rattle.m2v_audit.specs.declared.asked.Asked.{Asked}
use Rattle.m2v_audit.specs.declared.account.Due.{Due}
use Rattle.m2v_audit.specs.declared.auditing.Auditing.{Auditing}
use Rattle.m2v_audit.specs.declared.auditing.PieceEnd.{PieceEnd}
use Rattle.m2v_audit.specs.declared.headers.PieceHeader.{PieceHeader}
use Rattle.m2v_audit.specs.declared.headers.PieceHeader.TheVariants as headers
use Rattle.m2v_audit.specs.declared.others.Other.{Other}
use Rattle.m2v_audit.specs.declared.remarks.Behind.{Behind}
use Rattle.m2v_audit.specs.declared.report.Rate.{Rate}
use Rattle.m2v_audit.specs.declared.report.SequenceTotals.{SequenceTotals}
use Rattle.m2v_audit.specs.Account.{Account, opened, with_picture as account_with, with_more as account_more, settled, after_settled, ended as all_left}
use Rattle.m2v_audit.specs.Findings.{with_breaches, with_remarks, with_misplaced, with_removals}
use Rattle.m2v_audit.specs.Front.{front_of}
use Rattle.m2v_audit.specs.HeaderRecords.{sequence_record, rate_with, group_record, bit_of, picture_record, waiting_of}
use Rattle.m2v_audit.specs.Others.{others_of, display_of, with_own_remarks, headed_remarks, display_behind}
use Rattle.m2v_audit.specs.Opening.{kind_of, first_buffer}
use Rattle.m2v_audit.specs.Places.{no_places, with_field, with_frame, told_with_frame, group_closed, told_at_close}
use Rattle.m2v_audit.specs.Report.{Report, no_tally, one_more, with_begin, with_group_line, with_picture_line, with_end}
use Rattle.m2v_audit.specs.Times.{opened as first_times, fields_of, time_of, after as times_after}
pub use Rattle.m2v_audit.specs.declared.auditing.Auditing.{Auditing}

-- ---- what is kept

-- no sequence: nothing is known of how its buffer is filled
abbrev pub no_rate : Rate
no_rate = record { constant = true; low_delay = false; size = 0 }

-- nothing was read of the sequence of this number, whose text begins at a byte of the input
abbrev pub nothing : ℕ → Asked → ℕ → Auditing
nothing number asked start = record {
  report = record { text = []; tally = no_tally; sequence = number; pictures = asked.pictures };
  rules = asked.rules;
  like = asked.first;
  start = start;
  first = None;
  sequence = None;
  headed = false;
  first_in_group = false;
  runs = no_runs;
  pictures = 0;
  groups = 0;
  frames = 0;
  bytes = 0;
  last = None;
  constant = true;
  places = no_places false;
  parity = no_parity false;
  group = None;
  display = None;
  times = first_times false 0;
  rate = no_rate;
  arrival = None;
  account = None;
}

-- the sequence was told
abbrev pub is_begun : Auditing → Bool
is_begun a = is_some a.first

abbrev pub sequence_of : SequenceInfo × SequenceExtension → Sequence
sequence_of s = record { info = s.0; extension = s.1 }

abbrev pub longer : ℕ → Auditing → Auditing
longer bytes a = record a { bytes = a.bytes + bytes }

-- ---- the beginning

-- the sequence begins, with its first header and the picture of its first piece: it is told
abbrev pub with_first : Auditing → ℕ → Sequence → Option PictureNote → Auditing
with_first a place s n = record a {
  report = with_begin a.report (place - a.start) a.start (sequence_record a.report.sequence (8 * place) s (kind_of s n));
  first = Some s;
  places = no_places s.extension.low_delay;
  parity = no_parity s.extension.low_delay;
  times = first_times s.extension.low_delay s.info.frame_rate_code;
  rate = rate_with s n;
}

abbrev pub begun_by : Auditing → ℕ → Option (SequenceInfo × SequenceExtension) → Option PictureNote → Auditing
begun_by a place None n = a
begun_by a place (Some s) n = with_first a place (sequence_of s) n

-- with its first piece, which begins with the first sequence header
abbrev pub begun : Option Sequence → Auditing → ℕ → PieceNotes → Auditing
begun (Some first) a place notes = a
begun None a place notes = begun_by a place (slice_get notes.sequences 0) notes.picture

-- ---- headers

-- what a set of rules remarks of a sequence header, beside the first one of all, where it is of another sequence
abbrev pub with_set_remarks : Report → RuleSet → Option Sequence → ℕ → ℕ → Sequence → Report
with_set_remarks r rules like picture bit s = with_remarks r picture bit (set_remarks rules like s)

-- which headers came since the last picture
abbrev pub leading : Auditing → Leading
leading a = record { sequence = a.headed; group = a.first_in_group }

-- what the stricter rules remark of a sequence header behind these headers, beside the first one of its sequence, and by its set
-- beside the first one of all
abbrev pub with_sequence_remarks : Report → RuleSet → Option Sequence → Leading → ℕ → ℕ → Sequence → Sequence → Report
with_sequence_remarks r rules like before picture bit first s =
    let level = with_remarks r picture bit (level_remarks s) in
    let header = with_remarks level picture bit (header_rule first s) in
    let extension = with_remarks header picture bit (extension_rule first s) in
    let order = with_remarks extension picture bit (sequence_order_rule before) in
    with_set_remarks (with_remarks order picture bit (sequence_warnings rules s)) rules like picture bit s

-- a sequence header at a bit of the input: the verifier's rules, by number, and then the stricter ones
abbrev pub with_sequence : Auditing → ℕ → Sequence → Auditing
with_sequence a bit s = record a {
  report =
      with_sequence_remarks (with_breaches a.report a.pictures bit (sequence_breaches (s ∷ []))) a.rules a.like (leading a) a.pictures bit
      (first_or a.first s) s;
  sequence = Some s;
  headed = true;
}

-- what stands before a group header
abbrev pub behind : Auditing → Behind
behind a = record { headers = leading a; group = a.group; fields = a.runs.fields }

-- what the stricter rules remark of a group header behind these, in a sequence with this header
abbrev pub with_group_remarks : Report → RuleSet → Behind → ℕ → ℕ → Sequence → GroupInfo → Report
with_group_remarks r rules before picture bit s g =
    let order = with_remarks r picture bit (group_order_rule before.headers) in
    let numbers = with_remarks order picture bit (group_remarks s.info.frame_rate_code g) in
    let times = with_remarks numbers picture bit (time_warnings s.info.frame_rate_code before.group before.fields g) in
    let links = with_remarks times picture bit (broken_link_warning g) in
    with_remarks links picture bit (set_group_remarks rules before.headers.sequence)

-- the same, where a sequence header came
abbrev pub with_group_by : Report → RuleSet → Behind → ℕ → ℕ → Option Sequence → GroupInfo → Report
with_group_by r rules before picture bit None g = r
with_group_by r rules before picture bit (Some s) g = with_group_remarks r rules before picture bit s g

-- a group header: the group before it ends, and with it what waits for rule 11 is told; then the group, and its rules
abbrev pub with_group : Auditing → ℕ → GroupInfo → Auditing
with_group a bit g = record a {
  report =
      with_group_by
      (with_group_line (with_misplaced a.report (told_at_close a.places)) (group_record a.report.sequence a.groups bit a.pictures g))
      a.rules (behind a) a.pictures bit a.sequence g;
  first_in_group = true;
  group = Some g;
  runs = runs_at_group a.runs;
  groups = one_more a.groups;
  places = group_closed a.places;
}

-- a header, and of a sequence header what was noted of it
unfoldable pub with_header : Auditing → PieceHeader → Option (SequenceInfo × SequenceExtension) → Auditing
with_header a (headers.Sequence bit) None = a
with_header a (headers.Sequence bit) (Some s) = with_sequence a bit (sequence_of s)
with_header a (headers.Group bit g) s = with_group a bit g

-- how many sequence headers it is
unfoldable pub sequences_of : PieceHeader → ℕ
sequences_of (headers.Sequence bit) = 1
sequences_of (headers.Group bit g) = 0

-- headers in turn; so many sequence headers stand before them among those that were noted of the piece
unfoldable pub with_headers : Auditing → List (SequenceInfo × SequenceExtension) → ℕ → List PieceHeader → Auditing
with_headers a ss k [] = a
with_headers a ss k (h ∷ hs) = with_headers (with_header a h (slice_get ss k)) ss (k + sequences_of h) hs

-- ---- a picture

-- the picture among the others
abbrev pub coded : Auditing → Sequence → PictureNote → CodedPicture
coded a s n = record { number = a.pictures; sequence = s; first_in_group = a.first_in_group; note = n }

-- whether the rate is constant, which the first picture says
abbrev pub constant_with : Auditing → CodedPicture → Bool
constant_with a p = if nat_eq p.number 0 then not (nat_eq p.note.info.vbv_delay 65535) else a.constant

-- its frame is shown
abbrev pub is_shown : PictureNote → Bool
is_shown n = ends_frame n && not n.dropped

-- it is counted
abbrev pub counted : Auditing → CodedPicture → Auditing
counted a p = record a {
  first_in_group = false;
  pictures = a.pictures + 1;
  frames = if is_shown p.note then one_more a.frames else a.frames;
  constant = constant_with a p;
}

-- a picture's breaches, one after another
abbrev pub with_rules : Report → Bool → CodedPicture → Report
with_rules r constant p =
    let n = numbered_of p in
    with_breaches (with_breaches r p.number (bit_of p.note) (horizontal_rule n ++ vertical_rule n ++ intra_rule n))
    p.number (bit_of p.note) (crowd_rule n ++ repeat_rule constant n ++ progressive_rule n ++ precision_rule n)

-- what comes before a picture that comes next, behind this sequence header
abbrev pub preceding : Auditing → Sequence → Preceding
preceding a s = record { headed = a.headed; rate = rate_of (first_or a.first s); picture = a.arrival }

-- what the stricter rules remark of a picture behind these, rule after rule
abbrev pub with_picture_remarks : Report → Preceding → Bool → CodedPicture → Report
with_picture_remarks r before constant p =
    let with : Report → Remarks → Report = λ r ms. with_remarks r p.number (bit_of p.note) ms in
    let first = with r (first_type_rule before.headed p) in
    let delays = with first (delay_remarks constant p) in
    let arrivals = with delays (arrival_rule before.rate before.picture p) in
    let codes = with arrivals (f_code_rule p) in
    let vectors = with codes (full_pel_rule p.note.info) in
    let fields = with vectors (field_rule constant p) in
    with (with fields (frame_remarks constant p)) (picture_warnings p)

-- then what a set of rules remarks of it, behind what the pictures before it come to
abbrev pub with_set_picture_remarks : Report → RuleSet → Runs → CodedPicture → Report
with_set_picture_remarks r rules before p =
    with_remarks r p.number (bit_of p.note) (set_picture_remarks rules before p (fields_of p.sequence p.note))

abbrev pub with_all_remarks : Report → RuleSet → Preceding → Bool → Runs → CodedPicture → Report
with_all_remarks r rules before constant runs p = with_set_picture_remarks (with_picture_remarks r before constant p) rules runs p

-- where each picture is told its record; then its rules by number, but for 11: the verifier's, and then the stricter ones
abbrev pub with_told : Auditing → CodedPicture → ℕ → ℕ → Auditing
with_told a p bytes zeros = record a {
  report =
      with_all_remarks
      (with_rules (with_picture_line a.report (picture_record a.report.sequence p bytes zeros)) a.constant p)
      a.rules (preceding a p.sequence) a.constant a.runs p;
  headed = false;
  runs = runs_with a.runs p (fields_of p.sequence p.note);
}

-- then rule 11 of the frames whose place is known by it
abbrev pub with_place : Auditing → CodedPicture → Auditing
with_place a p =
    if ends_frame p.note then record a {
      report = with_misplaced a.report (told_with_frame a.places (waiting_of p) (is_b p.note.info.kind));
      places = with_frame a.places (waiting_of p) (is_b p.note.info.kind);
    }
    else record a { places = with_field a.places (waiting_of p) }

-- then the warning on the frame that is shown by it: none where no frame is
abbrev pub with_shown : Report → Option Bool → Option ShownFrame → Report
with_shown r last None = r
with_shown r last (Some f) = with_remarks r f.picture f.bit (parity_warning last f)

abbrev pub frame_at : CodedPicture → ShownFrame
frame_at p = shown_frame p (bit_of p.note)

abbrev pub told_of_fields : Report → Parity → CodedPicture → Report
told_of_fields r o p = if has_parity p then with_shown r o.last (shown_with o (frame_at p) (is_b p.note.info.kind)) else r

abbrev pub parity_behind : Parity → CodedPicture → Parity
parity_behind o p = if has_parity p then parity_with o (frame_at p) (is_b p.note.info.kind) else o

abbrev pub with_parity : Auditing → CodedPicture → Auditing
with_parity a p = record a { report = told_of_fields a.report a.parity p; parity = parity_behind a.parity p }

-- ---- the account

-- a picture as the buffer sees it, of a piece that begins at a byte of the input and has so many bytes
abbrev pub due_of : Auditing → CodedPicture → ℕ → ℕ → Due
due_of a p place bytes = record {
  number = p.number;
  bit = bit_of p.note;
  bits = 8 * bytes;
  code_bits = p.note.code_end - 8 * place;
  units = time_of a.times p.sequence p.note;
  delay = p.note.info.vbv_delay;
}

-- it is opened with the first picture, where the sequence has one
abbrev pub opened_by : Option Sequence → PictureNote → Due → Option Account
opened_by None n d = None
opened_by (Some first) n d = option_map (λ (b : Buffer). opened b d) (first_buffer first n d.code_bits)

-- and goes on with each other one
abbrev pub account_by : Option Account → Option Sequence → PictureNote → Due → Option Account
account_by None first n d = if nat_eq d.number 0 then opened_by first n d else None
account_by (Some x) first n d = Some (account_with x d)

-- as the arrival of the next picture's bits asks for it
abbrev pub arrived : PictureNote → Due → Arrival
arrived n d = record { code_end = n.code_end; units = d.units; delay = d.delay }

abbrev pub with_account : Auditing → CodedPicture → ℕ → ℕ → Auditing
with_account a p place bytes = record a {
  times = times_after a.times p.sequence p.note;
  arrival = Some (arrived p.note (due_of a p place bytes));
  account = account_by a.account a.first p.note (due_of a p place bytes);
}

-- ---- a piece

-- a picture of a piece that begins at a byte of the input and has so many bytes, of which so many zero bytes end it
abbrev pub with_coded : Auditing → CodedPicture → ℕ → ℕ → ℕ → Auditing
with_coded a p place bytes zeros = with_account (with_parity (with_place (with_told (counted a p) p bytes zeros) p) p) p place bytes

-- its picture behind a sequence header, or where it has none more bits of the picture before it
abbrev pub with_note : Auditing → Option Sequence → Option PictureNote → ℕ → ℕ → ℕ → Auditing
with_note a s None place bytes ending = record a { account = option_map (λ (x : Account). account_more x (8 * bytes)) a.account }
with_note a None (Some n) place bytes ending = a
with_note a (Some s) (Some n) place bytes ending = with_coded a (coded a s n) place bytes ending

abbrev pub pictured : Auditing → ℕ → ℕ → ℕ → Option PictureNote → Auditing
pictured a place bytes zeros n = with_note a a.sequence n place bytes zeros

-- the removals that are settled by now, in turn
abbrev pub settled_by : Auditing → Option Account → Auditing
settled_by a None = a
settled_by a (Some x) = record a { report = with_removals a.report a.rate (settled x); account = Some (after_settled x) }

abbrev pub with_settled : Auditing → Auditing
with_settled a = settled_by a a.account

-- the sequence display extension of a piece that begins at a byte of the input, behind its headers
abbrev pub with_display : ℕ → List Other → Auditing → Auditing
with_display place others a = record a {
  report = with_remarks a.report a.pictures (8 * place) (headed_remarks a.headed a.display (display_of others));
  display = display_behind a.headed a.display (display_of others);
}

-- what else stands before a picture's first slice
abbrev pub with_others : ℕ → List Other → Auditing → Auditing
with_others picture others a = record a { report = with_own_remarks a.report picture others }

-- the headers of a piece that begins at a byte of the input, and before the first ones the sequence
abbrev pub fronted : Auditing → ℕ → List ℕ → PieceNotes → Auditing
fronted a place piece notes =
    with_display place (others_of place piece) (with_headers (begun a.first a place notes) notes.sequences 0 (front_of place piece))

-- a sequence end code (value B7) ends a piece, and no zero byte behind it
abbrev pub ends_code : List ℕ → Bool
ends_code piece = nat_eq (zeros_last piece) 0 && ends_with nat_eq piece (0 ∷ 0 ∷ 1 ∷ 0xB7 ∷ [])

-- how a piece ends that begins at a byte of the input
abbrev pub with_ending : ℕ → List ℕ → Auditing → Auditing
with_ending place piece a = record a { last = Some (record { bit = 8 * (place + length piece); closed = ends_code piece }) }

-- all that is told of a piece whose bytes are counted
abbrev pub told : Auditing → ℕ → List ℕ → PieceNotes → Auditing
told a place piece notes =
    let front = fronted a place piece notes in
    let behind = pictured front place (length piece) (zeros_last piece) notes.picture in
    with_settled (with_ending place piece (with_others front.pictures (others_of place piece) behind))

-- a piece that begins at a byte of the input, with what is noted of it
unfoldable pub after_piece : Auditing → ℕ → List ℕ → PieceNotes → Auditing
after_piece a place piece notes = told (longer (length piece) a) place piece notes

-- ---- the end

abbrev pub totals_of : Auditing → SequenceTotals
totals_of a = record { pictures = a.pictures; frames = a.frames; groups = a.groups; bytes = a.bytes }

-- the removals that are left
abbrev pub with_left : Report → Rate → Option Account → Report
with_left r rate None = r
with_left r rate (Some x) = with_removals r rate (all_left x)

-- what the stricter rules remark of the end, behind these headers, where the last piece ends so
abbrev pub with_end_remarks : Report → Leading → ℕ → Option PieceEnd → Report
with_end_remarks r before picture None = r
with_end_remarks r before picture (Some e) = with_remarks r picture e.bit (end_remarks before e.closed)

-- nothing follows: what waits for rule 11 and for the warning on fields, the removals that are left, what the stricter rules
-- remark of the end, and what there was in all
abbrev pub with_waiting : Auditing → Report
with_waiting a = with_shown (with_misplaced a.report (told_at_close a.places)) a.parity.last a.parity.anchor

abbrev pub finished : Auditing → Auditing
finished a = record a {
  report = with_end (with_end_remarks (with_left (with_waiting a) a.rate a.account) (leading a) a.pictures a.last) (totals_of a);
  places = group_closed a.places;
  account = None;
}

-- of a text without a sequence nothing is told
abbrev pub ended_by : Option Sequence → Auditing → Auditing
ended_by None a = a
ended_by (Some first) a = finished a

unfoldable pub ended : Auditing → Auditing
ended a = ended_by a.first a

-- it stops early, by a fault or a limit: what there was is told where it began, and what waits isn't
abbrev pub stopped_by : Option Sequence → Auditing → Auditing
stopped_by None a = a
stopped_by (Some first) a = record a { report = with_end a.report (totals_of a) }

unfoldable pub stopped : Auditing → Auditing
stopped a = stopped_by a.first a

-- ---- its text

-- its report's lines are taken away
abbrev pub cleared : Auditing → Auditing
cleared a = record a { report = record a.report { text = [] } }

-- ---- what is always so

abbrev pub total_of : Option Account → ℕ
total_of None = 0
total_of (Some x) = x.total

-- a group shows no more frames than the sequence has pictures, each picture has a byte at least, and the account has no more
-- bits than came
pub record IsSound (a : Auditing) : Type 0 where
  pub shown : a.places.shown ≤ a.pictures
  pub pictures : a.pictures ≤ a.bytes
  pub total : total_of a.account ≤ 8 * a.bytes
  pub most : a.bytes ≤ 2 ^ 36

-- a piece of so many bytes is counted among the bytes, and nothing else of it yet
pub record HasRoom (a : Auditing) (bytes : ℕ) : Type 0 where
  pub shown : a.places.shown ≤ a.pictures
  pub pictures : a.pictures + bytes ≤ a.bytes
  pub total : total_of a.account + 8 * bytes ≤ 8 * a.bytes
  pub most : a.bytes ≤ 2 ^ 36

-- headers and rules change nothing of that
pub record Keeps (old new : Auditing) : Type 0 where
  pub shown : new.places.shown ≤ old.places.shown
  pub pictures : new.pictures ≡ old.pictures
  pub bytes : new.bytes ≡ old.bytes
  pub total : total_of new.account ≡ total_of old.account

-- nor what is told at the end
pub record Lessens (old new : Auditing) : Type 0 where
  pub shown : new.places.shown ≤ old.places.shown
  pub pictures : new.pictures ≡ old.pictures
  pub bytes : new.bytes ≡ old.bytes
  pub total : total_of new.account ≤ total_of old.account
