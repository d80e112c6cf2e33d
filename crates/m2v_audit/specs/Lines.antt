-- The lines (records) of the report: what a line is, and the line of each kind of record.
use Rattle.std.specs.Prelude.{ℕ, Bool, List, [], ◌∷◌, ◌++◌, ◌==◌, nat_eq, map, codes, decimal, if◌then◌else◌, Option, Some, None}
use Rattle.std.specs.List.{flat_map}
use Rattle.m2v_strict.specs.declared.element.Element.{Element}
use Rattle.m2v_strict.specs.Elements.{word_of}
use Rattle.m2v_audit.specs.declared.line.Column.{Column as Printed}
use Rattle.m2v_audit.specs.declared.line.Column.TheVariants as printed
use Rattle.m2v_audit.specs.declared.words.RateKind.{RateKind}
use Rattle.m2v_audit.specs.declared.words.RateKind.TheVariants as rates
use Rattle.m2v_audit.specs.declared.words.PictureType.{PictureType}
use Rattle.m2v_audit.specs.declared.words.PictureType.TheVariants as types
use Rattle.m2v_audit.specs.declared.words.Structure.{Structure}
use Rattle.m2v_audit.specs.declared.words.Structure.TheVariants as structures
use Rattle.m2v_audit.specs.declared.words.FailureKind.{FailureKind}
use Rattle.m2v_audit.specs.declared.words.FailureKind.TheVariants as failures
use Rattle.m2v_audit.specs.declared.words.LimitKind.{LimitKind}
use Rattle.m2v_audit.specs.declared.words.LimitKind.TheVariants as limits
use Rattle.m2v_audit.specs.declared.records.SequenceRecord.{SequenceRecord}
use Rattle.m2v_audit.specs.declared.records.GroupRecord.{GroupRecord}
use Rattle.m2v_audit.specs.declared.records.PictureRecord.{PictureRecord}
use Rattle.m2v_audit.specs.declared.records.HeldRecord.{HeldRecord}
use Rattle.m2v_audit.specs.declared.records.Finding.{Finding}
use Rattle.m2v_audit.specs.declared.records.FailureRecord.{FailureRecord}
use Rattle.m2v_audit.specs.declared.records.CountRecord.{CountRecord}
use Rattle.m2v_audit.specs.declared.records.EndRecord.{EndRecord}
use Rattle.m2v_audit.specs.declared.records.TotalRecord.{TotalRecord}

-- ---- lines

-- a column tells a number or a word
pub data Column : Type 0 where
  number : ℕ → Column
  word : List ℕ → Column

-- a number is told in decimal, without leading zeros
unfoldable pub column_text : Column → List ℕ
column_text (number n) = decimal n
column_text (word w) = w

-- a line: its kind, for each column a tab and its text, and a newline
abbrev pub line_of : List ℕ → List Column → List ℕ
line_of kind columns = kind ++ flat_map (λ c. codes "\t" ++ column_text c) columns ++ codes "\n"

-- a flag is told as 1 or 0
abbrev pub flag : Bool → Column
flag b = number (if b then 1 else 0)

-- a column of the code
unfoldable pub told : Printed → Column
told (printed.Number n) = number n
told (printed.Word w) = word w.now

-- ---- words

-- the name of a rule
unfoldable pub name_of : ℕ → List ℕ
name_of rule =
    if rule == 1 then codes "level" else
    if rule == 2 then codes "width" else
    if rule == 3 then codes "height" else
    if rule == 4 then codes "frame_rate" else
    if rule == 5 then codes "luma_rate" else
    if rule == 6 then codes "bit_rate" else
    if rule == 7 then codes "vbv_buffer_size" else
    if rule == 8 then codes "f_code_horizontal" else
    if rule == 9 then codes "f_code_vertical" else
    if rule == 10 then codes "group_begins" else
    if rule == 11 then codes "temporal_reference" else
    if rule == 12 then codes "large_macroblocks" else
    if rule == 13 then codes "repeat_first_field" else
    if rule == 14 then codes "progressive" else
    if rule == 15 then codes "intra_dc_precision" else
    codes "unknown"

-- what is broken: an element that is told, or else what its rule is named by
unfoldable pub name_with : ℕ → Option Element → List ℕ
name_with rule None = name_of rule
name_with rule (Some element) = word_of element

-- the rate at which the buffer is filled; `none` where there is no account
unfoldable pub rate_word : RateKind → List ℕ
rate_word rates.Constant = codes "constant"
rate_word rates.Variable = codes "variable"
rate_word rates.NoAccount = codes "none"

-- a picture's type and structure
unfoldable pub type_word : PictureType → List ℕ
type_word types.I = codes "I"
type_word types.P = codes "P"
type_word types.B = codes "B"

unfoldable pub structure_word : Structure → List ℕ
structure_word structures.Frame = codes "frame"
structure_word structures.Top = codes "top"
structure_word structures.Bottom = codes "bottom"

-- how the buffer fails: too little is held, or too much; or the picture is one for which the decoder waits
unfoldable pub failure_word : FailureKind → List ℕ
failure_word failures.Under = codes "under"
failure_word failures.Over = codes "over"
failure_word failures.Big = codes "big"

-- the limit that is passed
unfoldable pub limit_word : LimitKind → List ℕ
limit_word limits.TooLong = codes "too_long"
limit_word limits.TooLarge = codes "too_large"

-- ---- records, each with its columns in turn

-- the first line: version 1 of this format, and the name of the rule set
abbrev pub audit_line : List ℕ → List ℕ
audit_line rules = line_of (codes "audit") (number 1 ∷ word rules ∷ [])

-- so many bytes that are no part of a sequence, the first of them at `byte`
abbrev pub skipped_line : ℕ → ℕ → ℕ → List ℕ
skipped_line sequence byte bytes = line_of (codes "skipped")
    (number sequence ∷ number byte ∷ number bytes ∷ [])

-- the same, where there are some
abbrev pub skipped_text : ℕ → ℕ → ℕ → List ℕ
skipped_text sequence byte bytes = if nat_eq bytes 0 then [] else skipped_line sequence byte bytes

abbrev pub sequence_line : SequenceRecord → List ℕ
sequence_line s = line_of (codes "sequence")
    (number s.sequence ∷ number s.bit ∷ number s.width ∷ number s.height
    ∷ number s.frame_rate_code ∷ number s.aspect ∷ number s.profile_and_level
    ∷ flag s.progressive ∷ flag s.low_delay
    ∷ number s.bit_rate ∷ number s.vbv_buffer_size ∷ word (rate_word s.rate) ∷ [])

abbrev pub group_line : GroupRecord → List ℕ
group_line g = line_of (codes "group")
    (number g.sequence ∷ number g.group ∷ number g.bit ∷ number g.picture
    ∷ flag g.drop_frame ∷ number g.hours ∷ number g.minutes ∷ number g.seconds ∷ number g.pictures
    ∷ flag g.closed ∷ flag g.broken ∷ [])

abbrev pub picture_line : PictureRecord → List ℕ
picture_line p = line_of (codes "picture")
    (number p.sequence ∷ number p.picture ∷ number p.bit
    ∷ word (type_word p.kind) ∷ word (structure_word p.structure) ∷ number p.temporal_reference
    ∷ number p.bits ∷ number p.zeros ∷ number p.vbv_delay ∷ number p.fields ∷ flag p.dropped ∷ [])

abbrev pub held_line : HeldRecord → List ℕ
held_line h = line_of (codes "held")
    (number h.sequence ∷ number h.picture ∷ number h.time
    ∷ number h.before ∷ number h.taken ∷ number h.after ∷ number h.delay ∷ number h.wait ∷ [])

-- of a breach, and of a warning
abbrev pub finding_columns : Finding → List Column
finding_columns f =
    number f.sequence ∷ number f.picture ∷ number f.bit
    ∷ number f.rule ∷ word (name_with f.rule f.element) ∷ number f.have ∷ number f.need ∷ []

abbrev pub breach_line : Finding → List ℕ
breach_line f = line_of (codes "breach") (finding_columns f)

abbrev pub warning_line : Finding → List ℕ
warning_line f = line_of (codes "warning") (finding_columns f)

abbrev pub failure_line : FailureRecord → List ℕ
failure_line f = line_of (codes "failure")
    (number f.sequence ∷ number f.picture ∷ number f.bit ∷ word (failure_word f.kind)
    ∷ number f.time ∷ number f.have ∷ number f.need ∷ number f.wait ∷ [])

-- of a fault: the sequence, its place in bits, and the name of its kind
abbrev pub fault_line : ℕ → ℕ → List ℕ → List ℕ
fault_line sequence bit kind = line_of (codes "fault")
    (number sequence ∷ number bit ∷ word kind ∷ [])

abbrev pub limit_line : ℕ → LimitKind → List ℕ
limit_line sequence kind = line_of (codes "limit")
    (number sequence ∷ word (limit_word kind) ∷ [])

abbrev pub count_line : CountRecord → List ℕ
count_line c = line_of (codes "count")
    (number c.sequence ∷ number c.rule ∷ number c.how_often ∷ number c.picture ∷ [])

abbrev pub end_line : EndRecord → List ℕ
end_line e = line_of (codes "end")
    (number e.sequence ∷ number e.pictures ∷ number e.frames ∷ number e.groups ∷ number e.bytes
    ∷ number e.breaches ∷ number e.failures ∷ number e.warnings
    ∷ number e.low ∷ number e.high ∷ number e.delays ∷ number e.time ∷ [])

abbrev pub total_line : TotalRecord → List ℕ
total_line t = line_of (codes "total")
    (number t.sequences ∷ number t.pictures ∷ number t.bytes
    ∷ number t.breaches ∷ number t.failures ∷ number t.warnings ∷ [])

-- ---- the names of the columns

-- the line that names the columns of a kind
abbrev pub columns_line : List ℕ → List (List ℕ) → List ℕ
columns_line kind names = line_of (codes "columns") (map word (kind ∷ names))

-- one such line a kind, in this order
unfoldable pub columns_lines : List ℕ
columns_lines =
    columns_line (codes "skipped") (codes "sequence" ∷ codes "byte" ∷ codes "bytes" ∷ [])
    ++ columns_line (codes "sequence")
    (codes "sequence" ∷ codes "bit" ∷ codes "width" ∷ codes "height"
    ∷ codes "frame_rate_code" ∷ codes "aspect" ∷ codes "profile_and_level"
    ∷ codes "progressive" ∷ codes "low_delay"
    ∷ codes "bit_rate" ∷ codes "vbv_buffer_size" ∷ codes "rate" ∷ [])
    ++ columns_line (codes "group")
    (codes "sequence" ∷ codes "group" ∷ codes "bit" ∷ codes "picture"
    ∷ codes "drop" ∷ codes "hours" ∷ codes "minutes" ∷ codes "seconds" ∷ codes "pictures"
    ∷ codes "closed" ∷ codes "broken" ∷ [])
    ++ columns_line (codes "picture")
    (codes "sequence" ∷ codes "picture" ∷ codes "bit"
    ∷ codes "type" ∷ codes "structure" ∷ codes "temporal_reference"
    ∷ codes "bits" ∷ codes "zeros" ∷ codes "vbv_delay" ∷ codes "fields" ∷ codes "dropped" ∷ [])
    ++ columns_line (codes "held")
    (codes "sequence" ∷ codes "picture" ∷ codes "time"
    ∷ codes "before" ∷ codes "taken" ∷ codes "after" ∷ codes "delay" ∷ codes "wait" ∷ [])
    ++ columns_line (codes "breach")
    (codes "sequence" ∷ codes "picture" ∷ codes "bit"
    ∷ codes "rule" ∷ codes "name" ∷ codes "have" ∷ codes "need" ∷ [])
    ++ columns_line (codes "warning")
    (codes "sequence" ∷ codes "picture" ∷ codes "bit"
    ∷ codes "rule" ∷ codes "name" ∷ codes "have" ∷ codes "need" ∷ [])
    ++ columns_line (codes "failure")
    (codes "sequence" ∷ codes "picture" ∷ codes "bit" ∷ codes "kind"
    ∷ codes "time" ∷ codes "have" ∷ codes "need" ∷ codes "wait" ∷ [])
    ++ columns_line (codes "fault") (codes "sequence" ∷ codes "bit" ∷ codes "kind" ∷ [])
    ++ columns_line (codes "limit") (codes "sequence" ∷ codes "kind" ∷ [])
    ++ columns_line (codes "count")
    (codes "sequence" ∷ codes "rule" ∷ codes "how_often" ∷ codes "picture" ∷ [])
    ++ columns_line (codes "end")
    (codes "sequence" ∷ codes "pictures" ∷ codes "frames" ∷ codes "groups" ∷ codes "bytes"
    ∷ codes "breaches" ∷ codes "failures" ∷ codes "warnings"
    ∷ codes "low" ∷ codes "high" ∷ codes "delays" ∷ codes "time" ∷ [])
    ++ columns_line (codes "total")
    (codes "sequences" ∷ codes "pictures" ∷ codes "bytes"
    ∷ codes "breaches" ∷ codes "failures" ∷ codes "warnings" ∷ [])
