-- Each line of a report is one line: its columns hold no newline.
use Rattle.std.proofs.Common.{◌≡◌, ℕ, zero, suc, ◌+◌, ◌/◌, ◌%◌, Bool, true, false, List, [], ◌∷◌, ◌++◌, Option, Some, None, refl, ap, ◌∙◌, arith}
use Rattle.std.specs.Prelude.{nat_lt, not, ◌==◌, codes, decimal, if◌then◌else◌}
use Rattle.std.specs.Fmt.{digits, digits_onto, digit_glyph}
use Rattle.std.specs.List.{flat_map, list_all}
use Rattle.std.specs.Cmp.Derive.{both_true}
use Rattle.std.proofs.lemmas.Bool.{and_parts, ne_eqb}
use Rattle.std.proofs.lemmas.List.Folds.{list_all-append}
use Rattle.m2v_audit.specs.m2v_strict.declared.element.Element.{Element}
use Rattle.m2v_audit.specs.m2v_strict.declared.element.Element.TheVariants as elements
use Rattle.m2v_audit.specs.m2v_strict.Elements.{word_of}
use Rattle.m2v_audit.specs.declared.words.RateKind.{RateKind}
use Rattle.m2v_audit.specs.declared.words.RateKind.TheVariants as rates
use Rattle.m2v_audit.specs.declared.words.PictureType.{PictureType}
use Rattle.m2v_audit.specs.declared.words.PictureType.TheVariants as types
use Rattle.m2v_audit.specs.declared.words.Structure.{Structure}
use Rattle.m2v_audit.specs.declared.words.Structure.TheVariants as structures
use Rattle.m2v_audit.specs.declared.words.FailureKind.{FailureKind}
use Rattle.m2v_audit.specs.declared.words.FailureKind.TheVariants as failures
use Rattle.m2v_audit.specs.declared.records.SequenceRecord.{SequenceRecord}
use Rattle.m2v_audit.specs.declared.records.GroupRecord.{GroupRecord}
use Rattle.m2v_audit.specs.declared.records.PictureRecord.{PictureRecord}
use Rattle.m2v_audit.specs.declared.records.HeldRecord.{HeldRecord}
use Rattle.m2v_audit.specs.declared.records.Finding.{Finding}
use Rattle.m2v_audit.specs.declared.records.FailureRecord.{FailureRecord}
use Rattle.m2v_audit.specs.declared.records.CountRecord.{CountRecord}
use Rattle.m2v_audit.specs.declared.records.EndRecord.{EndRecord}
use Rattle.m2v_audit.specs.Lines.{Column, number, word, column_text, line_of, flag, name_of, name_with, rate_word, type_word, structure_word, failure_word, skipped_line, sequence_line, group_line, picture_line, held_line, finding_columns, breach_line, warning_line, failure_line, count_line, end_line}
use Rattle.m2v_law_audit.specs.Parts.{is_within, IsLine}

abbrev pub within : List ℕ → Bool
within text = list_all is_within text

-- ---- numbers

glyph_within : (d : ℕ) → is_within (digit_glyph false d) ≡ true
glyph_within d = by (nat_lt d 10)
  where
    by : (low : Bool) → is_within (if low then 48 + d else 87 + d) ≡ true
    by true = ap not (ne_eqb (48 + d) 10 (λ e. absurd (omega (arith, e))))
    by false = ap not (ne_eqb (87 + d) 10 (λ e. absurd (omega (arith, e))))

chosen : (b : Bool) (x y : List ℕ) → within x ≡ true → within y ≡ true → within (if b then x else y) ≡ true
chosen true x y p q = p
chosen false x y p q = q

digits_within : (k n : ℕ) (acc : List ℕ) → within acc ≡ true → within (digits_onto k 10 false n acc) ≡ true
digits_within zero n acc e = e
digits_within (suc k) n acc e =
    let more : within (digit_glyph false (n % 10) ∷ acc) ≡ true = both_true (glyph_within (n % 10)) e in
    chosen (n / 10 == 0) _ _ more (digits_within k (n / 10) (digit_glyph false (n % 10) ∷ acc) more)

number_within : (n : ℕ) → within (decimal n) ≡ true
unfolding digits
number_within n = digits_within 64 n [] refl

-- ---- words

name_within : (rule : ℕ) → within (name_of rule) ≡ true
unfolding name_of
name_within rule =
    chosen (rule == 1) _ _ refl (chosen (rule == 2) _ _ refl (chosen (rule == 3) _ _ refl (chosen (rule == 4) _ _ refl
    (chosen (rule == 5) _ _ refl (chosen (rule == 6) _ _ refl (chosen (rule == 7) _ _ refl (chosen (rule == 8) _ _ refl
    (chosen (rule == 9) _ _ refl (chosen (rule == 10) _ _ refl (chosen (rule == 11) _ _ refl (chosen (rule == 12) _ _ refl
    (chosen (rule == 13) _ _ refl (chosen (rule == 14) _ _ refl (chosen (rule == 15) _ _ refl refl))))))))))))))

element_within : (e : Element) → within (word_of e) ≡ true
unfolding word_of
element_within elements.CodedLumaRate = refl
element_within elements.Width = refl
element_within elements.Height = refl
element_within elements.AspectRatioInformation = refl
element_within elements.FrameRateCode = refl
element_within elements.BitRate = refl
element_within elements.VbvBufferSize = refl
element_within elements.ConstrainedParametersFlag = refl
element_within elements.IntraQuantiserMatrix = refl
element_within elements.ProfileAndLevelIndication = refl
element_within elements.LowDelay = refl
element_within elements.FrameRateExtensionN = refl
element_within elements.FrameRateExtensionD = refl
element_within elements.DropFrameFlag = refl
element_within elements.TimeCodeHours = refl
element_within elements.TimeCodeMinutes = refl
element_within elements.TimeCodeSeconds = refl
element_within elements.TimeCodePictures = refl
element_within elements.BrokenLink = refl
element_within elements.VbvDelay = refl
element_within elements.FullPelForwardVector = refl
element_within elements.ForwardFCode = refl
element_within elements.FullPelBackwardVector = refl
element_within elements.BackwardFCode = refl
element_within elements.FCodeHorizontal = refl
element_within elements.FCodeVertical = refl
element_within elements.TopFieldFirst = refl
element_within elements.FramePredFrameDct = refl
element_within elements.RepeatFirstField = refl
element_within elements.Chroma420Type = refl
element_within elements.ProgressiveFrame = refl
element_within elements.RepeatByRate = refl
element_within elements.Dropped = refl
element_within elements.Size = refl
element_within elements.ProgressiveSequence = refl
element_within elements.SequenceHeader = refl
element_within elements.GroupFields = refl
element_within elements.BFrames = refl
element_within elements.FirstGroup = refl
element_within elements.TimeCode = refl
element_within elements.ArrivalRate = refl
element_within elements.FieldParity = refl
element_within elements.HeaderOrder = refl
element_within elements.PictureCodingType = refl
element_within elements.SequenceEndCode = refl
element_within elements.ChromaIntraQuantiserMatrix = refl
element_within elements.LoadChromaIntraQuantiserMatrix = refl
element_within elements.LoadChromaNonIntraQuantiserMatrix = refl
element_within elements.ExtraBitPicture = refl
element_within elements.SequenceDisplayExtension = refl

named_within : (rule : ℕ) (e : Option Element) → within (name_with rule e) ≡ true
unfolding name_with
named_within rule None = name_within rule
named_within rule (Some e) = element_within e

rate_within : (r : RateKind) → within (rate_word r) ≡ true
unfolding rate_word
rate_within rates.Constant = refl
rate_within rates.Variable = refl
rate_within rates.NoAccount = refl

type_within : (t : PictureType) → within (type_word t) ≡ true
unfolding type_word
type_within types.I = refl
type_within types.P = refl
type_within types.B = refl

structure_within : (s : Structure) → within (structure_word s) ≡ true
unfolding structure_word
structure_within structures.Frame = refl
structure_within structures.Top = refl
structure_within structures.Bottom = refl

failure_within : (f : FailureKind) → within (failure_word f) ≡ true
unfolding failure_word
failure_within failures.Under = refl
failure_within failures.Over = refl
failure_within failures.Big = refl

-- ---- lines

-- a column whose word holds no newline
abbrev is_plain : Column → Bool
is_plain (number n) = true
is_plain (word w) = within w

column_within : (c : Column) → is_plain c ≡ true → within (column_text c) ≡ true
unfolding column_text
column_within (number n) e = number_within n
column_within (word w) e = e

abbrev part_of : Column → List ℕ
part_of c = codes "\t" ++ column_text c

columns_within : (cs : List Column) → list_all is_plain cs ≡ true → within (flat_map part_of cs) ≡ true
columns_within [] e = refl
columns_within (c ∷ cs) e =
    let both = and_parts (is_plain c) (list_all is_plain cs) e in
    list_all-append is_within (part_of c) (flat_map part_of cs) ∙ both_true (column_within c both.0) (columns_within cs both.1)

line_is : (kind : List ℕ) (cs : List Column) → within kind ≡ true → list_all is_plain cs ≡ true → IsLine (line_of kind cs)
line_is kind cs e f = record {
  front = kind ++ flat_map part_of cs;
  whole = refl;
  within = list_all-append is_within kind (flat_map part_of cs) ∙ both_true e (columns_within cs f);
}

pub skipped_is : (sequence byte bytes : ℕ) → IsLine (skipped_line sequence byte bytes)
skipped_is sequence byte bytes = line_is (codes "skipped")
    (number sequence ∷ number byte ∷ number bytes ∷ [])
    refl refl

pub sequence_is : (s : SequenceRecord) → IsLine (sequence_line s)
sequence_is s = line_is (codes "sequence")
    (number s.sequence ∷ number s.bit ∷ number s.width ∷ number s.height ∷ number s.frame_rate_code ∷ number s.aspect ∷ number s.profile_and_level ∷ flag s.progressive ∷ flag s.low_delay ∷ number s.bit_rate ∷ number s.vbv_buffer_size ∷ word (rate_word s.rate) ∷ [])
    refl (both_true (rate_within s.rate) refl)

pub group_is : (g : GroupRecord) → IsLine (group_line g)
group_is g = line_is (codes "group")
    (number g.sequence ∷ number g.group ∷ number g.bit ∷ number g.picture ∷ flag g.drop_frame ∷ number g.hours ∷ number g.minutes ∷ number g.seconds ∷ number g.pictures ∷ flag g.closed ∷ flag g.broken ∷ [])
    refl refl

pub picture_is : (p : PictureRecord) → IsLine (picture_line p)
picture_is p = line_is (codes "picture")
    (number p.sequence ∷ number p.picture ∷ number p.bit ∷ word (type_word p.kind) ∷ word (structure_word p.structure) ∷ number p.temporal_reference ∷ number p.bits ∷ number p.zeros ∷ number p.vbv_delay ∷ number p.fields ∷ flag p.dropped ∷ [])
    refl (both_true (type_within p.kind) (both_true (structure_within p.structure) refl))

pub held_is : (h : HeldRecord) → IsLine (held_line h)
held_is h = line_is (codes "held")
    (number h.sequence ∷ number h.picture ∷ number h.time ∷ number h.before ∷ number h.taken ∷ number h.after ∷ number h.delay ∷ number h.wait ∷ [])
    refl refl

finding_is : (kind : List ℕ) (f : Finding) → within kind ≡ true → IsLine (line_of kind (finding_columns f))
finding_is kind f e = line_is kind (finding_columns f) e (both_true (named_within f.rule f.element) refl)

pub breach_is : (f : Finding) → IsLine (breach_line f)
breach_is f = finding_is (codes "breach") f refl

pub warning_is : (f : Finding) → IsLine (warning_line f)
warning_is f = finding_is (codes "warning") f refl

pub failure_is : (f : FailureRecord) → IsLine (failure_line f)
failure_is f = line_is (codes "failure")
    (number f.sequence ∷ number f.picture ∷ number f.bit ∷ word (failure_word f.kind) ∷ number f.time ∷ number f.have ∷ number f.need ∷ number f.wait ∷ [])
    refl (both_true (failure_within f.kind) refl)

pub count_is : (c : CountRecord) → IsLine (count_line c)
count_is c = line_is (codes "count")
    (number c.sequence ∷ number c.rule ∷ number c.how_often ∷ number c.picture ∷ [])
    refl refl

pub end_is : (e : EndRecord) → IsLine (end_line e)
end_is e = line_is (codes "end")
    (number e.sequence ∷ number e.pictures ∷ number e.frames ∷ number e.groups ∷ number e.bytes ∷ number e.breaches ∷ number e.failures ∷ number e.warnings ∷ number e.low ∷ number e.high ∷ number e.delays ∷ number e.time ∷ [])
    refl refl
