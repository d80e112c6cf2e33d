-- The headers of the encoder's stream stand in their units.
use Rattle.std.proofs.Common.{◌≡◌, ℕ, zero, suc, ◌/◌, ◌%◌, ◌^◌, ◌<◌, ◌≤◌, Bool, true, false, ◌||◌, cond, List, [], length, inl, inr, refl, sym, ap, subst, ◌∙◌, arith}
use Rattle.std.specs.Prelude.{nat_eq, if◌then◌else◌}
use Rattle.std.proofs.lemmas.Bool.{ne_eqb, cond_both}
use Rattle.std.proofs.lemmas.Nat.{mod_below}
use Rattle.m2v_bits.specs.Bits.{bits_of, number}
use Rattle.m2v_bits.specs.Syntax.{renamed}
use Rattle.m2v_bits.proofs.Bits.{number-bits_of}
use Rattle.m2v_head.specs.Texts.{sequence_text, sequence_extension_text, rates_text, group_text, picture_text, picture_extension_text, flags_text, composite_text}
use Rattle.m2v_head.specs.Fits.{SequenceFits, GroupFits, PictureFits, PictureExtensionFits}
use Rattle.m2v_head.specs.declared.sequence.SequenceExtension.{SequenceExtension}
use Rattle.m2v_head.proofs.Spellings.{sequence_spells, group_spells, picture_spells}
use Rattle.m2v_set.specs.declared.settings.Settings.{Settings}
use Rattle.m2v_set.specs.declared.settings.Level.{Level}
use Rattle.m2v_set.specs.declared.settings.Level.TheVariants.{Main, High1440, High}
use Rattle.m2v_set.specs.declared.settings.Scan.{Scan}
use Rattle.m2v_set.specs.declared.settings.Scan.TheVariants.{Progressive, Frames, Fields}
use Rattle.m2v_set.specs.Bounds.{InSize, InChoice}
use Rattle.m2v_set.specs.Rules.{is_progressive}
use Rattle.m2v_order.specs.declared.jobs.PictureJob.{PictureJob}
use Rattle.m2v_slice.specs.Headers.{profile_of, sequence_of, sequence_extension_of, frames_in_second, group_from, picture_of, extension_of, IsJob}
use Rattle.m2v_slice.proofs.Groups.{HasStructure}
use Rattle.m2v_model.specs.Looking.{number_from}
use Rattle.m2v_model.specs.Headers.{whole_header, sequence_in, sequence_extension_in, group_in, picture_in, is_structure, f_codes_at, picture_extension_in}
use Rattle.m2v_model.specs.Plain.{plain_sequence_extension}
use Rattle.m2v_model.specs.Texts.{ended}
use Rattle.m2v_model.proofs.Headers.{behind, whole_stands, IdStands, plain_stands, f_codes_stand, coding_stands as coding_shows}

-- ---- sequences

sequence_fits : (s : Settings) → InSize s → InChoice s → SequenceFits (sequence_of s)
unfolding sequence_of
sequence_fits s h c = record {
  horizontal_size = omega arith;
  vertical_size = omega arith;
  aspect = omega (arith, c.aspect);
  frame_rate_code = omega (arith, h.codes);
  bit_rate = omega arith;
  vbv_buffer_size = omega arith;
  load_intra = tt;
  load_non_intra = tt;
}

pub sequence_stands : (s : Settings) → InSize s → InChoice s → (whole_header sequence_in).Stands (sequence_of s) (ended (sequence_text (sequence_of s))) []
unfolding sequence_in renamed ended
sequence_stands s h c =
    whole_stands sequence_in (sequence_text (sequence_of s)) (sequence_of s) ((sequence_spells (sequence_of s) (sequence_fits s h c)).stands (behind (sequence_text (sequence_of s))))

same_plain : (profile : ℕ) (progressive : Bool) (a b c d : ℕ) → a ≡ 0 → b ≡ 0 → c ≡ 0 → d ≡ 0
    → record (plain_sequence_extension profile progressive) { horizontal_ext = a; vertical_ext = b; bit_rate_ext = c; vbv_ext = d }
    ≡ plain_sequence_extension profile progressive
same_plain profile progressive a b c d ea eb ec ed = rw (ea, eb, ec, ed) refl

pub plain_is : (s : Settings) → InSize s → sequence_extension_of s ≡ plain_sequence_extension (profile_of s.level) (is_progressive s.scan)
unfolding sequence_extension_of
plain_is s h =
    same_plain (profile_of s.level) (is_progressive s.scan) _ _ _ _
    (let e : s.width / 4096 ≡ 0 = omega (arith, h.width) in e)
    (let e : s.height / 4096 ≡ 0 = omega (arith, h.height) in e)
    (let e : s.bits / 262144 ≡ 0 = omega (arith, h.bits) in e)
    (let e : s.buffer / 1024 ≡ 0 = omega (arith, h.buffer) in e)

profile_small : (level : Level) → profile_of level < 2 ^ 8
unfolding profile_of
profile_small Main = omega arith
profile_small High1440 = omega arith
profile_small High = omega arith

one_line : (scan : Scan) (height : ℕ) → (if is_progressive scan then 2 else 4) ≤ height → 1 ≤ height
one_line scan height = by_step (is_progressive scan)
  where
    by_step : (x : Bool) → (if x then 2 else 4) ≤ height → 1 ≤ height
    by_step true le = omega (arith, le)
    by_step false le = omega (arith, le)

-- the lower bits of the sizes are the sizes
pub size_bounds : (s : Settings) → InSize s → ((1 ≤ s.width % 4096) × (s.width % 4096 ≤ 1920)) × ((1 ≤ s.height % 4096) × (s.height % 4096 ≤ 1152))
size_bounds s h =
    let tall = one_line s.scan s.height h.tall in
    ((omega (arith, h.wide, h.width), omega (arith, h.width)), (omega (arith, h.height, tall), omega (arith, h.height)))

sizes_of : (s : Settings) → InSize s
    → ((1 ≤ (sequence_of s).horizontal_size) × ((sequence_of s).horizontal_size ≤ 1920)) × ((1 ≤ (sequence_of s).vertical_size) × ((sequence_of s).vertical_size ≤ 1152))
unfolding sequence_of
sizes_of s h = size_bounds s h

pub extension_stands : (s : Settings) → InSize s
    → (whole_header (sequence_extension_in (sequence_of s))).Stands (sequence_extension_of s) (ended (sequence_extension_text (sequence_extension_of s))) []
extension_stands s h =
    let sizes = sizes_of s h in
    subst (λ (e : SequenceExtension). (whole_header (sequence_extension_in (sequence_of s))).Stands e (ended (sequence_extension_text e)) []) (sym (plain_is s h))
    (plain_stands (profile_of s.level) (is_progressive s.scan) (sequence_of s) (profile_small s.level) sizes.0.0 sizes.0.1 sizes.1.0 sizes.1.1)

pub sequence_id : (s : Settings) → IdStands 1 (sequence_extension_text (sequence_extension_of s))
unfolding ended sequence_extension_text rates_text bits_of sequence_extension_of
sequence_id s = refl

-- ---- groups

second_by : (x y z w : Bool) → let n : ℕ = if x then 24 else if y then 25 else if z then 30 else if w then 50 else 60 in (1 ≤ n) × (n ≤ 60)
second_by true y z w = (omega arith, omega arith)
second_by false true z w = (omega arith, omega arith)
second_by false false true w = (omega arith, omega arith)
second_by false false false true = (omega arith, omega arith)
second_by false false false false = (omega arith, omega arith)

second_bounds : (code : ℕ) → (1 ≤ frames_in_second code) × (frames_in_second code ≤ 60)
unfolding frames_in_second
second_bounds code = second_by (nat_eq code 1 || nat_eq code 2) (nat_eq code 3) (nat_eq code 4 || nat_eq code 5) (nat_eq code 6)

hours_small : (x : ℕ) → x / 3600 % 24 < 2 ^ 5
hours_small x = omega arith

minutes_small : (x : ℕ) → x / 60 % 60 < 2 ^ 6
minutes_small x = omega arith

seconds_small : (x : ℕ) → x % 60 < 2 ^ 6
seconds_small x = omega arith

pictures_small : (n m : ℕ) → 1 ≤ m → m ≤ 60 → n % m < 2 ^ 6
pictures_small n m some most = let below = mod_below n m some in omega (arith, below, most)

group_fits : (s : Settings) (display : ℕ) → GroupFits (group_from s display)
unfolding group_from
group_fits s display =
    let frames = second_bounds s.rate_code in
    record {
      hours = hours_small _;
      minutes = minutes_small _;
      seconds = seconds_small _;
      pictures = pictures_small _ (frames_in_second s.rate_code) frames.0 frames.1;
    }

pub group_stands : (s : Settings) (display : ℕ) → (whole_header group_in).Stands (group_from s display) (ended (group_text (group_from s display))) []
unfolding group_in renamed ended
group_stands s display =
    let g = group_from s display in
    whole_stands group_in (group_text g) g ((group_spells g (group_fits s display)).stands (behind (group_text g)))

-- ---- pictures

picture_fits : (job : PictureJob) (delay : ℕ) → IsJob job → delay < 65536 → PictureFits (picture_of job delay)
unfolding picture_of
picture_fits job delay h small = record {
  temporal_reference = omega (arith, h.frame);
  kind = h.kind;
  vbv_delay = omega (arith, small);
  forward_f_code = cond_both (nat_eq job.kind 1) 0 7 (λ (n : ℕ). n < 2 ^ 3) (λ e. omega arith) (λ e. omega arith);
  backward_f_code = cond_both (nat_eq job.kind 3) 7 0 (λ (n : ℕ). n < 2 ^ 3) (λ e. omega arith) (λ e. omega arith);
  forward = λ e. (refl, ap (λ (k : ℕ). cond {A = ℕ} (nat_eq k 1) 0 7) e);
  backward = λ n. (refl, ap (λ (x : Bool). cond {A = ℕ} x 7 0) (ne_eqb job.kind 3 n));
}

pub picture_stands : (job : PictureJob) (delay : ℕ) → IsJob job → delay < 65536 → (whole_header picture_in).Stands (picture_of job delay) (ended (picture_text (picture_of job delay))) []
unfolding picture_in renamed ended
picture_stands job delay h small =
    let p = picture_of job delay in
    whole_stands picture_in (picture_text p) p ((picture_spells p (picture_fits job delay h small)).stands (behind (picture_text p)))

-- each type
pub by_kind : (P : ℕ → Type 0) → P 1 → P 2 → P 3 → (k : ℕ) → (1 ≤ k) × (k ≤ 3) → P k
by_kind P one two three zero h = absurd (omega (arith, h.0))
by_kind P one two three (suc zero) h = one
by_kind P one two three (suc (suc zero)) h = two
by_kind P one two three (suc (suc (suc zero))) h = three
by_kind P one two three (suc (suc (suc (suc k)))) h = absurd (omega (arith, h.1))

-- the coding extension of a picture of some type
abbrev coding_text : Settings → PictureJob → ℕ → List Bool
coding_text s job kind = picture_extension_text (extension_of s (record job { kind = kind }))

abbrev FCodesStand : Settings → PictureJob → ℕ → Type 0
FCodesStand s job kind = (at : ℕ) → (f_codes_at kind at).Stands tt (ended (coding_text s job kind)) (ended (coding_text s job kind))

intra_codes : (s : Settings) (job : PictureJob) → FCodesStand s job 1
unfolding number_from ended picture_extension_text flags_text composite_text bits_of number extension_of
intra_codes s job at = f_codes_stand 1 at (ended (coding_text s job 1)) 15 15 15 15 refl refl refl refl refl refl refl refl refl

forward_codes : (s : Settings) (job : PictureJob) → FCodesStand s job 2
unfolding number_from ended picture_extension_text flags_text composite_text bits_of number extension_of
forward_codes s job at = f_codes_stand 2 at (ended (coding_text s job 2)) 2 2 15 15 refl refl refl refl refl refl refl refl refl

both_codes : (s : Settings) (job : PictureJob) → FCodesStand s job 3
unfolding number_from ended picture_extension_text flags_text composite_text bits_of number extension_of
both_codes s job at = f_codes_stand 3 at (ended (coding_text s job 3)) 2 2 2 2 refl refl refl refl refl refl refl refl refl

codes_stand : (s : Settings) (job : PictureJob) → (1 ≤ job.kind) × (job.kind ≤ 3) → FCodesStand s job job.kind
codes_stand s job kind = by_kind (FCodesStand s job) (intra_codes s job) (forward_codes s job) (both_codes s job) job.kind kind

structure_may : (scan : Scan) (n : ℕ) → HasStructure scan n → is_structure (is_progressive scan) n ≡ true
unfolding is_progressive
structure_may Progressive n e = rw e refl
structure_may Frames n e = rw e refl
structure_may Fields n (inl e) = rw e refl
structure_may Fields n (inr e) = rw e refl

structure_told : (n : ℕ) → (1 ≤ n) × (n ≤ 3) → number (bits_of 2 n) ≡ n
structure_told n h = number-bits_of 2 n ∙ (let e : n % 2 ^ 2 ≡ n = omega (arith, h.0, h.1) in e)

coding_fits : (s : Settings) (job : PictureJob) → IsJob job → PictureExtensionFits (extension_of s job)
unfolding extension_of
coding_fits s job h = record {
  f_code = record {
    shape = refl;
    forward_horizontal = cond_both (nat_eq job.kind 2 || nat_eq job.kind 3) 2 15 (λ (n : ℕ). n < 2 ^ 4) (λ e. omega arith) (λ e. omega arith);
    forward_vertical = cond_both (nat_eq job.kind 2 || nat_eq job.kind 3) 2 15 (λ (n : ℕ). n < 2 ^ 4) (λ e. omega arith) (λ e. omega arith);
    backward_horizontal = cond_both (nat_eq job.kind 3) 2 15 (λ (n : ℕ). n < 2 ^ 4) (λ e. omega arith) (λ e. omega arith);
    backward_vertical = cond_both (nat_eq job.kind 3) 2 15 (λ (n : ℕ). n < 2 ^ 4) (λ e. omega arith) (λ e. omega arith);
  };
  dc_precision = omega arith;
  structure = h.structure;
  composite = tt;
}

pub coding_stands : (s : Settings) (job : PictureJob) (delay : ℕ) → IsJob job → HasStructure s.scan job.structure
    → (whole_header (picture_extension_in (is_progressive s.scan) (picture_of job delay))).Stands (extension_of s job) (ended (picture_extension_text (extension_of s job))) []
unfolding number_from ended picture_extension_text flags_text composite_text bits_of number extension_of picture_of
coding_stands s job delay h has =
    coding_shows (is_progressive s.scan) (picture_of job delay) (extension_of s job) (number (bits_of 2 job.structure)) (coding_fits s job h)
    (codes_stand s job h.kind (length (ended (picture_extension_text (extension_of s job))))) refl
    (ap (is_structure (is_progressive s.scan)) (structure_told job.structure h.structure) ∙ structure_may s.scan job.structure has)

pub picture_id : (s : Settings) (job : PictureJob) → IdStands 8 (picture_extension_text (extension_of s job))
unfolding ended picture_extension_text flags_text composite_text bits_of extension_of
picture_id s job = refl
