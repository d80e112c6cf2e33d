-- Whether a sequence has an account of the decoder's buffer, at which rate, and how it begins (Annex C).
use Rattle.std.specs.Prelude.{ℕ, ◌*◌, ◌≤◌, ◌<◌, ◌^◌, Bool, true, false, ◌&&◌, nat_eq, nat_le, if◌then◌else◌, [], ◌∷◌, Option, Some, None}
use Rattle.m2v_set.specs.Numbers.{frame_time}
use Rattle.m2v_vbv.specs.Annex.{Start}
use Rattle.m2v_vbv.specs.Buffer.{Buffer, constant_start, variable_start}
use Rattle.m2v_model.specs.declared.state.Sequence.{Sequence}
use Rattle.m2v_model.specs.declared.notes.PictureNote.{PictureNote}
use Rattle.m2v_model.specs.Lawful.{Breaches, rate_of, buffer_of, rate_rule, buffer_rule}
use Rattle.m2v_audit.specs.declared.words.RateKind.{RateKind}
use Rattle.m2v_audit.specs.declared.words.RateKind.TheVariants.{Constant, Variable, NoAccount}

-- ---- whether there is an account

-- nothing breaks a rule
abbrev pub keeps : Breaches → Bool
keeps [] = true
keeps (b ∷ bs) = false

-- a frame rate of table 6-4, which no extension changes
abbrev pub has_frame_rate : Sequence → Bool
has_frame_rate s =
    (nat_le 1 s.info.frame_rate_code && nat_le s.info.frame_rate_code 8)
    && (nat_eq s.extension.rate_n 0 && nat_eq s.extension.rate_d 0)

-- by its first sequence header: its rate and its buffer keep the rules on them (6 and 7), and it has a frame rate
abbrev pub has_account : Sequence → Bool
has_account s = (keeps (rate_rule s) && keeps (buffer_rule s)) && has_frame_rate s

-- the rate varies where the first vbv_delay says so (clause 6.3.9)
abbrev pub varies : PictureNote → Bool
varies p = nat_eq p.info.vbv_delay 65535

-- the rate of a sequence, by its first sequence header and its first picture, if it has one
abbrev pub kind_of : Sequence → Option PictureNote → RateKind
kind_of s None = NoAccount
kind_of s (Some p) = if has_account s then (if varies p then Variable else Constant) else NoAccount

-- ---- how it begins

abbrev pub buffer_bits_of : Sequence → ℕ
buffer_bits_of s = 16384 * buffer_of s

-- the step in which a decoder waits for a picture that isn't whole: two fields where low_delay is 1 (C.7), and else a unit
-- of time
abbrev pub step_of : Sequence → ℕ
step_of s = if s.extension.low_delay then frame_time s.info.frame_rate_code else 1

-- the starting numbers, so many bits standing up to the end of the first picture start code
abbrev pub start_of : Sequence → PictureNote → ℕ → Start
start_of s p bits = record { k = rate_of s; buffer_bits = buffer_bits_of s; s = bits; delay = p.info.vbv_delay }

-- the buffer when the first picture is due
abbrev pub buffer_at_first : Sequence → PictureNote → ℕ → Buffer
buffer_at_first s p bits =
    if varies p then variable_start (rate_of s) (buffer_bits_of s) (step_of s)
    else constant_start (start_of s p bits) (step_of s)

-- the same, where there is an account
abbrev pub first_buffer : Sequence → PictureNote → ℕ → Option Buffer
first_buffer s p bits = if has_account s then Some (buffer_at_first s p bits) else None

-- ---- what is known where there is one

-- the numbers are such that an account can go on with them
pub record CanBegin (s : Sequence) : Type 0 where
  pub rate : 1 ≤ rate_of s
  pub rates : rate_of s < 2 ^ 30
  pub buffer : buffer_bits_of s ≤ 2 ^ 33
  pub step : 1 ≤ step_of s
