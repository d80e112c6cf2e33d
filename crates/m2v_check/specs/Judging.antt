-- What stands of the rules and of the account between two pieces.
use Rattle.std.specs.Prelude.{◌≡◌, ℕ, ◌+◌, ◌*◌, ◌^◌, ◌<◌, ◌≤◌, Bool, if◌then◌else◌, List, [], ◌∷◌, Option, Some, None, Result, Ok, Err, IsSome, false, ◌-◌, ◌/◌, max}
use Rattle.m2v_head.specs.declared.sequence.SequenceInfo.{SequenceInfo}
use Rattle.m2v_head.specs.declared.sequence.SequenceExtension.{SequenceExtension}
use Rattle.m2v_model.specs.declared.state.Sequence.{Sequence}
use Rattle.m2v_model.specs.declared.notes.Notes.{Notes}
use Rattle.m2v_model.specs.declared.notes.PictureNote.{PictureNote}
use Rattle.m2v_check.specs.declared.rules.Rules.{Rules}
use Rattle.m2v_check.specs.declared.buffer.Buffer.{Buffer}
use Rattle.m2v_check.specs.declared.buffer.Setup.{Setup}
use Rattle.m2v_vbv.specs.Account.{opening}
use Rattle.m2v_vbv.specs.declared.fault.AccountFault.{AccountFault}
use Rattle.m2v_check.specs.declared.broken.BrokenRule.{BrokenRule}
use Rattle.m2v_check.specs.declared.coded.CodedPicture.{CodedPicture}
use Rattle.m2v_check.specs.declared.amounts.Amount.{Amount}
use Rattle.m2v_check.specs.declared.times.Times.{Times}
use Rattle.m2v_check.specs.declared.course.Next.{Next}
use Rattle.m2v_check.specs.declared.course.Course.{Course}
use Rattle.m2v_check.specs.declared.buffer.BufferFigures.{BufferFigures}
use Rattle.m2v_check.specs.declared.judge.Judgement.{Judgement}
use Rattle.m2v_check.specs.declared.judge.Judgement.TheVariants as judgements
use Rattle.m2v_model.specs.Lawful.{rate_of, buffer_of, sequence_breaches}
use Rattle.m2v_check.specs.Breaking.{numbered_of, found}
use Rattle.m2v_check.specs.Holding.{stepped, with_more, repeats_behind, cut_at, most_with, amount_by, removed_by, over_by, is_over, time_behind}
use Rattle.m2v_check.specs.Running.{with_sequence, with_group, with_picture, coded_next}

-- a picture whose start code ends within its piece, and not before the piece could have one; its vbv_delay has 16 bits
pub record IsPlaced (n : PictureNote) (place length : ℕ) : Type 0 where
  pub least : 8 * place + 32 ≤ n.code_end
  pub most : n.code_end ≤ 8 * place + 8 * length
  pub delay : n.info.vbv_delay < 2 ^ 16

-- the bits of the account, where there is one
abbrev pub total_of : Option Buffer → ℕ
total_of None = 0
total_of (Some b) = b.course.total

-- the numbers of a sequence that breaks no rule
pub record FitsSetup (s : Setup) : Type 0 where
  pub rate : 1 ≤ s.rate
  pub rates : s.rate < 2 ^ 30
  pub buffer : s.buffer ≤ 2 ^ 19

-- the rules behind sequence headers, behind the headers of a piece, and behind its picture
abbrev pub noted_rules : Rules → List (SequenceInfo × SequenceExtension) → Rules
noted_rules r [] = r
noted_rules r (s ∷ ss) = noted_rules (with_sequence r (record { info = s.0; extension = s.1 })) ss

abbrev pub judged_rules : Rules → Notes → Rules
judged_rules r n = if n.group then with_group (noted_rules r n.sequences.items) else noted_rules r n.sequences.items

abbrev pub with_one : Rules → Option Sequence → PictureNote → Rules
with_one r None note = r
with_one r (Some s) note = with_picture r (coded_next r s note)

abbrev pub with_note : Rules → Option PictureNote → Rules
with_note r None = r
with_note r (Some note) = with_one r r.sequence note

-- ---- the account

-- the picture that is removed next
abbrev pub next_of : Times → CodedPicture → ℕ → ℕ → Next
next_of times p bits code = record { bits = bits; code = code; units = time_behind times (numbered_of p); delay = p.note.info.vbv_delay }

-- the account with its first picture
abbrev pub opening_of : Setup → Times → CodedPicture → ℕ → ℕ → Course
opening_of s times p bits code = record {
  size = 1800 * (16384 * s.buffer);
  account = opening (record { k = s.rate; buffer_bits = 16384 * s.buffer; s = code; delay = p.note.info.vbv_delay });
  pictures = 0;
  removed = 0;
  total = bits;
  next = next_of times p bits code;
  delays = 0;
  full = None;
  under = None;
}

-- the most that is held, with what was held when one picture more was removed
abbrev pub most_noted : ℕ → ℕ → Option Amount → ℕ
most_noted total most None = most
most_noted total most (Some a) = max most (cut_at total a)

abbrev pub most_in : ℕ → Buffer → ℕ
most_in total b = most_with total b.amounts.most b.amounts.waiting.items

-- the figures, or how the account fails first: by what is held before by what a later picture takes
abbrev pub finished : Option AccountFault → Option AccountFault → ℕ → ℕ → Result BufferFigures AccountFault
finished (Some f) under most delays = Err f
finished None (Some f) most delays = Err f
finished None None most delays = Ok (record { low = 0; high = most / 1800; delays = delays })

-- the last picture is removed
abbrev pub last_of : Course → Course
last_of c = removed_by c.under c

abbrev pub buffer_ended : Buffer → Result BufferFigures AccountFault
buffer_ended b =
    let c = last_of b.course in
    finished (over_by c.full c.total) c.under (most_noted c.total (most_in c.total b) (amount_by b.course.under b.course)) c.delays

abbrev pub ended_by : Option Buffer → Result BufferFigures AccountFault
ended_by None = Ok (record { low = 0; high = 0; delays = 0 })
ended_by (Some b) = buffer_ended b

-- the times of a stream by its first sequence header
abbrev pub times_of : Sequence → Times
times_of s = record { low_delay = s.extension.low_delay; code = s.info.frame_rate_code; repeats = false }

-- ---- what is said

abbrev pub said_of : Result BufferFigures AccountFault → Judgement
said_of (Ok figures) = judgements.Lawful figures
said_of (Err f) = judgements.Unsafe f

-- a broken rule comes first, and of a stream at variable rate nothing is said of the buffer
abbrev pub judgement_of : Option BrokenRule → Bool → Result BufferFigures AccountFault → Judgement
judgement_of (Some b) constant buffer = judgements.Unlawful b
judgement_of None constant buffer = if constant then said_of buffer else judgements.Variable

-- ---- piece by piece

-- a piece with a picture came: the account goes on with it; what is held is kept as long as the account may bear it
pub record GoesOn (old : Buffer) (p : CodedPicture) (bits code : ℕ) (new : Buffer) : Type 0 where
  pub course : new.course ≡ stepped old.course (next_of old.times p bits code)
  pub times : new.times ≡ record old.times { repeats = repeats_behind old.times (numbered_of p) }
  pub most : is_over new.course ≡ false → (t : ℕ) → new.course.total ≤ t → most_in t new ≡ most_noted t (most_in t old) (amount_by old.course.under old.course)

-- the account begins, with the numbers of the first sequence header
pub record Begins (first : Sequence) (p : CodedPicture) (bits code : ℕ) (new : Buffer) : Type 0 where
  pub course : new.course ≡ opening_of (record { rate = rate_of first; buffer = buffer_of first }) (times_of first) p bits code
  pub times : new.times ≡ record (times_of first) { repeats = repeats_behind (times_of first) (numbered_of p) }
  pub most : (t : ℕ) → most_in t new ≡ 0

-- a piece without a picture came
pub record HasMore (old : Buffer) (bits : ℕ) (new : Buffer) : Type 0 where
  pub course : new.course ≡ with_more old.course bits
  pub times : new.times ≡ old.times
  pub amounts : new.amounts ≡ old.amounts

-- where there is an account, it has more bits of its last picture
abbrev pub HaveMore : Option Buffer → ℕ → Option Buffer → Type 0
HaveMore None bits new = new ≡ None
HaveMore (Some b) bits None = ⊥
HaveMore (Some b) bits (Some d) = HasMore b bits d

-- the account of the first picture: there is one where the first sequence header breaks no rule
abbrev pub BeginsBy : Option Sequence → CodedPicture → ℕ → ℕ → Option Buffer → Type 0
BeginsBy None p bits code new = new ≡ None
BeginsBy (Some first) p bits code None = IsSome (found (sequence_breaches (first ∷ [])))
BeginsBy (Some first) p bits code (Some b) = (found (sequence_breaches (first ∷ [])) ≡ None) × Begins first p bits code b

-- a picture came
abbrev pub Accounts : Option Sequence → Option Buffer → CodedPicture → ℕ → ℕ → Option Buffer → Type 0
Accounts first None p bits code new = (p.number ≡ 0 → BeginsBy first p bits code new) × (0 < p.number → new ≡ None)
Accounts first (Some b) p bits code None = ⊥
Accounts first (Some b) p bits code (Some d) = GoesOn b p bits code d

-- a piece with a picture came, behind which a sequence header stands or doesn't
abbrev pub AccountsBy : Option Sequence → Rules → Option Buffer → PictureNote → ℕ → ℕ → Option Buffer → Type 0
AccountsBy None r b note place length new = new ≡ b
AccountsBy (Some s) r b note place length new = Accounts r.first b (coded_next r s note) (8 * length) (note.code_end - 8 * place) new

-- a piece came
abbrev pub AccountsNote : Rules → Option Buffer → Option PictureNote → ℕ → ℕ → Option Buffer → Type 0
AccountsNote r b None place length new = HaveMore b (8 * length) new
AccountsNote r b (Some note) place length new = AccountsBy r.sequence r b note place length new
