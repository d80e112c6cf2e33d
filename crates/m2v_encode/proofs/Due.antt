-- A frame that was read, and why one wasn't; and the group that is due.
use Rattle.std.proofs.Common.{◌≡◌, ℕ, ◌+◌, ◌*◌, ◌<◌, ◌≤◌, inl, true, List, length, take, drop, Option, ap, ◌∙◌, arith}
use Rattle.std.specs.Prelude.{All, is_some}
use Rattle.std.proofs.Math.Nat.{mul-pos}
use Rattle.std.proofs.lemmas.List.{take-append-drop, length-append}
use Rattle.m2v_port.specs.Ends.{Change}
use Rattle.m2v_plane.specs.declared.dims.Dims.{Dims}
use Rattle.m2v_plane.specs.Sizes.{IsSize}
use Rattle.m2v_plane.specs.Raw.{frame_bytes}
use Rattle.m2v_plane.specs.Samples.{Samples}
use Rattle.m2v_set.specs.declared.settings.Settings.{Settings}
use Rattle.m2v_set.specs.Numbers.{dims_of}
use Rattle.m2v_set.specs.Rules.{Passes}
use Rattle.m2v_order.specs.declared.jobs.PictureJob.{PictureJob}
use Rattle.m2v_order.specs.declared.jobs.GroupJobs.{GroupJobs}
use Rattle.m2v_order.specs.Whole.{handed}
use Rattle.m2v_order.specs.Groups.{Queue, Group, first_of, is_due, group_size, group_of, anchor_before, after_group, IsSoundQueue}
use Rattle.m2v_order.proofs.Queues.{grouped, due_is, turn_is}
use Rattle.m2v_encode.specs.declared.measured.MeasuredGroup.{MeasuredGroup}
use Rattle.m2v_encode.specs.declared.answer.EncodeError.{EncodeError}
use Rattle.m2v_encode.specs.declared.answer.EncodeError.TheVariants.{Read, Write, ShortFrame, NoFrames, TooManyFrames, Memory}
use Rattle.m2v_encode.specs.Steps.{ReadStops, FrameStops, CanCode, GroupOut}
use Rattle.m2v_law_shown.proofs.m2v_enc_stream.Queues.{before_some}

pub some_bytes : (d : Dims) → IsSize d → 0 < frame_bytes d
some_bytes d is = let some : 0 < d.width * d.height = mul-pos (omega (arith, is.wide)) (omega (arith, is.tall)) in omega (arith, some)

-- a frame that wasn't read
pub frame_lost : (s : Settings) (left : Change) (e : EncodeError) → ReadStops (frame_bytes (dims_of s)) left e → FrameStops s left e
unfolding ReadStops FrameStops
frame_lost s left Read h = h
frame_lost s left Write h = absurd h
frame_lost s left (ShortFrame extra) h = absurd h
frame_lost s left NoFrames h = absurd h
frame_lost s left TooManyFrames h = absurd h
frame_lost s left Memory h = inl h

-- ---- the group that is due

same_group : (g : Group Samples) (h : Group Samples) → g.frames ≡ h.frames → g.pictures ≡ h.pictures → g.before ≡ h.before → g ≡ h
same_group g h e f k =
    let a : Group Samples = record { frames = h.frames; pictures = g.pictures; before = g.before } in
    ap (λ (x : List Samples). record { frames = x; pictures = g.pictures; before = g.before }) e
    ∙ ap (λ (x : List PictureJob). record { frames = h.frames; pictures = x; before = g.before }) f
    ∙ ap (λ (x : Option ℕ). record { frames = h.frames; pictures = h.pictures; before = x }) k

pub before_is : (q : Queue Samples) (o : Option ℕ) → o ≡ (group_of q).before → o ≡ anchor_before (first_of q)
unfolding group_of
before_is q o e = e

frames_few : (q : Queue Samples) → length (group_of q).frames ≤ length q.frames
unfolding group_of
frames_few q = omega (arith, ap length (take-append-drop (group_size q) q.frames), length-append (take (group_size q) q.frames) (drop (group_size q) q.frames))

pub early_is : (q : Queue Samples) (jobs : List PictureJob) (frames : List Samples) → IsSoundQueue q → q.pushed < 1000000 → frames ≡ (group_of q).frames
    → All (λ (j : PictureJob). (j.display ≡ first_of q + j.frame) × (j.frame < length frames)) jobs → All (λ (j : PictureJob). j.display < 1000000) jobs
early_is q jobs frames sound pushed same places = λ k d lt.
    let at = places k d lt in
    omega (arith, at.0, at.1, ap length same, frames_few q, sound.room, pushed)

-- what a queue handed out
pub group_out : (s : Settings) (q last : Queue Samples) (g : GroupJobs) (m : MeasuredGroup) → is_due q ≡ true
    → g.frames.items ≡ (group_of q).frames → g.pictures.items ≡ (group_of q).pictures → g.before ≡ (group_of q).before → last ≡ after_group q
    → m.group ≡ g → CanCode s m → GroupOut s q last m
group_out s q last g m due frames pictures before after same code = record {
  due = due;
  is = ap handed same ∙ same_group (handed g) (group_of q) frames pictures before;
  after = after;
  group = code;
}

pub after_some : (q r : Queue Samples) → Passes q.settings → IsSoundQueue q → is_due q ≡ true → r ≡ after_group q → is_some (anchor_before (first_of r)) ≡ true
after_some q r passes sound is same =
    let turn = turn_is q (grouped q.settings passes) sound (due_is q is) in
    ap (λ (x : Queue Samples). is_some (anchor_before (first_of x))) same
    ∙ before_some (first_of (after_group q)) (omega (arith, turn.after, turn.past, turn.low))
