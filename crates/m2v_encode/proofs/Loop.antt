-- The main loop: where it begins, and the queue from frame to frame.
use Rattle.std.proofs.Common.{◌≡◌, ℕ, ◌+◌, ◌-◌, ◌*◌, ◌^◌, ◌<◌, ◌≤◌, inl, inr, Bool, true, false, List, length, Option, Some, None, Ok, Err, refl, sym, subst, ap, ◌∙◌, arith}
use Rattle.std.specs.Prelude.{IfSome, IfNone, is_some, nat_lt, ◌||◌, vec_len}
use Rattle.std.proofs.lemmas.Bool.{cases_lt, lt-ltb, and_from}
use Rattle.std.proofs.Math.Bool.{or-true}
use Rattle.m2v_port.specs.Ends.{Change, change}
use Rattle.m2v_port.specs.Port.{IsAtEnd}
use Rattle.m2v_plane.specs.Raw.{frame_bytes, pad}
use Rattle.m2v_plane.specs.Samples.{Samples}
use Rattle.m2v_set.specs.declared.settings.Settings.{Settings}
use Rattle.m2v_set.specs.Numbers.{dims_of}
use Rattle.m2v_set.specs.Rules.{Passes}
use Rattle.m2v_order.specs.Groups.{Queue, Group, opening, first_of, intra_from, next_intra, is_due, group_of, anchor_before, after_push, after_group, IsSoundQueue}
use Rattle.m2v_order.specs.Whole.{handed}
use Rattle.m2v_order.proofs.Queues.{grouped, push_first, sound_push, sound_next, due_is, turn_is, next_is, true_false}
use Rattle.m2v_order.proofs.Wholes.{group_is}
use Rattle.m2v_rate.specs.Plans.{Entries, account_at, fresh}
use Rattle.m2v_rate.specs.Steady.{IsSteady}
use Rattle.m2v_rate.proofs.Places.{fresh_place}
use Rattle.m2v_rate.proofs.Streams.{fresh_ledger}
use Rattle.m2v_encode.specs.declared.answer.Summary.{Summary}
use Rattle.m2v_encode.specs.declared.answer.EncodeError.{EncodeError}
use Rattle.m2v_encode.specs.declared.answer.EncodeError.TheVariants.{Memory}
use Rattle.m2v_encode.specs.declared.group.Coder.{Coder}
use Rattle.m2v_encode.specs.declared.intake.Intake.{Intake}
use Rattle.m2v_encode.specs.declared.measured.MeasuredGroup.{MeasuredGroup}
use Rattle.m2v_encode.specs.Answers.{most_frames, Stops}
use Rattle.m2v_encode.specs.Groups.{IsPlace}
use Rattle.m2v_encode.specs.Steps.{FrameRead, NoneRead, FrameStops, GoesOn, CanCode, CanRead, GroupOut, HandsOut, ReadsOn, ReadsNext, Comes, BesideStops, GroupCoded, GroupStops, SoFar, book_by}
use Rattle.m2v_encode.proofs.Due.{before_is, after_some}
use Rattle.m2v_encode.proofs.Ends.{none_false}
use Rattle.m2v_encode.proofs.Readings.{reads_end, reads_on, reads_frame, reads_count, reads_first}
use Rattle.m2v_encode.proofs.Progress.{so_far_reads, so_far_group, reading_stopped, group_stopped}

-- ---- the start

opening_first : (s : Settings) → (let q : Queue Samples = opening s in is_some (anchor_before (first_of q)) ≡ false)
unfolding anchor_before
opening_first s = refl

pub goes_fresh : (c : Coder) (q : Queue Samples) → Passes c.settings → c.ledger ≡ fresh c.settings → c.before ≡ None
    → c.total ≡ record { frames = 0; pictures = 0; bytes = 0; stuffing = 0 } → q ≡ opening c.settings → GoesOn c (is_some (anchor_before (first_of q)))
goes_fresh c q passes ledger before total queue = record {
  settings = ap (λ (l : Entries). l.settings) ledger;
  steady = subst IsSteady (sym ledger) (fresh_ledger c.settings passes).steady;
  known = ap (λ (l : Entries). length l.sizes) ledger ∙ sym (ap (λ (l : Entries). length l.kinds) ledger);
  removals = ap (λ (l : Entries). l.account.removals + length l.kinds) ledger ∙ sym (ap (λ (t : Summary). t.pictures) total);
  place = subst (λ (l : Entries). IsPlace c.settings (account_at l (length l.kinds)) (8 * c.total.bytes)) (sym ledger)
      (subst (λ (t : Summary). IsPlace c.settings (account_at (fresh c.settings) 0) (8 * t.bytes)) (sym total) (fresh_place c.settings));
  before = ap (λ (o : Option Samples). is_some o) before ∙ sym (ap (λ (x : Queue Samples). is_some (anchor_before (first_of x))) queue ∙ opening_first c.settings);
  size = subst (λ (o : Option Samples). IfSome o (λ f. f.dims ≡ dims_of c.settings)) (sym before) tt;
}

pub opening_rest : (s : Settings) → (let q : Queue Samples = opening s in is_due q ≡ false)
unfolding is_due
opening_rest s = refl

-- ---- a frame more, and the group that is due then

due_by : (q : Queue Samples) → 0 < length q.frames → next_intra q < q.pushed → is_due q ≡ true
unfolding is_due
due_by q some next =
    and_from (nat_lt 0 (length q.frames)) (q.ended || nat_lt (next_intra q) q.pushed) (lt-ltb 0 (length q.frames) some)
    (ap (λ (t : Bool). q.ended || t) (lt-ltb (next_intra q) q.pushed next) ∙ or-true q.ended)

-- where no group is due, the next I frame is still to come
rest_high : (q : Queue Samples) → is_due q ≡ false → 0 < length q.frames → q.pushed ≤ next_intra q
rest_high q rest some = elim (cases_lt (next_intra q) q.pushed) [
  | inl next ↦ absurd (true_false (is_due q) (due_by q some next) rest)
  | inr high ↦ high
]

-- so a frame more makes one group due at most
due_once : (q : Queue Samples) (f : Samples) → Passes q.settings → IsSoundQueue q → q.ended ≡ false → is_due q ≡ false
    → is_due (after_push q f) ≡ true → is_due (after_group (after_push q f)) ≡ true → ⊥
due_once q f passes sound going rest is again =
    let s = q.settings in
    let p = after_push q f in
    let ok = grouped s passes in
    let turn = turn_is p ok (sound_push q f ok sound going) (due_is p is) in
    let behind : next_intra (after_group p) ≡ next_intra p + s.group =
    ap (λ (n : ℕ). intra_from s n + s.group) turn.after ∙ ap (λ (n : ℕ). n + s.group) (next_is p ok turn) in
    let same : next_intra p ≡ next_intra q = ap (λ (n : ℕ). intra_from s n + s.group) (push_first q f sound) in
    let some = ok.group in
    elim ((due_is (after_group p) again).next) [
      | inl ended ↦ true_false q.ended ended going
      | inr next ↦ elim (cases_lt 0 (length q.frames)) [
        | inl frames ↦ omega (arith, rest_high q rest frames, same, behind, next, some)
        | inr none ↦ omega (arith, sound.none (omega (arith, none)) going, same, behind, next, some)
      ]
    ]

pub sound_read : (s : Settings) (q p : Queue Samples) (left : Change) → Passes s → q.settings ≡ s → IsSoundQueue q → q.ended ≡ false → FrameRead s q p left → IsSoundQueue p
sound_read s q p left passes e sound going read =
    subst IsSoundQueue (sym read.pushed) (sound_push q (pad (dims_of s) read.frame) (grouped q.settings (subst Passes (sym e) passes)) sound going)

-- a frame more waits, and no group is due
can_frame : (t u : Intake) (left : Change) → Passes t.settings → CanRead t → t.count < most_frames → FrameRead t.settings t.queue u.queue left
    → u.count ≡ t.count + 1 → u.settings ≡ t.settings → vec_len u.raw ≡ frame_bytes (dims_of u.settings) → is_due u.queue ≡ false → CanRead u
can_frame t u left passes can few read count same raw rest = record {
  raw = raw;
  settings = ap (λ (q : Queue Samples). q.settings) read.pushed ∙ can.settings ∙ sym same;
  going = ap (λ (q : Queue Samples). q.ended) read.pushed ∙ can.going;
  count = omega (arith, ap (λ (q : Queue Samples). q.pushed) read.pushed, can.count, count);
  most = omega (arith, count, few);
  sound = sound_read t.settings t.queue u.queue left passes can.settings can.sound can.going read;
  rest = rest;
}

-- a group was due with it, and was handed out
can_group : (t u v : Intake) (g : MeasuredGroup) (left : Change) → Passes t.settings → CanRead t → t.count < most_frames → FrameRead t.settings t.queue u.queue left
    → u.count ≡ t.count + 1 → u.settings ≡ t.settings → vec_len u.raw ≡ frame_bytes (dims_of u.settings) → GroupOut u.settings u.queue v.queue g
    → v.count ≡ u.count → v.settings ≡ u.settings → vec_len v.raw ≡ vec_len u.raw → CanRead v
can_group t u v g left passes can few read count same raw out kept settings buffer =
    let q = t.queue in
    let p = u.queue in
    let pass : Passes q.settings = subst Passes (sym can.settings) passes in
    let is : p.settings ≡ q.settings = ap (λ (x : Queue Samples). x.settings) read.pushed in
    let ok = grouped p.settings (subst Passes (sym is) pass) in
    let sound = sound_read t.settings q p left passes can.settings can.sound can.going read in
    let turn = turn_is p ok sound (due_is p out.due) in
    record {
      raw = buffer ∙ raw ∙ ap (λ (s : Settings). frame_bytes (dims_of s)) (sym settings);
      settings = ap (λ (x : Queue Samples). x.settings) out.after ∙ is ∙ can.settings ∙ sym same ∙ sym settings;
      going = ap (λ (x : Queue Samples). x.ended) out.after ∙ ap (λ (x : Queue Samples). x.ended) read.pushed ∙ can.going;
      count = omega (arith, ap (λ (x : Queue Samples). x.pushed) out.after, ap (λ (x : Queue Samples). x.pushed) read.pushed, can.count, count, kept);
      most = omega (arith, count, few, kept);
      sound = subst IsSoundQueue (sym out.after) (sound_next p ok (due_is p out.due) turn);
      rest = ap (λ (x : Queue Samples). is_due x) out.after ∙ none_false (is_due (after_group p)) (λ again.
          due_once q (pad (dims_of t.settings) read.frame) pass can.sound can.going can.rest (subst (λ (x : Queue Samples). is_due x ≡ true) read.pushed out.due)
          (subst (λ (x : Queue Samples). is_due (after_group x) ≡ true) read.pushed again));
    }

-- the queue is as it was
can_same : (t u : Intake) → CanRead t → u.queue ≡ t.queue → u.count ≡ t.count → u.settings ≡ t.settings → vec_len u.raw ≡ frame_bytes (dims_of u.settings) → CanRead u
can_same t u can queue count same raw = record {
  raw = raw;
  settings = ap (λ (q : Queue Samples). q.settings) queue ∙ can.settings ∙ sym same;
  going = ap (λ (q : Queue Samples). q.ended) queue ∙ can.going;
  count = omega (arith, ap (λ (q : Queue Samples). q.pushed) queue, can.count, count);
  most = omega (arith, count, can.most);
  sound = subst IsSoundQueue (sym queue) can.sound;
  rest = ap (λ (q : Queue Samples). is_due q) queue ∙ can.rest;
}

-- ---- up to the next group

-- The frames behind an intake's old state were read up to t, one more with u, and v is what stands at the end.
module _ {S : Type 0} (left : S → Option (List ℕ)) (faults : S → ℕ) where
  -- the input has ended
  pub next_ended : (old t u : Intake) (i0 i1 i2 : S) → ReadsOn left faults old.settings old.queue t.queue i0 i1 → CanRead t → t.settings ≡ old.settings
      → NoneRead t.queue u.queue (change left faults i1 i2) → faults i1 ≤ faults i2 → u.count ≡ t.count → u.settings ≡ t.settings → vec_len u.raw ≡ frame_bytes (dims_of u.settings)
      → ReadsNext left faults old u i0 i2 (Ok None)
  unfolding HandsOut
  next_ended old t u i0 i1 i2 reads can settings none rises count same raw = record {
    ok = record {
      queue = t.queue;
      reads = reads_on left faults old.settings old.queue t.queue t.queue i0 i1 i2 reads (reads_end left faults old.settings t.queue i1 i2 can.going rises none.moved);
      most = omega (arith, can.count, can.most);
      sound = can.sound;
      out = record { rest = can.rest; same = none.same; end = λ few. none.end };
      more = λ some. absurd (true_false true refl (sym some));
    };
    ready = can_same t u can none.same count same raw;
    err = tt;
    settings = same ∙ settings;
    rises = omega (arith, reads.rises, rises);
  }

  -- there were the most frames
  pub next_full : (old t : Intake) (i0 i1 : S) → ReadsOn left faults old.settings old.queue t.queue i0 i1 → CanRead t → t.settings ≡ old.settings → most_frames ≤ t.count
      → ReadsNext left faults old t i0 i1 (Ok None)
  unfolding HandsOut
  next_full old t i0 i1 reads can settings all = record {
    ok = record {
      queue = t.queue;
      reads = reads;
      most = omega (arith, can.count, can.most);
      sound = can.sound;
      out = record { rest = can.rest; same = refl; end = λ few. absurd (omega (arith, few, can.count, all)) };
      more = λ some. absurd (true_false true refl (sym some));
    };
    ready = can;
    err = tt;
    settings = settings;
    rises = reads.rises;
  }

  -- a group was due, and there was no room to hand it out
  pub next_lost : (old t u v : Intake) (i0 i1 i2 : S) → ReadsOn left faults old.settings old.queue t.queue i0 i1 → CanRead t → t.settings ≡ old.settings → t.count < most_frames
      → FrameRead t.settings t.queue u.queue (change left faults i1 i2) → faults i1 ≤ faults i2 → v.settings ≡ old.settings → ReadsNext left faults old v i0 i2 (Err Memory)
  unfolding FrameStops
  next_lost old t u v i0 i1 i2 reads can settings few read rises same = record {
    ok = tt;
    ready = tt;
    err = record {
      queue = t.queue;
      between = i1;
      reads = reads;
      sound = can.sound;
      rest = can.rest;
      fewer = omega (arith, few, can.count);
      stops = inr (record { frame = read.frame; whole = subst (λ (s : Settings). length read.frame ≡ frame_bytes (dims_of s)) settings read.whole; moved = read.moved });
    };
    settings = same;
    rises = omega (arith, reads.rises, rises);
  }

  reads_more : (old t u : Intake) (i0 i1 i2 : S) → ReadsOn left faults old.settings old.queue t.queue i0 i1 → CanRead t → t.settings ≡ old.settings
      → FrameRead t.settings t.queue u.queue (change left faults i1 i2) → faults i1 ≤ faults i2 → ReadsOn left faults old.settings old.queue u.queue i0 i2
  reads_more old t u i0 i1 i2 reads can settings read rises =
      reads_on left faults old.settings old.queue t.queue u.queue i0 i1 i2 reads
      (reads_frame left faults old.settings t.queue u.queue i1 i2 can.going rises (subst (λ (s : Settings). FrameRead s t.queue u.queue (change left faults i1 i2)) settings read))

  -- a group was due, and was handed out
  pub next_due : (old t u v : Intake) (next : Option MeasuredGroup) (i0 i1 i2 : S) → Passes old.settings → ReadsOn left faults old.settings old.queue t.queue i0 i1 → CanRead t → t.settings ≡ old.settings
      → t.count < most_frames → FrameRead t.settings t.queue u.queue (change left faults i1 i2) → faults i1 ≤ faults i2
      → u.count ≡ t.count + 1 → u.settings ≡ t.settings → vec_len u.raw ≡ frame_bytes (dims_of u.settings) → IfSome next (GroupOut u.settings u.queue v.queue)
      → v.count ≡ u.count → v.settings ≡ u.settings → vec_len v.raw ≡ vec_len u.raw → is_some next ≡ true → ReadsNext left faults old v i0 i2 (Ok next)
  unfolding HandsOut
  next_due old t u v (Some g) i0 i1 i2 passes reads can settings few read rises count same raw out kept alike buffer some =
      let pass : Passes t.settings = subst Passes (sym settings) passes in
      let pushed = ap (λ (q : Queue Samples). q.pushed) read.pushed in
      let all = reads_more old t u i0 i1 i2 reads can settings read rises in
      record {
        ok = record {
          queue = u.queue;
          reads = all;
          most = omega (arith, pushed, can.count, few);
          sound = sound_read t.settings t.queue u.queue (change left faults i1 i2) pass can.settings can.sound can.going read;
          out = subst (λ (s : Settings). GroupOut s u.queue v.queue g) (same ∙ settings) out;
          more = λ yes. omega (arith, pushed, (reads_count left faults old.settings old.queue t.queue i0 i1 reads).0);
        };
        ready = can_group t u v g (change left faults i1 i2) pass can few read count same raw out kept alike buffer;
        err = tt;
        settings = alike ∙ same ∙ settings;
        rises = all.rises;
      }
  next_due old t u v None i0 i1 i2 passes reads can settings few read rises count same raw out kept alike buffer some = absurd (true_false true refl (sym some))

  -- no group was due
  pub next_on : (old t u v : Intake) (next : Option MeasuredGroup) (i0 i1 i2 : S) → Passes old.settings → ReadsOn left faults old.settings old.queue t.queue i0 i1 → CanRead t → t.settings ≡ old.settings
      → t.count < most_frames → FrameRead t.settings t.queue u.queue (change left faults i1 i2) → faults i1 ≤ faults i2
      → u.count ≡ t.count + 1 → u.settings ≡ t.settings → vec_len u.raw ≡ frame_bytes (dims_of u.settings) → IfNone next ((is_due u.queue ≡ false) × (v ≡ u)) → is_some next ≡ false
      → ReadsOn left faults old.settings old.queue v.queue i0 i2 × CanRead v
  next_on old t u v None i0 i1 i2 passes reads can settings few read rises count same raw out none = (
    subst (λ (x : Intake). ReadsOn left faults old.settings old.queue x.queue i0 i2) (sym out.1) (reads_more old t u i0 i1 i2 reads can settings read rises),
    subst CanRead (sym out.1) (can_frame t u (change left faults i1 i2) (subst Passes (sym settings) passes) can few read count same raw out.0),
  )
  next_on old t u v (Some g) i0 i1 i2 passes reads can settings few read rises count same raw out none = absurd (true_false true refl none)

-- ---- from group to group

-- how many groups can come yet, at most
abbrev pub turns_left : Option MeasuredGroup → ℕ → ℕ
turns_left (Some g) count = 1000000 - count
turns_left None count = 0

pub turns_fall : (next : Option MeasuredGroup) (a b : ℕ) → a ≤ most_frames → (is_some next ≡ true → a < b) → turns_left next b < 1000000 - a
turns_fall (Some g) a b most more = omega (arith, more refl, most)
turns_fall None a b most more = omega (arith, most)

-- A coder stands where a group was handed out, or none will be before the end; the frames up to there were read.
pub record Waits (s : Settings) (c : Coder) (last : Queue Samples) (next : Option MeasuredGroup) (left held recon : Change) : Type 0 where
  pub queue : Queue Samples
  pub far : SoFar s c queue left held recon
  pub sound : IsSoundQueue queue
  pub most : queue.pushed ≤ most_frames
  pub out : HandsOut s queue last left.new next
  pub goes : GoesOn c (is_some (anchor_before (first_of queue)))
  pub pictures : c.total.pictures + 126 * length queue.frames ≤ 126 * queue.pushed
  pub bytes : c.total.bytes ≤ 2 ^ 21 * c.total.pictures
  pub stuffing : c.total.stuffing ≤ c.total.bytes

coded_few : (s : Settings) (q : Queue Samples) (c d : Coder) (held recon : Change) → Passes s → q.settings ≡ s → IsSoundQueue q → is_due q ≡ true
    → GroupCoded c d (book_by c (group_of q)) false held recon → c.total.pictures + 126 * length q.frames ≤ 126 * q.pushed
    → d.total.pictures + 126 * length (after_group q).frames ≤ 126 * q.pushed
unfolding group_of
coded_few s q c d held recon passes e sound is coded before =
    let pass : Passes q.settings = subst Passes (sym e) passes in
    let turn = turn_is q (grouped q.settings pass) sound (due_is q is) in
    let few = (group_is q pass sound is).pictures in
    omega (arith, coded.pictures, few, turn.left, turn.past, turn.low, sound.room, before)

-- where no group will be due before the end
pub waits_last : (s : Settings) (c : Coder) (last : Queue Samples) (left held recon : Change) → (w : Waits s c last None left held recon)
    → SoFar s c last left held recon × GoesOn c (is_some (anchor_before (first_of last))) × (last.pushed < most_frames → IsAtEnd left.new)
unfolding HandsOut
waits_last s c last left held recon w = (
  subst (λ (q : Queue Samples). SoFar s c q left held recon) (sym w.out.same) w.far,
  subst (λ (q : Queue Samples). GoesOn c (is_some (anchor_before (first_of q)))) (sym w.out.same) w.goes,
  λ few. w.out.end (subst (λ (q : Queue Samples). q.pushed < most_frames) w.out.same few),
)

pub waits_code : (s : Settings) (c : Coder) (last : Queue Samples) (g : MeasuredGroup) (left held recon : Change) → (w : Waits s c last (Some g) left held recon)
    → GoesOn c (is_some g.group.before) × CanCode s g
unfolding HandsOut
waits_code s c last g left held recon w = (
  subst (λ (o : Option ℕ). GoesOn c (is_some o)) (sym (before_is w.queue g.group.before (ap (λ (x : Group Samples). x.before) w.out.is))) w.goes,
  w.out.group,
)

pub out_pushed : (s : Settings) (q last : Queue Samples) (left : Option (List ℕ)) (next : Option MeasuredGroup) → HandsOut s q last left next → last.pushed ≡ q.pushed
unfolding HandsOut
out_pushed s q last left (Some g) out = ap (λ (x : Queue Samples). x.pushed) out.after
out_pushed s q last left None out = ap (λ (x : Queue Samples). x.pushed) out.same

module _ {S K N : Type 0} (left : S → Option (List ℕ)) (input_faults : S → ℕ) (held : K → Option (List ℕ)) (output_faults : K → ℕ)
    (kept : N → Option (List ℕ)) (recon_faults : N → ℕ) where
  abbrev input : S → S → Change
  input = change left input_faults

  abbrev output : K → K → Change
  output = change held output_faults

  abbrev recon : N → N → Change
  recon = change kept recon_faults

  -- frames were read up to the next group
  pub waits_reads : (s : Settings) (c : Coder) (q last : Queue Samples) (next : Option MeasuredGroup) (i0 i1 i2 : S) (o0 o1 : K) (r0 r1 : N)
      → SoFar s c q (input i0 i1) (output o0 o1) (recon r0 r1) → IsSoundQueue q → GoesOn c (is_some (anchor_before (first_of q)))
      → c.total.pictures + 126 * length q.frames ≤ 126 * q.pushed → c.total.bytes ≤ 2 ^ 21 * c.total.pictures → c.total.stuffing ≤ c.total.bytes
      → Comes left input_faults s q last i1 i2 next → Waits s c last next (input i0 i2) (output o0 o1) (recon r0 r1)
  waits_reads s c q last next i0 i1 i2 o0 o1 r0 r1 far sound goes pictures bytes stuffing comes =
      let n = reads_count left input_faults s q comes.queue i1 i2 comes.reads in
      record {
        queue = comes.queue;
        far = so_far_reads left input_faults held output_faults kept recon_faults s c q comes.queue i0 i1 i2 o0 o1 r0 r1 far comes.reads;
        sound = comes.sound;
        most = comes.most;
        out = comes.out;
        goes = subst (λ (n : ℕ). GoesOn c (is_some (anchor_before n))) (sym (reads_first left input_faults s q comes.queue i1 i2 sound comes.reads)) goes;
        pictures = omega (arith, pictures, n.0, n.1);
        bytes = bytes;
        stuffing = stuffing;
      }

  behind_group : (s : Settings) (c d : Coder) (last : Queue Samples) (g : MeasuredGroup) (i0 i1 : S) (o0 o1 o2 : K) (r0 r1 r2 : N) → Passes s
      → (w : Waits s c last (Some g) (input i0 i1) (output o0 o1) (recon r0 r1)) → GroupCoded c d (book_by c (handed g.group)) false (output o1 o2) (recon r1 r2)
      → GroupCoded c d (book_by c (group_of w.queue)) false (output o1 o2) (recon r1 r2) × SoFar s d last (input i0 i1) (output o0 o2) (recon r0 r2)
  unfolding HandsOut
  behind_group s c d last g i0 i1 o0 o1 o2 r0 r1 r2 passes w coded =
      let same = subst (λ (x : Group Samples). GroupCoded c d (book_by c x) false (output o1 o2) (recon r1 r2)) w.out.is coded in
      (same, so_far_group left input_faults held output_faults kept recon_faults s c d w.queue last i0 i1 o0 o1 o2 r0 r1 r2 passes w.sound w.out.due w.far w.out.after same)

  -- the group was coded, and frames were read up to the one behind it
  pub waits_group : (s : Settings) (c d : Coder) (last after : Queue Samples) (g : MeasuredGroup) (next : Option MeasuredGroup) (i0 i1 i2 : S) (o0 o1 o2 : K) (r0 r1 r2 : N) → Passes s
      → Waits s c last (Some g) (input i0 i1) (output o0 o1) (recon r0 r1) → IsSoundQueue last → GroupCoded c d (book_by c (handed g.group)) false (output o1 o2) (recon r1 r2)
      → GoesOn d true → d.total.bytes ≤ 2 ^ 21 * d.total.pictures → d.total.stuffing ≤ d.total.bytes → Comes left input_faults s last after i1 i2 next
      → Waits s d after next (input i0 i2) (output o0 o2) (recon r0 r2)
  unfolding HandsOut
  waits_group s c d last after g next i0 i1 i2 o0 o1 o2 r0 r1 r2 passes w sound coded goes bytes stuffing comes =
      let e : w.queue.settings ≡ s = w.far.handed.settings in
      let behind = behind_group s c d last g i0 i1 o0 o1 o2 r0 r1 r2 passes w coded in
      let few = coded_few s w.queue c d (output o1 o2) (recon r1 r2) passes e w.sound w.out.due behind.0 w.pictures in
      let first = after_some w.queue last (subst Passes (sym e) passes) w.sound w.out.due w.out.after in
      waits_reads s d last after next i0 i1 i2 o0 o2 r0 r2 behind.1 sound (subst (GoesOn d) (sym first) goes)
      (omega (arith, few, ap (λ (q : Queue Samples). length q.frames) w.out.after, ap (λ (q : Queue Samples). q.pushed) w.out.after)) bytes stuffing comes

  -- the group wasn't coded, or the frames behind it weren't read
  pub waits_stopped : (s : Settings) (c d : Coder) (t : Intake) (g : MeasuredGroup) (i0 i1 i2 : S) (o0 o1 o2 : K) (r0 r1 r2 : N) (e : EncodeError) → Passes s → 0 < frame_bytes (dims_of s)
      → t.settings ≡ s → input_faults i0 ≤ input_faults i1 → output_faults o0 ≤ output_faults o1 → recon_faults r0 ≤ recon_faults r1
      → Waits s c t.queue (Some g) (input i0 i1) (output o0 o1) (recon r0 r1) → BesideStops left input_faults (book_by c (handed g.group)) c d t i1 i2 (output o1 o2) (recon r1 r2) e
      → Stops s (input i0 i2) (output o0 o2) (recon r0 r2) e
  unfolding HandsOut
  waits_stopped s c d t g i0 i1 i2 o0 o1 o2 r0 r1 r2 e passes size same fi fo fr w (inl h) =
      group_stopped left input_faults held output_faults kept recon_faults s c w.queue t.queue i0 i1 i2 o0 o1 o2 r0 r1 r2 e passes w.sound w.out.due w.out.after fo fr w.far (rw same at h.1)
      (subst (λ (x : Group Samples). GroupStops (book_by c x) false (8 * c.total.bytes) (output o1 o2) (recon r1 r2) e) w.out.is h.0)
  waits_stopped s c d t g i0 i1 i2 o0 o1 o2 r0 r1 r2 e passes size same fi fo fr w (inr h) =
      let behind = behind_group s c d t.queue g i0 i1 o0 o1 o2 r0 r1 r2 passes w h.0 in
      reading_stopped left input_faults held output_faults kept recon_faults s d t.queue i0 i1 i2 o0 o2 r0 r2 e passes size fi behind.1 (rw same at h.1)
