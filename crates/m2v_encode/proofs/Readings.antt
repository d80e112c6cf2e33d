-- Frames that are read up to the next group.
use Rattle.std.proofs.Common.{◌≡◌, ℕ, ◌+◌, ◌<◌, ◌≤◌, inl, inr, false, List, [], ◌∷◌, ◌++◌, length, map, Option, Result, Ok, Err, sym, subst, ap, ◌∙◌, arith}
use Rattle.std.proofs.lemmas.List.{length-append, length-map, append-nil, map-append}
use Rattle.std.proofs.lemmas.List.Concat.{flat_map-append}
use Rattle.std.proofs.lemmas.List.Elements.{All-append, All-cons, All-nil}
use Rattle.m2v_port.specs.Ends.{change}
use Rattle.m2v_port.specs.Port.{Moves}
use Rattle.m2v_port.proofs.Runs.{moves_on, moves_nothing}
use Rattle.m2v_plane.specs.Raw.{frame_bytes, raw, pad}
use Rattle.m2v_plane.specs.Samples.{Samples}
use Rattle.m2v_set.specs.declared.settings.Settings.{Settings}
use Rattle.m2v_set.specs.Numbers.{dims_of}
use Rattle.m2v_order.specs.Groups.{Queue, first_of, followed, IsSoundQueue}
use Rattle.m2v_encode.specs.declared.answer.EncodeError.{EncodeError}
use Rattle.m2v_encode.specs.declared.answer.EncodeError.TheVariants.{Read, Write, ShortFrame, NoFrames, TooManyFrames, Memory}
use Rattle.m2v_encode.specs.declared.intake.Intake.{Intake}
use Rattle.m2v_encode.specs.declared.measured.MeasuredGroup.{MeasuredGroup}
use Rattle.m2v_encode.specs.Answers.{AreWhole, most_frames}
use Rattle.m2v_encode.specs.Steps.{FrameRead, FrameStops, ReadsOn, ReadsNext, ReadAhead}
use Rattle.m2v_encode.proofs.Fronts.{followed_on, push_is, no_more, going_is}

-- ---- frames and their bytes

pub raw_both : (xs ys : List (List ℕ)) → raw (xs ++ ys) ≡ raw xs ++ raw ys
raw_both xs ys = flat_map-append (λ (x : List ℕ). x) xs ys

pub raw_one : (f : List ℕ) → raw (f ∷ []) ≡ f
raw_one f = append-nil f

pub whole_all : (s : Settings) (xs ys : List (List ℕ)) → AreWhole s xs → AreWhole s ys → AreWhole s (xs ++ ys)
whole_all s xs ys first second = All-append (λ (x : List ℕ). length x ≡ frame_bytes (dims_of s)) xs ys first second

pub whole_one : (s : Settings) (f : List ℕ) → length f ≡ frame_bytes (dims_of s) → AreWhole s (f ∷ [])
whole_one s f is = let P = λ (x : List ℕ). length x ≡ frame_bytes (dims_of s) in All-cons P f [] is (All-nil P)

pub moved_all : (l0 l1 l2 : Option (List ℕ)) (xs ys : List (List ℕ)) → Moves l0 (raw xs) l1 → Moves l1 (raw ys) l2 → Moves l0 (raw (xs ++ ys)) l2
moved_all l0 l1 l2 xs ys first second = subst (λ (b : List ℕ). Moves l0 b l2) (sym (raw_both xs ys)) (moves_on first second)

-- ---- frame after frame

module _ {S : Type 0} (left : S → Option (List ℕ)) (faults : S → ℕ) where
  -- no frame was read
  pub reads_end : (s : Settings) (q : Queue Samples) (i0 i1 : S) → q.ended ≡ false → faults i0 ≤ faults i1 → Moves (left i0) [] (left i1) → ReadsOn left faults s q q i0 i1
  reads_end s q i0 i1 going rises moved = record {
    frames = [];
    whole = All-nil (λ (x : List ℕ). length x ≡ frame_bytes (dims_of s));
    moved = moved;
    pushed = sym (no_more q false ∙ going_is q going);
    rises = rises;
  }

  pub reads_none : (s : Settings) (q : Queue Samples) (i : S) → q.ended ≡ false → ReadsOn left faults s q q i i
  reads_none s q i going = reads_end s q i i going (omega arith) (moves_nothing (left i))

  pub reads_on : (s : Settings) (q p r : Queue Samples) (i0 i1 i2 : S) → ReadsOn left faults s q p i0 i1 → ReadsOn left faults s p r i1 i2 → ReadsOn left faults s q r i0 i2
  reads_on s q p r i0 i1 i2 first second =
      let d = dims_of s in
      record {
        frames = first.frames ++ second.frames;
        whole = whole_all s first.frames second.frames first.whole second.whole;
        moved = moved_all (left i0) (left i1) (left i2) first.frames second.frames first.moved second.moved;
        pushed = second.pushed
            ∙ ap (λ (x : Queue Samples). followed x (map (pad d) second.frames) false) first.pushed
            ∙ followed_on q (map (pad d) first.frames) (map (pad d) second.frames) false
            ∙ ap (λ (xs : List Samples). followed q xs false) (sym (map-append (pad d) first.frames second.frames));
        rises = omega (arith, first.rises, second.rises);
      }

  pub reads_frame : (s : Settings) (q p : Queue Samples) (i0 i1 : S) → q.ended ≡ false → faults i0 ≤ faults i1 → FrameRead s q p (change left faults i0 i1) → ReadsOn left faults s q p i0 i1
  reads_frame s q p i0 i1 going rises read = record {
    frames = read.frame ∷ [];
    whole = whole_one s read.frame read.whole;
    moved = subst (λ (b : List ℕ). Moves (left i0) b (left i1)) (sym (raw_one read.frame)) read.moved;
    pushed = read.pushed ∙ push_is q (pad (dims_of s) read.frame) going;
    rises = rises;
  }

  -- how many
  pub reads_count : (s : Settings) (q p : Queue Samples) (i0 i1 : S) → (reads : ReadsOn left faults s q p i0 i1)
      → (p.pushed ≡ q.pushed + length reads.frames) × (length p.frames ≡ length q.frames + length reads.frames)
  reads_count s q p i0 i1 reads =
      let waits = map (pad (dims_of s)) reads.frames in
      let long = length-map reads.frames (pad (dims_of s)) in (
        omega (arith, ap (λ (x : Queue Samples). x.pushed) reads.pushed, long),
        omega (arith, ap (λ (x : Queue Samples). length x.frames) reads.pushed, length-append q.frames waits, long),
      )

  -- the group begins where it began
  pub reads_first : (s : Settings) (q p : Queue Samples) (i0 i1 : S) → IsSoundQueue q → ReadsOn left faults s q p i0 i1 → first_of p ≡ first_of q
  reads_first s q p i0 i1 sound reads = let n = reads_count s q p i0 i1 reads in omega (arith, n.0, n.1, sound.room)

  -- ---- what was read in any case

  ahead_frames : (s : Settings) (q p : Queue Samples) (i0 i1 : S) → 0 < frame_bytes (dims_of s) → p.pushed ≤ most_frames → ReadsOn left faults s q p i0 i1 → ReadAhead left faults s q i0 i1
  ahead_frames s q p i0 i1 size most reads = record {
    frames = reads.frames;
    part = [];
    most = omega (arith, most, (reads_count s q p i0 i1 reads).0);
    whole = reads.whole;
    less = size;
    moved = subst (λ (b : List ℕ). Moves (left i0) b (left i1)) (sym (append-nil (raw reads.frames))) reads.moved;
  }

  ahead_part : (s : Settings) (q p : Queue Samples) (i0 i1 i2 : S) (part : List ℕ) → p.pushed < most_frames → ReadsOn left faults s q p i0 i1
      → Moves (left i1) part (left i2) → length part < frame_bytes (dims_of s) → ReadAhead left faults s q i0 i2
  ahead_part s q p i0 i1 i2 part few reads moved less = record {
    frames = reads.frames;
    part = part;
    most = omega (arith, few, (reads_count s q p i0 i1 reads).0);
    whole = reads.whole;
    less = less;
    moved = moves_on reads.moved moved;
  }

  ahead_stopped : (s : Settings) (q p : Queue Samples) (i0 i1 i2 : S) (e : EncodeError) → 0 < frame_bytes (dims_of s) → p.pushed < most_frames → ReadsOn left faults s q p i0 i1
      → FrameStops s (change left faults i1 i2) e → ReadAhead left faults s q i0 i2
  unfolding FrameStops
  ahead_stopped s q p i0 i1 i2 Read size few reads h = ahead_part s q p i0 i1 i2 h.1.part few reads h.1.moved h.1.fewer
  ahead_stopped s q p i0 i1 i2 Write size few reads h = absurd h
  ahead_stopped s q p i0 i1 i2 (ShortFrame extra) size few reads h = ahead_part s q p i0 i1 i2 h.part few reads h.moved (omega (arith, h.count, h.less))
  ahead_stopped s q p i0 i1 i2 NoFrames size few reads h = absurd h
  ahead_stopped s q p i0 i1 i2 TooManyFrames size few reads h = absurd h
  ahead_stopped s q p i0 i1 i2 Memory size few reads (inl h) = ahead_part s q p i0 i1 i2 h.part few reads h.moved h.fewer
  ahead_stopped s q p i0 i1 i2 Memory size few reads (inr h) = record {
    frames = reads.frames ++ h.frame ∷ [];
    part = [];
    most = omega (arith, few, (reads_count s q p i0 i1 reads).0, length-append reads.frames (h.frame ∷ []));
    whole = whole_all s reads.frames (h.frame ∷ []) reads.whole (whole_one s h.frame h.whole);
    less = size;
    moved = subst (λ (b : List ℕ). Moves (left i0) b (left i2)) (sym (append-nil (raw (reads.frames ++ h.frame ∷ []))))
        (moved_all (left i0) (left i1) (left i2) reads.frames (h.frame ∷ []) reads.moved (subst (λ (b : List ℕ). Moves (left i1) b (left i2)) (sym (raw_one h.frame)) h.moved));
  }

  pub ahead_is : (old new : Intake) (i0 i1 : S) (result : Result (Option MeasuredGroup) EncodeError) → 0 < frame_bytes (dims_of old.settings) → ReadsNext left faults old new i0 i1 result
      → ReadAhead left faults old.settings old.queue i0 i1
  ahead_is old new i0 i1 (Ok next) size read = let came = read.ok in ahead_frames old.settings old.queue came.queue i0 i1 size came.most came.reads
  ahead_is old new i0 i1 (Err e) size read =
      let stopped = read.err in ahead_stopped old.settings old.queue stopped.queue i0 stopped.between i1 e size stopped.fewer stopped.reads stopped.stops

  pub ahead_none : (s : Settings) (q : Queue Samples) (i : S) → 0 < frame_bytes (dims_of s) → q.pushed ≤ most_frames → q.ended ≡ false → ReadAhead left faults s q i i
  ahead_none s q i size most going = ahead_frames s q q i i size most (reads_none s q i going)
