-- What a worker's cache holds, and what learning makes of it.
use Rattle.std.specs.Prelude.{ℕ, zero, suc, ◌≡◌, ◌+◌, ◌-◌, ◌<◌, ◌≤◌, Bool, true, false, not, ◌&&◌, ◌||◌, nat_eq, nat_le, if◌then◌else◌, length, Option, Some, None, is_some, IfSome, IsSome}
use Rattle.std.specs.List.{list_all, range_with_len}
use Rattle.std.specs.Option.{option_map}
use Rattle.m2v_plane.specs.declared.dims.Dims.{Dims}
use Rattle.m2v_plane.specs.Samples.{Samples, blank}
use Rattle.m2v_dec_batch.specs.declared.cache.HeldFrame.{HeldFrame}
use Rattle.m2v_dec_batch.specs.declared.cache.DecodeCache.{DecodeCache}
use Rattle.m2v_dec_batch.specs.declared.picture.FramePlace.{FramePlace}
use Rattle.m2v_dec_batch.specs.declared.picture.FramePlace.TheVariants.{Older, Newer, Waiting, Behind}
use Rattle.m2v_dec_batch.specs.Jobs.{Headers, header_at, picture_of_job, row_of_job, frame_from, frame_count, read_by, jobs_at}
use Rattle.m2v_dec_batch.specs.Batches.{Batch, headers, no_rows, with_own, frame_behind}
use Rattle.m2v_dec_batch.specs.Pieces.{row_of, is_rebuilt, SharedRow}
use Rattle.m2v_dec_batch.specs.Values.{value_of}

-- ---- which frame is held

-- the frame behind picture q is held
abbrev pub is_of : Option ℕ → ℕ → Bool
is_of None q = false
is_of (Some p) q = nat_eq p q

-- the picture of the batch that the frame at a place stands behind
abbrev pub behind_of : Option FramePlace → Option ℕ
behind_of None = None
behind_of (Some Older) = None
behind_of (Some Newer) = None
behind_of (Some Waiting) = None
behind_of (Some (Behind q)) = Some q

-- the frame at a place is held
abbrev pub stands_at : Option ℕ → Option FramePlace → Bool
stands_at o None = false
stands_at o (Some Older) = false
stands_at o (Some Newer) = false
stands_at o (Some Waiting) = false
stands_at o (Some (Behind q)) = is_of o q

-- the second one is the frame behind picture q, or is given up for it: as the first one is that at the place that is kept
unfoldable pub in_second : DecodeCache → ℕ → Option FramePlace → Bool
in_second c q keep = not (is_of c.one.picture q) && (is_of c.two.picture q || stands_at c.one.picture keep)

-- the frame behind picture q, if one of both is
unfoldable pub held_of : DecodeCache → ℕ → HeldFrame
held_of c q = if is_of c.one.picture q then c.one else c.two

-- ---- learning

-- the samples at hand: where there is room alone, samples 0
abbrev pub samples_in : Option Dims → Option Samples → Option Samples
samples_in (Some d) frame = Some (blank d d.mb_rows)
samples_in None frame = frame

-- a frame before its rows are learned. The rows of a frame picture replace all samples, so any may stand there
abbrev pub begun_over : Batch → ℕ → Samples → Samples
begun_over b q old = if nat_eq (header_at (headers b) q).structure 3 then old else frame_behind b no_rows q

-- none of the rows of the frame behind picture q was learned
unfoldable pub begun_held : Batch → ℕ → HeldFrame → HeldFrame
begun_held b q h = record {
  room = None;
  frame = option_map (begun_over b q) (samples_in h.room h.frame);
  picture = Some q;
  count = 0;
  whole = true;
}

abbrev pub held_for : Batch → ℕ → HeldFrame → HeldFrame
held_for b q h = if is_of h.picture q then h else begun_held b q h

-- a frame with the row of a job set, where it is rebuilt
abbrev pub with_job : Headers → ℕ → Option Samples → Samples → Samples
with_job hs i row frame = with_own (header_at hs (picture_of_job hs i)) (row_of_job hs i) row frame

-- row k of a frame is learned behind those before it, once
unfoldable pub row_learned : Headers → ℕ → ℕ → Option Samples → HeldFrame → HeldFrame
row_learned hs q k row h =
    if nat_eq h.count k
    then record h { frame = option_map (with_job hs (frame_from hs q + k) row) h.frame; count = h.count + 1; whole = h.whole && is_some row }
    else h

-- row k of the frame behind picture q is learned, and the frame at a place is kept
unfoldable pub learned_behind : Batch → ℕ → Option FramePlace → ℕ → Option Samples → DecodeCache → DecodeCache
learned_behind b q keep k row c =
    if in_second c q keep then record c { two = row_learned (headers b) q k row (held_for b q c.two) }
    else record c { one = row_learned (headers b) q k row (held_for b q c.one) }

abbrev pub learned_at : Batch → Option FramePlace → Option FramePlace → ℕ → Option Samples → DecodeCache → DecodeCache
learned_at b None keep k row c = c
learned_at b (Some Older) keep k row c = c
learned_at b (Some Newer) keep k row c = c
learned_at b (Some Waiting) keep k row c = c
learned_at b (Some (Behind q)) keep k row c = learned_behind b q keep k row c

-- the first needs are the rows of the frame that is read first, and the others those of the other one
unfoldable pub learned_of : Batch → ℕ → ℕ → SharedRow → DecodeCache → DecodeCache
learned_of b j at x c =
    let reads = read_by (headers b) (picture_of_job (headers b) j) in
    let first = length (jobs_at (headers b) reads.forward) in
    if nat_le (at + 1) first then learned_at b reads.forward reads.other at x.row c
    else learned_at b reads.other reads.forward (at - first) x.row c

-- ---- what fits

-- a frame with its first n rows set, over others
unfoldable pub frame_over : Batch → ℕ → ℕ → Samples → Samples
frame_over b q zero base = base
frame_over b q (suc n) base =
    let i = frame_from (headers b) q + n in with_job (headers b) i (row_of (value_of b i)) (frame_over b q n base)

-- the first n rows of a frame are rebuilt
abbrev pub first_rebuilt : Batch → ℕ → ℕ → Bool
first_rebuilt b q n = list_all (λ i. is_rebuilt (value_of b i)) (range_with_len (frame_from (headers b) q) n)

-- samples over which the first n rows of a frame were set
pub record IsOver (b : Batch) (q n : ℕ) (frame : Option Samples) : Type 0 where
  pub base : Samples
  pub size : base.dims ≡ b.dims
  pub begun : nat_eq (header_at (headers b) q).structure 3 ≡ false → base ≡ frame_behind b no_rows q
  pub is : frame ≡ Some (frame_over b q n base)

-- the first rows of the frame behind picture q were learned, and are set where all of them are rebuilt
pub record HoldsRows (b : Batch) (h : HeldFrame) (q : ℕ) : Type 0 where
  pub picture : q < length (headers b)
  pub room : h.room ≡ None
  pub most : h.count ≤ frame_count (headers b) q
  pub whole : h.whole ≡ first_rebuilt b q h.count
  pub frame : h.whole ≡ true → IsOver b q h.count h.frame

-- a frame of the batch's size, or room for one
pub record FitsHeld (b : Batch) (h : HeldFrame) : Type 0 where
  pub there : IsSome (samples_in h.room h.frame)
  pub frame : IfSome h.frame (λ f. f.dims ≡ b.dims)
  pub room : IfSome h.room (λ d. d ≡ b.dims)
  pub rows : (q : ℕ) → h.picture ≡ Some q → HoldsRows b h q

-- two such frames; and a frame of samples 0, where a field has no row
pub record FitsCache (b : Batch) (c : DecodeCache) : Type 0 where
  pub one : FitsHeld b c.one
  pub two : FitsHeld b c.two
  pub blank : b.dims.mb_rows ≡ 1 → c.blank ≡ Some (blank b.dims b.dims.mb_rows)
