-- What a cache knows once the needs of a job are learned.
use Rattle.std.specs.Prelude.{ℕ, ◌≡◌, ◌<◌, ⊤, Bool, true, ◌&&◌, ◌||◌, nat_eq, if◌then◌else◌, slice_get, Option, Some, None}
use Rattle.std.specs.List.{list_all}
use Rattle.m2v_dec_rows.specs.m2v_dec_picture.Frames.{HasReferences}
use Rattle.m2v_dec_batch.specs.declared.picture.BatchPicture.{BatchPicture}
use Rattle.m2v_plane.specs.Samples.{Samples}
use Rattle.m2v_dec_batch.specs.declared.cache.DecodeCache.{DecodeCache}
use Rattle.m2v_dec_batch.specs.declared.picture.FramePlace.{FramePlace}
use Rattle.m2v_dec_batch.specs.declared.picture.FramePlace.TheVariants.{Older, Newer, Waiting, Behind}
use Rattle.m2v_dec_batch.specs.Jobs.{header_at, picture_of_job, frame_count, read_by, needs_of}
use Rattle.m2v_dec_batch.specs.Batches.{Batch, headers, reading_of}
use Rattle.m2v_dec_batch.specs.Pieces.{is_rebuilt}
use Rattle.m2v_dec_batch.specs.Values.{value_of}
use Rattle.m2v_dec_batch.specs.Learned.{is_of, held_of, FitsCache}

-- all rows of the frame behind a picture were learned, if it has some
pub record HasRows (b : Batch) (c : DecodeCache) (q : ℕ) : Type 0 where
  pub held : is_of (held_of c q).picture q ≡ true
  pub all : (held_of c q).count ≡ frame_count (headers b) q

abbrev pub HasFrame : Batch → DecodeCache → Option FramePlace → Type 0
HasFrame b c None = ⊤
HasFrame b c (Some Older) = ⊤
HasFrame b c (Some Newer) = ⊤
HasFrame b c (Some Waiting) = ⊤
HasFrame b c (Some (Behind q)) = 0 < frame_count (headers b) q → HasRows b c q

-- those of both frames that the picture of a job is predicted from
pub record HasLearned (b : Batch) (j : ℕ) (c : DecodeCache) : Type 0 where
  pub fits : FitsCache b c
  pub forward : HasFrame b c (read_by (headers b) (picture_of_job (headers b) j)).forward
  pub other : HasFrame b c (read_by (headers b) (picture_of_job (headers b) j)).other

-- all rows of a frame that were learned are rebuilt
abbrev pub whole_at : Batch → DecodeCache → Option FramePlace → Bool
whole_at b c None = true
whole_at b c (Some Older) = true
whole_at b c (Some Newer) = true
whole_at b c (Some Waiting) = true
whole_at b c (Some (Behind q)) = nat_eq (frame_count (headers b) q) 0 || (held_of c q).whole

-- all rows that a job needs are rebuilt
abbrev pub needs_rebuilt : Batch → ℕ → Bool
needs_rebuilt b j = list_all (λ i. is_rebuilt (value_of b i)) (needs_of (headers b) j)

-- the frame behind a picture that has no rows: of samples 0, or that of the first field that waits
abbrev pub rowless : Batch → DecodeCache → ℕ → Option Samples
rowless b c q = if nat_eq q 0 && (header_at (headers b) 0).second then b.waiting else c.blank

-- the frame that stands at a place, as a cache has it
unfoldable pub frame_found : Batch → DecodeCache → FramePlace → Option Samples
frame_found b c Older = b.older
frame_found b c Newer = b.newer
frame_found b c Waiting = b.waiting
frame_found b c (Behind q) = if nat_eq (frame_count (headers b) q) 0 then rowless b c q else (held_of c q).frame

-- each field of the references of a picture that was decoded is there, if these frames are
abbrev pub AreDecoded : Batch → ℕ → Option Samples → Option Samples → Option Samples → Type 0
AreDecoded b p older newer first =
    (x : BatchPicture) → slice_get b.pictures p ≡ Some x
    → HasReferences x.opened.references (record {
      older = older;
      newer = newer;
      current = None;
      first_field = first;
      reading = reading_of (header_at (headers b) p);
    })
