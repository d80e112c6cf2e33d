-- A batch of pictures, and the frames at hand before it.
use Rattle.std.specs.Prelude.{ℕ, zero, suc, ◌≡◌, ◌+◌, ◌≤◌, true, false, nat_eq, if◌then◌else◌, All, List, map, length, slice_get, Option, Some, None, IfSome, IsSome}
use Rattle.m2v_plane.specs.declared.dims.Dims.{Dims}
use Rattle.m2v_plane.specs.Sizes.{IsSize}
use Rattle.m2v_plane.specs.Samples.{Samples, blank, with_row}
use Rattle.m2v_plane.specs.Fields.{or_none}
use Rattle.m2v_pred.specs.Motion.{own_lines}
use Rattle.m2v_model.specs.Samples.{References}
use Rattle.m2v_dec_rows.specs.m2v_dec_picture.declared.gallery.FramesAtHand.{FramesAtHand}
use Rattle.m2v_dec_rows.specs.m2v_dec_picture.declared.gallery.Reading.{Reading}
use Rattle.m2v_dec_rows.specs.m2v_dec_picture.Frames.{Frames, references_in, HasReferences}
use Rattle.m2v_dec_rows.specs.Opened.{IsOpened}
use Rattle.m2v_dec_batch.specs.declared.picture.Header.{Header}
use Rattle.m2v_dec_batch.specs.declared.picture.BatchPicture.{BatchPicture}
use Rattle.m2v_dec_batch.specs.declared.picture.FramePlace.{FramePlace}
use Rattle.m2v_dec_batch.specs.declared.picture.FramePlace.TheVariants.{Older, Newer, Waiting, Behind}
use Rattle.m2v_dec_batch.specs.Jobs.{Headers, header_at, first_job, newer_before, older_before, first_field}

-- what contracts see of a batch: the size of the frames, the pictures in decoding order, and the frames before them: the last
-- anchor but one, the last anchor, and the frame of a first field that waits
pub record Batch : Type 0 where
  pub dims : Dims
  pub pictures : List BatchPicture
  pub older : Option Samples
  pub newer : Option Samples
  pub waiting : Option Samples

-- the same of each
abbrev pub batch_by : Dims → List BatchPicture → Option Samples → Option Samples → Option Samples → Batch
batch_by dims pictures older newer waiting = record { dims = dims; pictures = pictures; older = older; newer = newer; waiting = waiting }

abbrev pub header_of : BatchPicture → Header
header_of x = record {
  kind = x.opened.context.kind;
  second = x.opened.context.second;
  structure = x.opened.context.extension.structure;
  rows = x.opened.rows;
}

abbrev pub headers : Batch → Headers
headers b = map header_of b.pictures

-- ---- frames

-- the rows at hand, by their jobs
abbrev pub Rows : Type 0
Rows = ℕ → Option Samples

abbrev pub no_rows : Rows
no_rows j = None

-- a frame with a row set, where it is there: of a field picture among the lines of its field
abbrev pub with_own : Header → ℕ → Option Samples → Samples → Samples
with_own h row (Some xs) frame = with_row frame (own_lines h.structure) row xs
with_own h row None frame = frame

-- a frame with the first n rows of a picture set
unfoldable pub rows_set : Header → Rows → ℕ → ℕ → Samples → Samples
rows_set h at from zero frame = frame
rows_set h at from (suc n) frame = with_own h n (at (from + n)) (rows_set h at from n frame)

abbrev pub all_set : Batch → Rows → ℕ → Samples → Samples
all_set b at p frame =
    let h = header_at (headers b) p in rows_set h at (first_job (headers b) p) h.rows frame

-- a frame before its rows are set: samples 0, or those of the first field
abbrev pub begun : Batch → ℕ → Samples → Samples
begun b p first = if (header_at (headers b) p).second then first else blank b.dims b.dims.mb_rows

-- the frame behind a picture, as far as its rows are at hand
unfoldable pub frame_behind : Batch → Rows → ℕ → Samples
frame_behind b at zero = all_set b at zero (begun b zero (or_none b.waiting))
frame_behind b at (suc p) = all_set b at (suc p) (begun b (suc p) (frame_behind b at p))

unfoldable pub frame_at : Batch → Rows → FramePlace → Option Samples
frame_at b at Older = b.older
frame_at b at Newer = b.newer
frame_at b at Waiting = b.waiting
frame_at b at (Behind p) = Some (frame_behind b at p)

-- what tells the references of a picture: an I picture has none
abbrev pub reading_of : Header → Option Reading
reading_of h =
    if nat_eq h.kind 1 then None
    else Some (record { kind = h.kind; second_field = h.second; structure = h.structure })

-- the frames at hand while a picture is read
abbrev pub frames_for : Batch → Rows → ℕ → Frames
frames_for b at p = record {
  older = frame_at b at (older_before (headers b) p);
  newer = frame_at b at (newer_before (headers b) p);
  current = None;
  first_field = frame_at b at (first_field p);
  reading = reading_of (header_at (headers b) p);
}

-- what a picture is predicted from
abbrev pub references : Batch → Rows → ℕ → References
references b at p = references_in (frames_for b at p)

-- ---- what is known

-- two field pictures of one frame: a first field, and one of the other parity
pub record ArePair (first next : Header) : Type 0 where
  pub is_first : first.second ≡ false
  pub is_field : first.structure ≤ 2
  pub parity : first.structure + next.structure ≡ 3

-- the frames at hand have a size
pub record HaveDims (d : Dims) (f : FramesAtHand) : Type 0 where
  pub older : IfSome f.older (λ x. x.dims ≡ d)
  pub newer : IfSome f.newer (λ x. x.dims ≡ d)
  pub waiting : IfSome f.waiting (λ x. x.dims ≡ d)

-- at most 16 pictures of one size, whose headers were read, and the pictures of which one is a second field
pub record ArePictures (d : Dims) (pictures : List BatchPicture) : Type 0 where
  pub size : IsSize d
  pub few : length pictures ≤ 16
  pub opened : All (λ (x : BatchPicture). IsOpened x.piece x.opened) pictures
  pub sizes : All (λ (x : BatchPicture). x.opened.dims ≡ d) pictures
  pub field : (p : ℕ) → (header_at (map header_of pictures) p).second ≡ true → (header_at (map header_of pictures) p).structure ≤ 2
  pub pairs : (p : ℕ) → (header_at (map header_of pictures) (suc p)).second ≡ true → ArePair (header_at (map header_of pictures) p) (header_at (map header_of pictures) (suc p))

-- A batch: at most 16 pictures of one size, whose headers were read. A second field follows its first field, or that waits;
-- and each field that a picture may read is there, in the batch or before it.
pub record IsBatch (b : Batch) : Type 0 where
  pub pictures_are : ArePictures b.dims b.pictures
  pub open pictures_are use *
  pub frames_fit : HaveDims b.dims (record { older = b.older; newer = b.newer; waiting = b.waiting })
  pub open frames_fit use *
  pub first : (header_at (headers b) 0).second ≡ true → IsSome b.waiting
  pub decoded : (p : ℕ) (x : BatchPicture) → slice_get b.pictures p ≡ Some x → HasReferences x.opened.references (frames_for b no_rows p)
