-- A batch that is filled: which frames are there before a picture, and which picture may be the next one.
use Rattle.std.specs.Prelude.{◌≡◌, ℕ, suc, ◌≤◌, Bool, true, false, not, ◌&&◌, nat_eq, if◌then◌else◌, List, [], ◌∷◌, ◌++◌, length, slice_index_or, Option, None, Some, IsSome, is_some}
use Rattle.m2v_plane.specs.declared.dims.Dims.{Dims}
use Rattle.m2v_plane.specs.Samples.{Samples, blank}
use Rattle.m2v_model.specs.States.{is_b}
use Rattle.m2v_dec_rows.specs.m2v_dec_picture.declared.gallery.FramesAtHand.{FramesAtHand}
use Rattle.m2v_dec_rows.specs.m2v_dec_picture.declared.gallery.Reading.{Reading}
use Rattle.m2v_dec_piece.specs.declared.answer.Piece.{Piece}
use Rattle.m2v_dec_rows.specs.declared.opened.Opened.{Opened}
use Rattle.m2v_dec_batch.specs.declared.picture.Header.{Header}
use Rattle.m2v_dec_batch.specs.declared.picture.FramePlace.{FramePlace}
use Rattle.m2v_dec_batch.specs.declared.picture.FramePlace.TheVariants.{Older, Newer, Waiting, Behind}
use Rattle.m2v_dec_batch.specs.Jobs.{header_at, newer_before, older_before, first_field}
use Rattle.m2v_dec_batch.specs.declared.picture.BatchPicture.{BatchPicture}
use Rattle.m2v_dec_batch.specs.Batches.{Batch, headers, ArePair}
pub use Rattle.m2v_dec_batch.specs.Batches.{HaveDims}
use Rattle.m2v_dec_batch.specs.declared.at_hand.FramesThere.{FramesThere}

-- the batch with one picture more
abbrev pub with_picture : Batch → Piece → Opened → Batch
with_picture b p o = record b { pictures = b.pictures ++ record { piece = p; opened = o } ∷ [] }

-- ---- frames

-- a frame of samples 0 in place of one that is there
abbrev pub any_frame : Dims → Bool → Option Samples
any_frame d there = if there then Some (blank d d.mb_rows) else None

-- a batch before which such frames are at hand
abbrev pub batch_of : Dims → List BatchPicture → FramesThere → Batch
batch_of d pictures before = record {
  dims = d;
  pictures = pictures;
  older = any_frame d before.older;
  newer = any_frame d before.newer;
  waiting = any_frame d before.first;
}

-- the batch with these frames at hand before it
abbrev pub with_frames : Batch → FramesAtHand → Batch
with_frames b f = record b { older = f.older; newer = f.newer; waiting = f.waiting }

-- frames are there where those of the batch are
pub record AreThere (f : FramesAtHand) (b : Batch) : Type 0 where
  pub older : is_some f.older ≡ is_some b.older
  pub newer : is_some f.newer ≡ is_some b.newer
  pub waiting : is_some f.waiting ≡ is_some b.waiting

-- whether a frame is there: one of those before the batch, or that behind a picture
unfoldable pub is_there : Batch → FramePlace → Bool
is_there b Older = is_some b.older
is_there b Newer = is_some b.newer
is_there b Waiting = is_some b.waiting
is_there b (Behind p) = true

-- which frames are there before picture p
abbrev pub at_hand : Batch → ℕ → FramesThere
at_hand b p = record {
  older = is_there b (older_before (headers b) p);
  newer = is_there b (newer_before (headers b) p);
  first = is_there b (first_field p);
}

-- whether the frame with the top field of the forward reference is there
abbrev pub top_there : Option Reading → FramesThere → Bool
top_there None at = false
top_there (Some r) at =
    if is_b r.kind then at.older else if r.second_field && not (nat_eq r.structure 1) then at.first else at.newer

-- whether the frame with its bottom field is there
abbrev pub bottom_there : Option Reading → FramesThere → Bool
bottom_there None at = false
bottom_there (Some r) at =
    if is_b r.kind then at.older else if r.second_field && nat_eq r.structure 1 then at.first else at.newer

-- whether the frame of the backward reference is there
abbrev pub backward_there : Option Reading → FramesThere → Bool
backward_there None at = false
backward_there (Some r) at = if is_b r.kind then at.newer else false

-- each field that was decoded stands in a frame that is there: forward top, forward bottom, backward top, backward bottom
pub record HasFields (decoded : List Bool) (reading : Option Reading) (at : FramesThere) : Type 0 where
  pub top : slice_index_or decoded 0 false ≡ true → top_there reading at ≡ true
  pub bottom : slice_index_or decoded 1 false ≡ true → bottom_there reading at ≡ true
  pub back_top : slice_index_or decoded 2 false ≡ true → backward_there reading at ≡ true
  pub back_bottom : slice_index_or decoded 3 false ≡ true → backward_there reading at ≡ true

-- ---- fields

-- a picture that is a second field follows its first field: the last picture, or before the batch the one that waits
pub record Follows (b : Batch) (h : Header) : Type 0 where
  pub field : h.second ≡ true → h.structure ≤ 2
  pub waits : h.second ≡ true → length b.pictures ≡ 0 → IsSome b.waiting
  pub pair : h.second ≡ true → (p : ℕ) → length b.pictures ≡ suc p → ArePair (header_at (headers b) p) h
