-- The frames that a decoder has while it takes in the pictures of a batch, one behind another.
use Rattle.std.specs.Prelude.{◌≡◌, ℕ, ◌+◌, ◌<◌, true, Option}
use Rattle.m2v_plane.specs.Samples.{Samples}
use Rattle.m2v_model.specs.Pictures.{Store}
use Rattle.m2v_decode.specs.m2v_dec_rows.declared.opened.Opened.{Opened}
use Rattle.m2v_dec_batch.specs.declared.pieces.DecodePiece.TheVariants.{Rebuilt}
use Rattle.m2v_dec_batch.specs.Jobs.{header_at, first_job, newer_before, older_before, first_field}
use Rattle.m2v_dec_batch.specs.Batches.{Batch, headers, frame_at}
use Rattle.m2v_dec_batch.specs.Values.{value_of}
use Rattle.m2v_dec_batch.specs.Painted.{all_rows}
use Rattle.m2v_decode.specs.m2v_dec_rows.InFrames.{rows_set}
use Rattle.m2v_decode.specs.Rebuilt.{frame_begun, frames_behind}

-- The frames at hand before picture p are those of the batch: the last two anchors, and before a second field the frame of
-- its first field.
pub record Tracks (b : Batch) (p : ℕ) (store : Store) : Type 0 where
  pub older : store.older ≡ frame_at b (all_rows b) (older_before (headers b) p)
  pub newer : store.newer ≡ frame_at b (all_rows b) (newer_before (headers b) p)
  pub waiting : (header_at (headers b) p).second ≡ true → store.current ≡ frame_at b (all_rows b) (first_field p)

-- all rows of picture p are rebuilt, with these samples
abbrev pub AreRebuilt : Batch → ℕ → (ℕ → Samples) → Type 0
AreRebuilt b p samples = (r : ℕ) → r < (header_at (headers b) p).rows → value_of b (first_job (headers b) p + r) ≡ Rebuilt (samples r)

-- what is told of a picture is what its macroblocks are read by: its type and its structure
pub record IsNoted (o : Opened) : Type 0 where
  pub kind : o.note.info.kind ≡ o.context.kind
  pub structure : o.note.extension.structure ≡ o.context.extension.structure

-- the frame of a picture with all its rows set
abbrev pub frame_made : Opened → (ℕ → Samples) → Option Samples → Samples
frame_made o samples current = rows_set o.context.extension.structure samples o.rows (frame_begun o current)

-- the frames at hand behind it
abbrev pub store_behind : Opened → (ℕ → Samples) → Store → Store
store_behind o samples store = frames_behind o (frame_made o samples store.current) store
