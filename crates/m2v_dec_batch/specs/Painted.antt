-- The rows of a picture that a book makes are those that its slices give a frame.
use Rattle.std.specs.Prelude.{ℕ, ◌≡◌, ◌+◌, ◌<◌, true, List, length, Option, Ok}
use Rattle.m2v_plane.specs.Samples.{Samples, HasRows}
use Rattle.m2v_model.specs.Samples.{put_in_frame}
use Rattle.m2v_dec_rows.specs.m2v_dec_picture.Conditions.{rows_in}
use Rattle.m2v_dec_rows.specs.Rows.{Begun, first_of, slices_painted}
use Rattle.m2v_dec_rows.specs.ByRows.{AreOrdered, picture_read}
use Rattle.m2v_dec_rows.specs.Opened.{setup_of, slices_of}
use Rattle.m2v_dec_batch.specs.declared.picture.BatchPicture.{BatchPicture}
use Rattle.m2v_dec_batch.specs.Jobs.{first_job, newer_before, older_before}
use Rattle.m2v_dec_batch.specs.Batches.{Batch, headers, Rows, all_set, frame_at, references}
use Rattle.m2v_dec_batch.specs.Pieces.{row_of, is_rebuilt}
use Rattle.m2v_dec_batch.specs.Values.{value_of}

-- the samples of all rows that are rebuilt
abbrev pub all_rows : Batch → Rows
all_rows b j = row_of (value_of b j)

-- the last anchor but one behind the batch, and the last anchor
abbrev pub older_behind : Batch → Option Samples
older_behind b = frame_at b (all_rows b) (older_before (headers b) (length (headers b)))

abbrev pub newer_behind : Batch → Option Samples
newer_behind b = frame_at b (all_rows b) (newer_before (headers b) (length (headers b)))

-- all rows of a picture are rebuilt
abbrev pub IsRebuilt : Batch → ℕ → BatchPicture → Type 0
IsRebuilt b p x = (r : ℕ) → r < x.opened.rows → is_rebuilt (value_of b (first_job (headers b) p + r)) ≡ true

-- Where all rows of a picture are rebuilt, they set into a frame give what its slices, read one behind another, give the
-- frame, predicted from the frames that the rows before them make.
pub record SetsRows (b : Batch) (p : ℕ) (x : BatchPicture) : Type 0 where
  pub set : (frame : Samples) (slices : List Begun) → HasRows frame frame.dims.mb_rows → frame.dims ≡ b.dims → IsRebuilt b p x
      → AreOrdered 0 (rows_in (setup_of x.opened)) (slices_of x.piece x.opened)
      → picture_read (setup_of x.opened) (slices_of x.piece x.opened) ≡ Ok (slices, first_of (setup_of x.opened) (rows_in (setup_of x.opened)))
      → all_set b (all_rows b) p frame ≡ slices_painted put_in_frame (setup_of x.opened) (references b (all_rows b) p) frame slices
