-- A group whose jobs are done: what it adds to the stream and to the recon, and what stands behind it.
use Rattle.std.specs.Prelude.{ℕ, ◌≡◌, ◌+◌, ◌*◌, ◌<◌, ◌≤◌, Bool, All, List, map, length}
use Rattle.std.specs.List.{range_with_len, flat_map}
use Rattle.m2v_plane.specs.Raw.{crop}
use Rattle.m2v_set.specs.declared.settings.Settings.{Settings}
use Rattle.m2v_order.specs.declared.jobs.PictureJob.{PictureJob}
pub use Rattle.m2v_rate.specs.Places.{IsPlace}
use Rattle.m2v_slice.specs.Books.{Book, rows, slice_at}
pub use Rattle.m2v_slice.specs.Books.{all_coded, whole_ledger}
use Rattle.m2v_slice.specs.Conditions.{IsBook}
use Rattle.m2v_slice.specs.Jobs.{jobs_of}
use Rattle.m2v_law_shown.specs.m2v_enc_stream.Streams.{pictures_text, frame_of}
pub use Rattle.m2v_law_shown.specs.m2v_enc_stream.Streams.{anchor_behind}

-- the text of the first slices of a picture
abbrev pub slices_text : Book → ℕ → ℕ → List Bool
slices_text b p n = flat_map (λ r. (slice_at (all_coded b) p r).text) (range_with_len 0 n)

-- the text of the group, which begins at a bit of the stream
abbrev pub group_text : Book → Bool → ℕ → List Bool
group_text b ends at = pictures_text b (all_coded b) (whole_ledger b) ends at (length b.pictures)

-- its frames as they are shown, the first n of them
abbrev pub frames_shown : Book → ℕ → List (List ℕ)
frames_shown b n = map (λ k. crop (frame_of b (all_coded b) k)) (range_with_len 0 n)

abbrev pub group_shown : Book → List (List ℕ)
group_shown b = frames_shown b (length b.frames)

-- the pictures, the numbers of frames and rows, and the times behind the pictures of a book
pub record IsDone (b : Book) (s : Settings) (list : List PictureJob) (frame_count row_count : ℕ) (units : List ℕ) : Type 0 where
  pub book : IsBook b
  pub jobs : jobs_of b ≡ length b.pictures * (rows b + 1)
  pub settings : s ≡ b.settings
  pub pictures : list ≡ b.pictures
  pub few : length b.pictures ≤ 126
  pub early : All (λ (j : PictureJob). j.display < 1000000) b.pictures
  pub frames : frame_count ≡ length b.frames
  pub most : length b.frames ≤ 63
  pub lines : row_count ≡ rows b
  pub low : rows b ≤ 72
  pub times : units ≡ b.ledger.intervals
