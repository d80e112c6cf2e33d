-- Frames made of the rows of pictures, one picture after another.
use Rattle.std.specs.Prelude.{ℕ, zero, suc, nat_eq, if◌then◌else◌}
use Rattle.m2v_plane.specs.Samples.{Samples, blank, with_row}
use Rattle.m2v_set.specs.Numbers.{dims_of}
use Rattle.m2v_pred.specs.Motion.{own_lines}
use Rattle.m2v_slice.specs.Books.{Book, rows, job_at, slice_at}
use Rattle.m2v_encode.specs.Groups.{all_coded}

-- the first n rows of a picture in its frame
unfoldable pub rows_in : Book → ℕ → ℕ → Samples → Samples
rows_in b p zero frame = frame
rows_in b p (suc n) frame = with_row (rows_in b p n frame) (own_lines (job_at b p).structure) n (slice_at (all_coded b) p n).row

abbrev pub with_rows : Book → ℕ → Samples → Samples
with_rows b p frame = rows_in b p (rows b) frame

-- frame k with the rows of those of the first n pictures that are pictures of it
unfoldable pub rebuilt_by : Book → ℕ → ℕ → Samples
rebuilt_by b k zero = blank (dims_of b.settings) (dims_of b.settings).mb_rows
rebuilt_by b k (suc n) = if nat_eq (job_at b n).frame k then with_rows b n (rebuilt_by b k n) else rebuilt_by b k n
