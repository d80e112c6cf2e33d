-- The jobs of a batch of pictures, and what each stands on.
use Rattle.std.specs.Prelude.{ℕ, zero, suc, ◌+◌, ◌-◌, Bool, false, not, ◌&&◌, ◌||◌, nat_eq, nat_le, cond, if◌then◌else◌, List, [], ◌++◌, length, slice_index_or, Option, Some, None}
use Rattle.std.specs.List.{range_with_len, list_all}
use Rattle.m2v_dec_batch.specs.declared.picture.Header.{Header}
use Rattle.m2v_dec_batch.specs.declared.picture.FramePlace.{FramePlace}
use Rattle.m2v_dec_batch.specs.declared.picture.FramePlace.TheVariants.{Older, Newer, Waiting, Behind}
use Rattle.m2v_dec_batch.specs.declared.picture.Reads.{Reads}

-- what the headers say of the pictures of a batch, in decoding order
abbrev pub Headers : Type 0
Headers = List Header

abbrev pub no_header : Header
no_header = record { kind = 1; second = false; structure = 3; rows = 0 }

abbrev pub header_at : Headers → ℕ → Header
header_at hs p = slice_index_or hs p no_header

-- ---- jobs

-- each macroblock row is a job: picture by picture, and of a picture from the top
unfoldable pub first_job : Headers → ℕ → ℕ
first_job hs zero = 0
first_job hs (suc p) = first_job hs p + (header_at hs p).rows

-- the picture of a job among the first n: the last one whose first job isn't behind it
unfoldable pub picture_among : Headers → ℕ → ℕ → ℕ
picture_among hs zero j = 0
picture_among hs (suc n) j = if nat_le (first_job hs n) j then n else picture_among hs n j

abbrev pub picture_of_job : Headers → ℕ → ℕ
picture_of_job hs j = picture_among hs (length hs) j

abbrev pub row_of_job : Headers → ℕ → ℕ
row_of_job hs j = j - first_job hs (picture_of_job hs j)

-- ---- references

-- a picture that isn't B ends its frame: a frame picture, or a second field
abbrev pub ends_anchor : Header → Bool
ends_anchor h = not (nat_eq h.kind 3) && (nat_eq h.structure 3 || h.second)

-- the last anchor before a picture
unfoldable pub newer_before : Headers → ℕ → FramePlace
newer_before hs zero = Newer
newer_before hs (suc p) = if ends_anchor (header_at hs p) then Behind p else newer_before hs p

-- the last anchor but one
unfoldable pub older_before : Headers → ℕ → FramePlace
older_before hs zero = Older
older_before hs (suc p) = if ends_anchor (header_at hs p) then newer_before hs p else older_before hs p

-- the frame of the first field before a second field
unfoldable pub first_field : ℕ → FramePlace
first_field zero = Waiting
first_field (suc p) = Behind p

-- the frames that a picture is predicted from: of an I picture none, of a P picture the last anchor, of a second P field its
-- first field too, of a B picture the last two anchors (clause 7.6.2.1)
unfoldable pub read_by : Headers → ℕ → Reads
read_by hs p =
    let h = header_at hs p in
    if nat_eq h.kind 1 then record { forward = None; other = None }
    else if nat_eq h.kind 3 then record { forward = Some (older_before hs p); other = Some (newer_before hs p) }
    else record { forward = Some (newer_before hs p); other = if h.second then Some (first_field p) else None }

-- a picture that others may be predicted from: one that isn't B, or the first field of a frame
abbrev pub is_reference : Headers → ℕ → Bool
is_reference hs p = not (nat_eq (header_at hs p).kind 3) || (header_at hs (suc p)).second

-- ---- needs

-- the picture that begins the frame of picture q: the one before a second field
unfoldable pub frame_begin : Headers → ℕ → ℕ
frame_begin hs zero = zero
frame_begin hs (suc q) = if (header_at hs (suc q)).second then q else suc q

abbrev pub frame_from : Headers → ℕ → ℕ
frame_from hs q = first_job hs (frame_begin hs q)

abbrev pub frame_count : Headers → ℕ → ℕ
frame_count hs q = first_job hs (suc q) - frame_from hs q

-- the jobs of the rows that a frame consists of, as far as they are in the batch
abbrev pub jobs_behind : Headers → ℕ → List ℕ
jobs_behind hs q = range_with_len (frame_from hs q) (frame_count hs q)

unfoldable pub jobs_at : Headers → Option FramePlace → List ℕ
jobs_at hs None = []
jobs_at hs (Some Older) = []
jobs_at hs (Some Newer) = []
jobs_at hs (Some Waiting) = []
jobs_at hs (Some (Behind q)) = jobs_behind hs q

-- a row needs all rows of the frames that its picture is predicted from
unfoldable pub needs_of : Headers → ℕ → List ℕ
needs_of hs j =
    let reads = read_by hs (picture_of_job hs j) in
    jobs_at hs reads.forward ++ jobs_at hs reads.other

-- how many jobs there are. A frame has at most 72 macroblock rows; pictures with more are no batch, and have no jobs
abbrev pub are_small : Headers → Bool
are_small hs = list_all (λ q. nat_le (frame_count hs q) 72) (range_with_len 0 (length hs))

unfoldable pub jobs_of : Headers → ℕ
jobs_of hs = cond (are_small hs) (first_job hs (length hs)) 0
