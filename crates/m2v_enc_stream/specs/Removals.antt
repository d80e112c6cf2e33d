-- The encoder's stream as its buffer's account sees it: the pictures of its groups, and where each of them begins.
use Rattle.std.specs.Prelude.{ℕ, ◌≡◌, ◌+◌, ◌<◌, Bool, false, List, [], ◌∷◌, ◌++◌, map, length, slice_index}
use Rattle.std.specs.List.{range_with_len}
use Rattle.m2v_plane.specs.Samples.{Samples}
use Rattle.m2v_set.specs.declared.settings.Settings.{Settings}
use Rattle.m2v_vbv.specs.Annex.{Removal}
use Rattle.m2v_order.specs.declared.jobs.PictureJob.{PictureJob}
use Rattle.m2v_order.specs.Groups.{Group}
use Rattle.m2v_rate.specs.Plans.{Entries, fresh}
use Rattle.m2v_rate.specs.Safety.{Picture, closed, group_removals, after_groups, sent}
use Rattle.m2v_slice.specs.Books.{Book, CodedPicture, coded, picture_at, job_at, size_of, work_of, ledger_behind}
use Rattle.m2v_enc_stream.specs.Streams.{Progress, at_start, book_of, group_coded, groups_begun, delay_at, pictures_text}
pub use Rattle.m2v_enc_stream.specs.Streams.{groups_of}

-- the pictures of a book, and the ledger that knows them all
abbrev pub coded_of : Book → List CodedPicture
coded_of b = coded b (length b.pictures)

abbrev pub ledger_of : Book → Entries
ledger_of b = ledger_behind b (coded_of b)

-- a picture of a group as the account sees it
abbrev pub seen_at : Book → ℕ → Picture
seen_at b p = record {
  kind = (job_at b p).kind;
  interval = slice_index b.ledger.intervals p;
  activity = slice_index b.ledger.activities p;
  size = size_of b (coded_of b) p;
  work = work_of (coded_of b) p;
  plan = (picture_at (coded_of b) p).plan;
}

abbrev pub seen_of : Book → List Picture
seen_of b = map (seen_at b) (range_with_len 0 (length b.pictures))

-- the pictures of groups behind what is coded so far
unfoldable pub groups_seen : Settings → Progress → List (Group Samples) → List (List Picture)
groups_seen s x [] = []
groups_seen s x (g ∷ more) = seen_of (book_of s x g) ∷ groups_seen s (group_coded s x g false) more

-- the pictures of the groups of raw frames
abbrev pub Seen : Settings → List (List ℕ) → List (List Picture)
Seen s frames = groups_seen s (at_start s) (groups_of s frames)

-- what is coded when these groups are
abbrev pub begun_by : Settings → List (Group Samples) → Progress
begun_by s earlier = groups_begun s (at_start s) earlier

-- picture p of a group that stands behind earlier ones in the stream of these frames
pub record IsIn (s : Settings) (frames : List (List ℕ)) (earlier : List (Group Samples)) (g : Group Samples) (p : ℕ)
    : Type 0 where
  pub later : List (Group Samples)
  pub groups : groups_of s frames ≡ earlier ++ g ∷ later
  pub picture : p < length g.pictures

-- that picture
abbrev pub job_of : Settings → List (Group Samples) → Group Samples → ℕ → PictureJob
job_of s earlier g p = job_at (book_of s (begun_by s earlier) g) p

-- the bit at which its headers begin; `ends` tells that the group is the last one
abbrev pub begins_at : Settings → List (Group Samples) → Group Samples → Bool → ℕ → ℕ
begins_at s earlier g ends p =
    let x = begun_by s earlier in
    let b = book_of s x g in
    length x.text + length (pictures_text b (coded_of b) (ledger_of b) ends (length x.text) p)

-- the vbv_delay in its headers
abbrev pub delay_told : Settings → List (Group Samples) → Group Samples → Bool → ℕ → ℕ
delay_told s earlier g ends p =
    delay_at (ledger_of (book_of s (begun_by s earlier) g)) (job_of s earlier g p) p (begins_at s earlier g ends p)

-- the pictures that are removed before it
abbrev pub removed_before : Settings → List (Group Samples) → Group Samples → ℕ → List Removal
removed_before s earlier g p =
    let before = groups_seen s (at_start s) earlier in
    let here = seen_of (book_of s (begun_by s earlier) g) in
    sent (fresh s) before ++ group_removals (closed (after_groups (fresh s) before) here) p
